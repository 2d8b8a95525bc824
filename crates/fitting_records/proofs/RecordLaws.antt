-- A whole record is its six bytes of header and its letters, so a step reads at least the header and stays in the file.
use Prim.Native.Nat.{ℕ, ◌+◌, ◌≤◌}
use native.Mathlib.Omega.{arith}
use mathlib.Core.Path.{◌≡◌, refl, sym, ap, ◌∙◌}
use mathlib.Core.Bool.{Bool, true, false, cond, ◌&&◌, and-eq-true_iff}
use mathlib.Core.List.{List, [], ◌∷◌}
use lib.ListN.{length, drop, length-drop}
use lib.Dec.{eqb, leb}
use borrow.Author.Tests.{leb-true, eqb-true}
use Rattle.std.specs.Prelude.{Option, Some, None, Result, Ok, Err}
use Rattle.fitting_records.specs.declared.Record.{Record}
use Rattle.fitting_records.specs.declared.Fault.{Fault}
use Rattle.fitting_records.specs.declared.Fault.TheVariants.{WrongMark, Truncated}
use Rattle.fitting_records.specs.declared.Step.{Step}
use Rattle.fitting_records.specs.Found.{header, wide, whole, marked, after_mark, found_in, found_at, width, next_at, step_at}

-- The bytes of a whole record, at the front of w
pub record Stands (w : List ℕ) (c r m : ℕ) : Type 0 where
  pub low : ℕ
  pub high : ℕ
  pub behind : List ℕ
  pub bytes : w ≡ 75 ∷ 79 ∷ c ∷ r ∷ low ∷ high ∷ behind
  pub count : m ≡ wide low high
  pub letters : m ≤ length behind

-- A record has a width above 0
pub no_record : {f : Result (Option Record) Fault} {c r m : ℕ} → f ≡ whole c r m → width f ≡ 0 → ⊥
unfolding width
no_record e none = omega (arith, ap width e, none)

after-stands : {a b c r m : ℕ} (w : List ℕ) → after_mark w ≡ whole c r m → a ≡ 75 → b ≡ 79 → Stands (a ∷ b ∷ w) c r m
unfolding after_mark width
after-stands [] e p q = absurd (no_record e refl)
after-stands (x ∷ []) e p q = absurd (no_record e refl)
after-stands (x ∷ y ∷ []) e p q = absurd (no_record e refl)
after-stands (x ∷ y ∷ low ∷ []) e p q = absurd (no_record e refl)
after-stands {a} {b} {c} {r} {m} (x ∷ y ∷ low ∷ high ∷ w) e p q = go (leb (wide low high) (length w)) refl e
  where
    go : (t : Bool) → leb (wide low high) (length w) ≡ t → cond t (whole x y (wide low high)) (Err Truncated) ≡ whole c r m
        → Stands (a ∷ b ∷ x ∷ y ∷ low ∷ high ∷ w) c r m
    go true fits d =
        let there : Record = record { col = x; row = y; count = wide low high } in
        let told : Record = record { col = c; row = r; count = m } in
        let same : there ≡ told = cc in
        let col : x ≡ c = ap (λ (s : Record). s.col) same in
        let row : y ≡ r = ap (λ (s : Record). s.row) same in
        let count : m ≡ wide low high = ap (λ (s : Record). s.count) (sym same) in
        record {
          low = low;
          high = high;
          behind = w;
          bytes = cc;
          count = count;
          letters = omega (arith, leb-true (wide low high) (length w) fits);
        }
    go false fits d = absurd (no_record d refl)

pub record-stands : {c r m : ℕ} (w : List ℕ) → found_in w ≡ whole c r m → Stands w c r m
unfolding found_in marked width
record-stands [] e = absurd (no_record e refl)
record-stands (a ∷ []) e = absurd (no_record e refl)
record-stands {c} {r} {m} (a ∷ b ∷ w) e = go (eqb a 75 && eqb b 79) refl e
  where
    go : (t : Bool) → (eqb a 75 && eqb b 79) ≡ t → cond t (after_mark w) (Err WrongMark) ≡ whole c r m → Stands (a ∷ b ∷ w) c r m
    go true mark d =
        let both = (and-eq-true_iff (eqb a 75) (eqb b 79)).0 mark in
        after-stands w d (eqb-true a 75 both.0) (eqb-true b 79 both.1)
    go false mark d = absurd (no_record d refl)

pub record-within : {c r m : ℕ} (w : List ℕ) → found_in w ≡ whole c r m → header + m ≤ length w
record-within w e = let s = record-stands w e in omega (arith, ap length s.bytes, s.letters)

-- No step goes past the end of the bytes
pub found_within : (w : List ℕ) → width (found_in w) ≤ length w
unfolding width
found_within w = go (found_in w) refl
  where
    go : (f : Result (Option Record) Fault) → found_in w ≡ f → width f ≤ length w
    go (Ok None) e = omega arith
    go (Ok (Some r)) e = record-within w e
    go (Err d) e = omega arith

-- A step over a whole record: the next one begins after its letters, within the file
pub record Passed (file : List ℕ) (at c r m next : ℕ) : Type 0 where
  pub found : found_at file at ≡ whole c r m
  pub behind : next ≡ at + header + m
  pub within : next ≤ length file

pub passed : {file : List ℕ} {at c r m : ℕ} {s : Step} → s ≡ step_at file at → s.found ≡ whole c r m → Passed file at c r m s.next
unfolding width
passed {file} {at} {c} {r} {m} {s} e told =
    let found : found_at file at ≡ whole c r m = ap (λ (t : Step). t.found) (sym e) ∙ told in
    let wide : width (found_at file at) ≡ header + m = ap width found in
    let next : s.next ≡ next_at file at = ap (λ (t : Step). t.next) e in
    let behind : s.next ≡ at + header + m = omega arith in
    record { found = found; behind = behind; within = omega (arith, simp length-drop at (record-within (drop at file) found)) }
