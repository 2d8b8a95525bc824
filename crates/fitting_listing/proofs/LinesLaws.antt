-- The bound on the lines does not matter, because each step reads at least a header.
use Prim.Native.Nat.{ℕ, zero, suc, ◌+◌, ◌≤◌, ◌<◌}
use native.Mathlib.Decide.{dec_le}
use native.Mathlib.Omega.{arith}
use mathlib.Core.Path.{◌≡◌, refl, sym, ap, ◌∙◌}
use mathlib.Core.List.{List, [], ◌∷◌}
use lib.ListN.{length, take, drop, length-drop}
use lib.Seq.{take_all, length-take-le}
use borrow.Author.Tests.{lt-ltb, le-ltb}
use Rattle.std.specs.Prelude.{Option, Some, None, Result, Ok, Err}
use Rattle.fitting_records.specs.declared.Record.{Record}
use Rattle.fitting_records.specs.declared.Fault.{Fault}
use Rattle.fitting_records.specs.declared.Fault.TheVariants.{WrongMark, Truncated}
use Rattle.fitting_records.specs.Found.{header, whole, found_in, width}
use Rattle.fitting_records.proofs.RecordLaws.{found_within}
use Rattle.text_lines.specs.declared.Line.{Line}
use Rattle.fitting_listing.specs.Faults as faults
use Rattle.fitting_listing.specs.Lines.{most, line, tested_line, outline_in, listed, lines_from, lines_at, lines_of}

-- The lines after a record matter only if there is a record
listed_same : (n at : ℕ) (w : List ℕ) (f : Result (Option Record) Fault) (p q : List Line) → (0 < width f → p ≡ q) → listed n at w f p ≡ listed n at w f q
unfolding listed width
listed_same n at w (Ok None) p q h = refl
listed_same n at w (Err WrongMark) p q h = refl
listed_same n at w (Err Truncated) p q h = refl
listed_same n at w (Ok (Some r)) p q h = ap (λ (ls : List Line). tested_line n (outline_in r.col r.row r.count w) ∷ ls) (h (omega arith))

-- A bound that is no less than the bytes
pub lines-enough : (k j n at : ℕ) (w : List ℕ) → length w ≤ k → length w ≤ j → lines_from k n at w ≡ lines_from j n at w
unfolding lines_from listed found_in
lines-enough zero zero n at w h i = refl
lines-enough zero (suc j) n at [] h i = refl
lines-enough zero (suc j) n at (b ∷ w) h i = absurd (omega (arith, h))
lines-enough (suc k) zero n at [] h i = refl
lines-enough (suc k) zero n at (b ∷ w) h i = absurd (omega (arith, i))
lines-enough (suc k) (suc j) n at w h i =
    listed_same n at w (found_in w) _ _ (λ some.
    let less : length (drop (width (found_in w)) w) < length w = simp length-drop (omega (arith, found_within w)) in
    lines-enough k j (n + 1) (at + width (found_in w)) (drop (width (found_in w)) w) (omega arith) (omega arith))

-- The lines of bytes after one step
lines_step : (n at : ℕ) (w : List ℕ)
    → lines_at n at w ≡ listed n at w (found_in w) (lines_at (n + 1) (at + width (found_in w)) (drop (width (found_in w)) w))
unfolding lines_at lines_from listed found_in
lines_step n at [] = refl
lines_step n at (b ∷ w) =
    let found = found_in (b ∷ w) in
    let rest = drop (width found) (b ∷ w) in
    listed_same n at (b ∷ w) found _ _ (λ some.
    let less : length rest ≤ length w = simp length-drop (omega (arith, found_within (b ∷ w))) in
    lines-enough (length w) (length rest) (n + 1) (at + width found) rest less (omega arith))

-- One law for each thing that bytes may begin with
pub lines-found-end : (n at : ℕ) (w : List ℕ) → found_in w ≡ Ok None → lines_at n at w ≡ []
unfolding listed
lines-found-end n at w e = lines_step n at w ∙ rw e refl

pub lines-wrong-mark : (n at : ℕ) (w : List ℕ) → found_in w ≡ Err WrongMark → lines_at n at w ≡ line n faults.wrong_mark at ∷ []
unfolding listed
lines-wrong-mark n at w e = lines_step n at w ∙ rw e refl

pub lines_cut : (n at : ℕ) (w : List ℕ) → found_in w ≡ Err Truncated → lines_at n at w ≡ line n faults.truncated at ∷ []
unfolding listed
lines_cut n at w e = lines_step n at w ∙ rw e refl

pub lines-record : (n at c r m : ℕ) (w : List ℕ) → found_in w ≡ whole c r m
    → lines_at n at w ≡ tested_line n (outline_in c r m w) ∷ lines_at (n + 1) (at + (header + m)) (drop (header + m) w)
unfolding listed width
lines-record n at c r m w e = lines_step n at w ∙ rw e refl

-- 25 is checked first, and a shorter file is read
pub lines_long : (file : List ℕ) → most < length file → lines_of file ≡ line 0 faults.too_long most ∷ []
unfolding lines_of
lines_long file h = rw (lt-ltb most (length file) h)

pub lines-read : (file : List ℕ) → length file ≤ most → lines_of file ≡ lines_at 0 0 file
unfolding lines_of
lines-read file h = rw (le-ltb most (length file) h)

-- One byte more than a file may have decides as much as the whole file, so a reader may stop there
pub first-bytes-enough : (file : List ℕ) → lines_of (take (most + 1) file) ≡ lines_of file
first-bytes-enough file =
    elim (dec_le (length file) (most + 1)) [
      | yes h ↦ rw (take_all (most + 1) file h) refl
      | no h ↦ lines_long (take (most + 1) file) (rw (length-take-le (most + 1) file (omega arith)) (omega arith))
          ∙ sym (lines_long file (omega arith))
    ]
