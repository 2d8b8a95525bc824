-- The windows of two that a loop has left of places i to j of a list: one from the front or from the back is a pair of neighbours, and
-- without a pair left, i is j.
use Prim.Native.Nat.{ℕ, ◌+◌, ◌-◌, ◌≤◌, ◌<◌}
use native.Mathlib.Omega.{arith}
use mathlib.Core.Path.{◌≡◌, refl, ap, ◌∙◌}
use mathlib.Core.List.{List}
use lib.ListN.{length, take, drop, get_or, length-take, length-drop}
use lib.Seq.{get_or-take, get_or-drop, take-take, drop-drop}
use denote.Ref.{Bor}
use Rattle.std.specs.declared.slice.Windows.{Windows}
use Rattle.std.proofs.Common.{Some, None}
use Rattle.std.specs.Slice.Iter.{windows_rest, windows_size, windows_steps}
use Rattle.std.specs.Iterator.Adapters.{windows_steps_back}
use Rattle.std.proofs.lemmas.List.{drop-take}
use Rattle.rows.specs.parts.Rows.{rows}

pub record Left (ends : List ℕ) (i j : ℕ) (s : Windows ℕ) : Type 0 where
  pub size : windows_size s ≡ 2
  pub rest : windows_rest s ≡ take (j + 1 - i) (drop i ends)
  pub ordered : i ≤ j
  pub within : j < length ends

-- A window that holds the elements at places n and m
pub record Pair (ends : List ℕ) (n m : ℕ) (w : Bor (List ℕ)) : Type 0 where
  pub first : get_or w.now 0 0 ≡ rows ends n
  pub second : get_or w.now 1 0 ≡ rows ends m

module _ {ends : List ℕ} {i j : ℕ} {s : Windows ℕ} (l : Left ends i j s) where
  long : length (windows_rest s) ≡ j + 1 - i
  long = omega (arith, ap length l.rest, length-take (j + 1 - i) (drop i ends), length-drop i ends, l.ordered, l.within)

  -- An element of what is left
  element : (k : ℕ) → k < j + 1 - i → get_or (windows_rest s) k 0 ≡ rows ends (i + k)
  element k h = ap (λ (r : List ℕ). get_or r k 0) l.rest ∙ get_or-take (j + 1 - i) (drop i ends) k 0 h ∙ get_or-drop i ends k 0

  pub none-left : (t : Windows ℕ) → windows_steps s None t → i ≡ j
  none-left t h = omega (arith, h.1.0, long, l.size, l.ordered)

  pub from-front : (t : Windows ℕ) (w : Bor (List ℕ)) → windows_steps s (Some w) t → (i < j) × Left ends (i + 1) j t × Pair ends i (i + 1) w
  from-front t w h =
      let some : i < j = omega (arith, h.1.0, long, l.size, l.ordered) in
      let d : j + 1 - i ≡ 1 + (j + 1 - (i + 1)) = omega arith in
      let part : (k n : ℕ) → k < 2 → i + k ≡ n → get_or w.now k 0 ≡ rows ends n =
      λ k n f g. ap (λ (r : List ℕ). get_or r k 0) h.1.1 ∙ get_or-take (windows_size s) (windows_rest s) k 0 (omega (arith, l.size, f))
      ∙ element k (omega (arith, f, some)) ∙ ap (rows ends) g in (
        some,
        record {
          size = h.0 ∙ l.size;
          rest =
              h.1.2 ∙ ap (drop 1) (l.rest ∙ ap (λ (n : ℕ). take n (drop i ends)) d)
              ∙ drop-take 1 (j + 1 - (i + 1)) (drop i ends)
              ∙ ap (take (j + 1 - (i + 1))) (drop-drop 1 i ends);
          ordered = omega (arith, some);
          within = l.within;
        },
        record { first = part 0 i (omega arith) (omega arith); second = part 1 (i + 1) (omega arith) refl },
      )

  pub from-back : (t : Windows ℕ) (w : Bor (List ℕ)) → windows_steps_back s (Some w) t → (i < j) × Left ends i (j - 1) t × Pair ends (j - 1) j w
  from-back t w h =
      let some : i < j = omega (arith, h.1.0, long, l.size, l.ordered) in
      let m = length (windows_rest s) - windows_size s in
      let part : (k n : ℕ) → k < 2 → i + (m + k) ≡ n → get_or w.now k 0 ≡ rows ends n =
      λ k n f g. ap (λ (r : List ℕ). get_or r k 0) h.1.1 ∙ get_or-drop m (windows_rest s) k 0
      ∙ element (m + k) (omega (arith, f, long, l.size, some)) ∙ ap (rows ends) g in
      let d : length (windows_rest s) - 1 ≡ j - 1 + 1 - i = omega (arith, long, some) in (
        some,
        record {
          size = h.0 ∙ l.size;
          rest =
              h.1.2 ∙ (λ x. take (d x) (l.rest x))
              ∙ take-take (j - 1 + 1 - i) (j + 1 - i) (drop i ends) (omega (arith, some));
          ordered = omega (arith, some);
          within = omega (arith, l.within);
        },
        record {
          first = part 0 (j - 1) (omega arith) (omega (arith, long, l.size, some));
          second = part 1 j (omega arith) (omega (arith, long, l.size, some));
        },
      )
