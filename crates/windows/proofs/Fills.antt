-- A list filled with one number.
use Prim.Native.Nat.{ℕ, zero, suc, ◌+◌, ◌-◌, ◌≤◌}
use native.Mathlib.Nat.{zero-add, suc-add}
use native.Mathlib.Omega.{arith}
use mathlib.Core.Path.{◌≡◌, refl, sym, ap, ◌∙◌}
use mathlib.Core.List.{List, ◌∷◌}
use lib.ListN.{take, drop, replicate}
use Rattle.windows.specs.Windows.{window, slots_from}

module _ {A : Type 0} where
  drop-replicate : (a b : ℕ) (x : A) → drop a (replicate (a + b) x) ≡ replicate b x
  drop-replicate zero b x = rw (zero-add b)
  drop-replicate (suc a) b x = rw (suc-add a b) (drop-replicate a b x)

  take-replicate : (a b : ℕ) (x : A) → take a (replicate (a + b) x) ≡ replicate a x
  take-replicate zero b x = refl
  take-replicate (suc a) b x = rw (suc-add a b) (ap (λ (l : List A). x ∷ l) (take-replicate a b x))

  pub window-replicate : (a w n : ℕ) (x : A) → a + w ≤ n → window a w (replicate n x) ≡ replicate w x
  window-replicate a w n x h =
      let e : a + (w + (n - (a + w))) ≡ n = omega arith in
      ap (λ (k : ℕ). window a w (replicate k x)) (sym e) ∙ ap (take w) (drop-replicate a (w + (n - (a + w))) x)
      ∙ take-replicate w (n - (a + w)) x

  pub slots-replicate : (i n : ℕ) (x : A) → slots_from (λ (k : ℕ). x) i n ≡ replicate n x
  unfolding slots_from
  slots-replicate i zero x = refl
  slots-replicate i (suc n) x = ap (λ (l : List A). x ∷ l) (slots-replicate (suc i) n x)
