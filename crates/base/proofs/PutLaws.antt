-- A replaced value stands at its number and nowhere else, because the test of two numbers decides whether they are equal.
use Prim.Native.Nat.{ℕ}
use mathlib.Core.Path.{◌≡◌, refl}
use borrow.Author.Tests.{eq-eqb, ne_eqb}
use Rattle.base.specs.Put.{put}

module _ {A : Type 0} (f : ℕ → A) (n : ℕ) (x : A) where
  pub put-here : put f n x n ≡ x
  unfolding put
  put-here = rw (eq-eqb n n refl)

  pub put-elsewhere : (m : ℕ) → (m ≡ n → ⊥) → put f n x m ≡ f m
  unfolding put
  put-elsewhere m e = rw (ne_eqb m n e)
