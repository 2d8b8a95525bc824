-- The test of two lists passes exactly if they are equal: it compares number by number, and both lists must end together.
use Prim.Native.Nat.{ℕ, ◌+◌, ◌<◌}
use native.Mathlib.Numerals.{add-one}
use native.Mathlib.Omega.{arith}
use mathlib.Core.Path.{◌≡◌, refl, sym, ap, ◌∙◌, subst}
use mathlib.Core.Logic.{◌↔◌}
use mathlib.Core.Bool.{true, false, ◌&&◌, false≢true, and-eq-true_iff}
use mathlib.Core.List.{List, [], ◌∷◌}
use lib.ListN.{length, drop, get_or}
use lib.Seq.{drop-cons, drop-length}
use lib.Dec.{eqb}
use lib.IntN.{ℤ, pos, negsuc}
use mir.Syntax.{Width}
use mir.Val.{SFits, to_z, of_z}
use mir.ValLaws.{to_z-of_z}
use borrow.Author.Tests.{eqb-true, eq-eqb}
use Rattle.base.specs.Same.{sameℤ, sameℤs}
use Rattle.base.proofs.BelowLaws.{same_test, not-held}

pub same-ℤ : (a b : ℤ) → sameℤ a b ≡ true → a ≡ b
unfolding sameℤ
same-ℤ (pos a) (pos b) e = ap pos (eqb-true a b e)
same-ℤ (pos a) (negsuc b) e = absurd (false≢true e)
same-ℤ (negsuc a) (pos b) e = absurd (false≢true e)
same-ℤ (negsuc a) (negsuc b) e = ap negsuc (eqb-true a b e)

pub same_self : (a : ℤ) → sameℤ a a ≡ true
unfolding sameℤ
same_self (pos a) = eq-eqb a a refl
same_self (negsuc a) = eq-eqb a a refl

pub same-ℤs : (es fs : List ℤ) → sameℤs es fs ≡ true → es ≡ fs
unfolding sameℤs
same-ℤs [] [] e = refl
same-ℤs [] (b ∷ fs) e = absurd (false≢true e)
same-ℤs (a ∷ es) [] e = absurd (false≢true e)
same-ℤs (a ∷ es) (b ∷ fs) e =
    let both = (and-eq-true_iff (sameℤ a b) (sameℤs es fs)).0 e in
    λ i. same-ℤ a b both.0 i ∷ same-ℤs es fs both.1 i

same-ℤs-self : (es : List ℤ) → sameℤs es es ≡ true
unfolding sameℤs
same-ℤs-self [] = refl
same-ℤs-self (a ∷ es) = (and-eq-true_iff (sameℤ a a) (sameℤs es es)).1 (same_self a, same-ℤs-self es)

pub same-ℤs-iff : (es fs : List ℤ) → (sameℤs es fs ≡ true) ↔ (es ≡ fs)
same-ℤs-iff es fs = (same-ℤs es fs, λ e. subst (λ (l : List ℤ). sameℤs es l ≡ true) e (same-ℤs-self es))

-- ---- from an index on: the numbers there, and the rest

pub same-longer : (es fs : List ℤ) → (length es ≡ length fs → ⊥) → sameℤs es fs ≡ false
same-longer es fs h = not-held (sameℤs es fs) (λ e. h (ap length (same-ℤs es fs e)))

module _ (es fs : List ℤ) (i : ℕ) (h : i < length es) (same : length es ≡ length fs) where
  same_drop : sameℤs (drop i es) (drop i fs) ≡ (sameℤ (get_or es i (pos 0)) (get_or fs i (pos 0)) && sameℤs (drop (i + 1) es) (drop (i + 1) fs))
  unfolding sameℤs
  same_drop = rw (drop-cons es i (pos 0) h, drop-cons fs i (pos 0) (omega arith), add-one i)

  pub same_next : sameℤ (get_or es i (pos 0)) (get_or fs i (pos 0)) ≡ true
      → sameℤs (drop i es) (drop i fs) ≡ sameℤs (drop (i + 1) es) (drop (i + 1) fs)
  same_next e = rw (same_drop, e)

  pub same-differ : sameℤ (get_or es i (pos 0)) (get_or fs i (pos 0)) ≡ false → sameℤs (drop i es) (drop i fs) ≡ false
  same-differ e = rw (same_drop, e)

pub same_end : (es fs : List ℤ) (i : ℕ) → i ≡ length es → length es ≡ length fs → sameℤs (drop i es) (drop i fs) ≡ true
unfolding sameℤs
same_end es fs i h e =
    let k : i ≡ length fs = h ∙ e in
    ap (λ (n : ℕ). sameℤs (drop n es) (drop i fs)) h ∙ rw (drop-length es, k, drop-length fs)

-- ---- signed machine numbers, which are given by their bits

pub same_bits : (w : Width) (a b : ℤ) → SFits w a → SFits w b → eqb (of_z w a) (of_z w b) ≡ sameℤ a b
same_bits w a b f g =
    same_test {P = a ≡ b} (eqb (of_z w a) (of_z w b)) (sameℤ a b)
    (λ e. sym (to_z-of_z w a f) ∙ ap (to_z w) (eqb-true (of_z w a) (of_z w b) e) ∙ to_z-of_z w b g, λ e. eq-eqb (of_z w a) (of_z w b) (ap (of_z w) e))
    (same-ℤ a b, λ e. subst (λ (z : ℤ). sameℤ a z ≡ true) e (same_self a))
