-- A list without repeats weighs at most as much as a grid that contains each of its members of
-- positive weight: remove these members from the grid one by one.
use Prim.Native.Nat.{ℕ, ◌+◌, ◌≤◌, ◌<◌}
use native.Mathlib.Decide.{dec_lt}
use native.Mathlib.Omega.{arith}
use mathlib.Core.Path.{◌≡◌, refl, sym, ap, ◌∙◌}
use mathlib.Core.Logic.{inl, inr}
use mathlib.Core.List.Memᴰ
use mathlib.Core.List.{List, [], ◌∷◌, map, Memᴰ}

-- The sum of f over the members of a list
unfoldable pub sum_of : {A : Type 0} → (A → ℕ) → List A → ℕ
sum_of f [] = 0
sum_of f (a ∷ l) = f a + sum_of f l

-- No member occurs twice
pub data Distinct {A : Type 0} : List A → Type 0 where
  none : Distinct []
  more : {a : A} {l : List A} → (Memᴰ a l → ⊥) → Distinct l → Distinct (a ∷ l)

-- A member of a mapped list is the image of a member
pub mapped : {A B : Type 0} (f : A → B) (l : List A) {b : B} → Memᴰ b (map f l) → (a : A) × Memᴰ a l × (b ≡ f a)
mapped f [] m = absurd (Memᴰ.not-nil m)
mapped f (a ∷ l) m =
    elim (Memᴰ.cases_cons m) [
      | inl e ↦ (a, Memᴰ.head refl, e)
      | inr t ↦ let r = mapped f l t in (r.0, Memᴰ.tail r.1, r.2)
    ]

module _ {A : Type 0} where
  -- A grid with the member at one place removed
  without : {a : A} {g : List A} → Memᴰ a g → List A
  without (Memᴰ.head {xs = xs} e) = xs
  without (Memᴰ.tail {x = x} m) = x ∷ without m

  sum-without : (w : A → ℕ) {a : A} {g : List A} (m : Memᴰ a g) → sum_of w g ≡ w a + sum_of w (without m)
  unfolding sum_of without
  sum-without w (Memᴰ.head {xs = xs} e) = ap (λ b. w b + sum_of w xs) (sym e)
  sum-without w (Memᴰ.tail {x = x} m) = omega (arith, sum-without w m)

  -- Every other member is still there
  other-kept : {a b : A} {g : List A} (m : Memᴰ a g) → (b ≡ a → ⊥) → Memᴰ b g → Memᴰ b (without m)
  unfolding without
  other-kept (Memᴰ.head e) o k = elim (Memᴰ.cases_cons k) [ inl e' ↦ absurd (o (e' ∙ sym e)) | inr t ↦ t ]
  other-kept (Memᴰ.tail m) o k =
      elim (Memᴰ.cases_cons k) [ inl e' ↦ Memᴰ.head e' | inr t ↦ Memᴰ.tail (other-kept m o t) ]

  pub weighs-at-most-grid :
      (w : A → ℕ) {l : List A} (g : List A) → Distinct l → ((a : A) → Memᴰ a l → 0 < w a → Memᴰ a g) → sum_of w l ≤ sum_of w g
  unfolding sum_of
  weighs-at-most-grid w g none h = omega arith
  weighs-at-most-grid w g (more {a = a} {l = l} out d) h =
      elim (dec_lt 0 (w a)) [
        | yes p ↦
            let m = h a (Memᴰ.head refl) p in
            let rest =
            weighs-at-most-grid w (without m) d (λ b k q. other-kept m (λ e. out (Memᴰ.cast (sym e) k)) (h b (Memᴰ.tail k) q)) in
            omega (arith, sum-without w m)
        | no p ↦ omega (arith, weighs-at-most-grid w g d (λ b k q. h b (Memᴰ.tail k) q))
      ]
