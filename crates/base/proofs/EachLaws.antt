-- Laws of the tests of a list's members, by induction on the list: the first member
-- passes or fails, and the shorter list covers the others.
use mathlib.Core.Path.{◌≡◌, refl, sym, ap, ◌∙◌}
use mathlib.Core.Logic.{◌⊎◌, ⊎_elim}
use mathlib.Core.Bool.{Bool, true, false, ◌||◌, and-eq-true_iff, true≢false}
use mathlib.Core.List.Memᴰ
use mathlib.Core.List.{List, [], ◌∷◌, Memᴰ}
use Rattle.base.specs.Each.{all_pass, some_pass}
use Rattle.base.proofs.BelowLaws.{not-held}

module _ {A : Type 0} (f : A → Bool) where
  pub all-at : (xs : List A) → all_pass f xs ≡ true → (x : A) → Memᴰ x xs → f x ≡ true
  unfolding all_pass
  all-at [] e x m = absurd (Memᴰ.not-nil m)
  all-at (y ∷ xs) e x m =
      let both = (and-eq-true_iff (f y) (all_pass f xs)).0 e in
      ⊎_elim (λ (q : x ≡ y). ap f q ∙ both.0) (λ n. all-at xs both.1 x n) (Memᴰ.cases_cons m)

  pub all_of : (xs : List A) → ((x : A) → Memᴰ x xs → f x ≡ true) → all_pass f xs ≡ true
  unfolding all_pass
  all_of [] h = refl
  all_of (y ∷ xs) h = (and-eq-true_iff (f y) (all_pass f xs)).1 (h y (Memᴰ.head refl), all_of xs (λ x m. h x (Memᴰ.tail m)))

  pub any_found : (xs : List A) → some_pass f xs ≡ true → (x : A) × Memᴰ x xs × (f x ≡ true)
  unfolding some_pass
  any_found [] e = absurd (true≢false (sym e))
  any_found (y ∷ xs) e = go (f y) refl e (any_found xs)
    where
      go : (b : Bool) → f y ≡ b → (b || some_pass f xs) ≡ true → (some_pass f xs ≡ true → (x : A) × Memᴰ x xs × (f x ≡ true))
          → (x : A) × Memᴰ x (y ∷ xs) × (f x ≡ true)
      go true q e rest = (y, Memᴰ.head refl, q)
      go false q e rest = let (x, m, p) = rest e in (x, Memᴰ.tail m, p)

  pub any_at : (xs : List A) (x : A) → Memᴰ x xs → f x ≡ true → some_pass f xs ≡ true
  unfolding some_pass
  any_at [] x m p = absurd (Memᴰ.not-nil m)
  any_at (y ∷ xs) x m p = go (f y) refl (Memᴰ.cases_cons m) (λ n. any_at xs x n p)
    where
      go : (b : Bool) → f y ≡ b → (x ≡ y) ⊎ Memᴰ x xs → (Memᴰ x xs → some_pass f xs ≡ true) → (b || some_pass f xs) ≡ true
      go true q m rest = refl
      go false q m rest = ⊎_elim (λ (d : x ≡ y). absurd (true≢false (sym p ∙ ap f d ∙ q))) rest m

  pub any_none : (xs : List A) → some_pass f xs ≡ false → (x : A) → Memᴰ x xs → f x ≡ false
  any_none xs e x m = not-held (f x) (λ p. true≢false (sym (any_at xs x m p) ∙ e))
