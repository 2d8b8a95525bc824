-- A loop that has made n steps of a fold makes the next, and a loop that has tested j numbers tests the next.
use Prim.Native.Nat.{ℕ, suc, ◌+◌, ◌-◌, ◌≤◌, ◌<◌}
use native.Mathlib.Numerals.{add-one}
use native.Mathlib.Omega.{arith}
use mathlib.Core.Path.{◌≡◌, refl, sym, ap, ◌∙◌}
use mathlib.Core.Bool.{Bool, true, false, true≢false}
use Rattle.base.specs.Below.{every}
use Rattle.base.proofs.BelowLaws.{not-held, every-at}
use Rattle.sections.specs.Sections.{fold}

module _ {A : Type 0} (a : A) where
  pub fold_next : (f : ℕ → A → A) (n m : ℕ) {x y : A} → m ≡ suc n → x ≡ fold f n a → y ≡ f n x → y ≡ fold f m a
  unfolding fold
  fold_next f n m e h g = rw e (g ∙ ap (f n) h)

  -- The same with steps counted from b
  pub fold-from : (f : ℕ → A → A) (b k : ℕ) {x y : A} → b ≤ k → x ≡ fold (λ n. f (b + n)) (k - b) a → y ≡ f k x
      → y ≡ fold (λ n. f (b + n)) (k + 1 - b) a
  fold-from f b k {x} h e g = fold_next (λ n. f (b + n)) (k - b) (k + 1 - b) (omega arith) e (g ∙ ap (λ (m : ℕ). f m x) (omega arith))

  pub fold-none : (f : ℕ → A → A) (n : ℕ) → n ≡ 0 → a ≡ fold f n a
  unfolding fold
  fold-none f n e = rw e refl

-- A loop that tests every number
pub every-next : (f : ℕ → Bool) (j : ℕ) → every f j ≡ true → f j ≡ true → every f (j + 1) ≡ true
unfolding every
every-next f j h e = rw (add-one j, h, e)

pub every-not : (f : ℕ → Bool) (n j : ℕ) → j < n → f j ≡ false → false ≡ every f n
every-not f n j l h = sym (not-held (every f n) (λ e. true≢false (sym (every-at f n e j l) ∙ h)))
