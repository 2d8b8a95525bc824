-- A function of natural numbers with its value replaced at one number.
use Rattle.std.specs.Prelude.{ℕ, cond, eqb}

unfoldable pub put : {A : Type 0} → (ℕ → A) → ℕ → A → ℕ → A
put f n x m = cond (eqb m n) x (f m)
