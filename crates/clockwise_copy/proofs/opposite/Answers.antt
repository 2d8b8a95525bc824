-- Below 4 it is two letters on, and 1 is the definition's last clause.
use Prim.Native.Nat.{ℕ, zero, suc, ◌+◌, ◌%◌, ◌<◌}
use native.Mathlib.Omega.{arith}
use mathlib.Core.Path.{◌≡◌, refl, sym}
use Rattle.convexity.specs.Clockwise.{opposite}
use Rattle.convexity.proofs.Clockwise.{opposite-high}
use Rattle.clockwise_copy.proofs.opposite.Goals as goal

two-on : (a : ℕ) → a < 4 → (a + 2) % 4 ≡ opposite a
unfolding opposite
two-on zero l = refl
two-on (suc zero) l = refl
two-on (suc (suc zero)) l = refl
two-on (suc (suc (suc zero))) l = refl
two-on (suc (suc (suc (suc a)))) l = absurd (omega arith)

pub returns-then-letter-lt4 : goal.returns-then-letter-lt4
returns-then-letter-lt4 c = two-on _ c.if-letter-lt4.true

pub returns-else-letter-lt4 : goal.returns-else-letter-lt4
returns-else-letter-lt4 c = sym (opposite-high _ (omega (arith, c.if-letter-lt4.false)))
