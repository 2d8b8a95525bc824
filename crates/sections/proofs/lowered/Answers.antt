-- The quotient is below low exactly if the comparison of the products says so.
use Prim.Native.Nat.{ℕ, ◌<◌, ◌≤◌, min}
use native.Mathlib.Omega.{arith}
use mathlib.Core.Path.{◌≡◌}
use Rattle.sections.specs.Sections.{ceiling}
use Rattle.sections.proofs.Quotients.{product_small, ceiling-taken, ceiling-left}
use Rattle.sections.proofs.lowered.Goals as goal

smaller : (a b : ℕ) → b < a → b ≡ min a b
smaller a b h = omega arith

not-larger : (a b : ℕ) → a ≤ b → a ≡ min a b
not-larger a b h = omega arith

pub overflow_mul-d : goal.overflow_mul-d
overflow_mul-d c = omega (arith, product_small c.args.d c.args.low (omega arith) (omega arith))

pub returns-then-a-d : goal.returns-then-a-d
unfolding ceiling
returns-then-a-d c =
    let l : ceiling c.args.a c.args.d < c.args.low = ceiling-taken c.args.low c.args.a c.args.d (omega arith) (omega arith) in
    (smaller c.args.low (ceiling c.args.a c.args.d) l, omega arith)

pub returns-else-a-d : goal.returns-else-a-d
returns-else-a-d c = (
  not-larger c.args.low (ceiling c.args.a c.args.d) (ceiling-left c.args.low c.args.a c.args.d (omega arith) (omega arith)),
  omega arith,
)
