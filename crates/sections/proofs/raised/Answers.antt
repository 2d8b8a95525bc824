-- The quotient is above high exactly if the comparison of the products says so.
use Prim.Native.Nat.{ℕ, ◌<◌, ◌≤◌, max}
use native.Mathlib.Omega.{arith}
use mathlib.Core.Path.{◌≡◌}
use Rattle.sections.specs.Sections.{above}
use Rattle.sections.proofs.Quotients.{product_small, above-taken, above-left, above-small}
use Rattle.sections.proofs.raised.Goals as goal

larger : (a b : ℕ) → a < b → b ≡ max a b
larger a b h = omega arith

not-smaller : (a b : ℕ) → b ≤ a → a ≡ max a b
not-smaller a b h = omega arith

pub overflow_mul-d : goal.overflow_mul-d
overflow_mul-d c = omega (arith, product_small c.args.d c.args.high (omega arith) (omega arith))

pub overflow_add-result : goal.overflow_add-result
unfolding above
overflow_add-result c = omega (arith, above-small c.args.a c.args.d (omega arith) (omega arith))

pub returns-then-d-high : goal.returns-then-d-high
unfolding above
returns-then-d-high c =
    let l : c.args.high < above c.args.a c.args.d = above-taken c.args.high c.args.a c.args.d (omega arith) (omega arith) in
    let m = larger c.args.high (above c.args.a c.args.d) l in
    (omega (arith, m), omega (arith, above-small c.args.a c.args.d (omega arith) (omega arith)))

pub returns-else-d-high : goal.returns-else-d-high
returns-else-d-high c = (
  not-smaller c.args.high (above c.args.a c.args.d) (above-left c.args.high c.args.a c.args.d (omega arith) (omega arith)),
  omega arith,
)
