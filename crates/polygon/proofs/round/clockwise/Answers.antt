-- Two products of 30 bits fit, and their order is the sign of the cross product.
use native.Mathlib.Omega.{arith}
use mathlib.Core.Path.{◌∙◌}
use lib.IntN.{ℤ, ◌*ℤ◌}
use mir.Syntax.{w16, w32}
use mir.Val.{SFits}
use mir.ValLaws.{to_z-of_z}
use Rattle.base.proofs.Sizes.{fits-size, size-product-le, size-16}
use Rattle.directions.specs.Round.{cross}
use Rattle.polygon.proofs.Integers.{cross-is}
use Rattle.polygon.proofs.round.clockwise.Goals as goal

product-fits : {a b : ℤ} → SFits w16 a → SFits w16 b → SFits w32 (a *ℤ b)
product-fits {a} {b} f g = fits-size w32 _ (omega (arith, size-product-le a b (size-16 a f) (size-16 b g)))

pub returns : goal.returns
unfolding cross
returns c =
    let r = c.ranges in
    let dy = to_z-of_z w32 c.from.result (record { sfits = c.from.type_inv }) ∙ c.from.ensures ∙ to_z-of_z w16 c.args.dy r.dy in
    let ex = to_z-of_z w32 c.from-2.result (record { sfits = c.from-2.type_inv }) ∙ c.from-2.ensures ∙ to_z-of_z w16 c.args.ex r.ex in
    let dx = to_z-of_z w32 c.from-3.result (record { sfits = c.from-3.type_inv }) ∙ c.from-3.ensures ∙ to_z-of_z w16 c.args.dx r.dx in
    let ey = to_z-of_z w32 c.from-4.result (record { sfits = c.from-4.type_inv }) ∙ c.from-4.ensures ∙ to_z-of_z w16 c.args.ey r.ey in
    simp (dx, dy, ex, ey)
    (simp (to_z-of_z w32 _ (product-fits r.dy r.ex), to_z-of_z w32 _ (product-fits r.dx r.ey)) (cross-is (c.args.dx *ℤ c.args.ey) (c.args.dy *ℤ c.args.ex)))
