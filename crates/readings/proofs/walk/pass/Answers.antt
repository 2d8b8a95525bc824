-- Each return is a case of the definition, by the tests that led there.
use mathlib.Core.Path.{◌≡◌, refl, sym, ap, ◌∙◌}
use mathlib.Core.Bool.{true, false}
use lib.IntN.{ℤ, negsuc}
use lib.Ieee.{Float, fin, binary32, of_bits, neg, le, lt}
use mir.Syntax.{w16}
use mir.ValLaws.{to_z-of_z}
use Rattle.calls.specs.declared.Reading.{Reading}
use Rattle.readings.specs.Sides.{computed_side}
use Rattle.readings.specs.declared.walk.Walk.{Walk}
use Rattle.readings.specs.Located.{far, near}
use Rattle.readings.specs.parts.Walk.{edge_of, moved, passed}
use Rattle.readings.proofs.Numbers.{not-near}
use Rattle.readings.proofs.Walks.{step_fits}
use Rattle.readings.proofs.walk.pass.Goals as goal

-- The two comparisons of a computed side value
module _ (w : Walk) (dx dy : ℤ) (r : Reading) {v : Float} (e : v ≡ computed_side r (edge_of w dx dy)) where
  far-is : le v (neg (of_bits binary32 0x3c80_0000)) ≡ far r (edge_of w dx dy)
  unfolding far neg of_bits
  far-is = ap (λ (x : Float). le x (fin true 1 (negsuc 5))) e

  near-is : lt v (of_bits binary32 0x3c80_0000) ≡ near r (edge_of w dx dy)
  unfolding near of_bits
  near-is = ap (λ (x : Float). lt x (fin false 1 (negsuc 5))) e

  far-not : lt v (of_bits binary32 0x3c80_0000) ≡ false → far r (edge_of w dx dy) ≡ false
  unfolding of_bits neg
  far-not h = sym far-is ∙ not-near v h

pub further-next-requires : goal.further-next-requires
further-next-requires c =
    simp (to_z-of_z w16 _ c.ranges.dx, to_z-of_z w16 _ c.ranges.dy)
    (step_fits c.args.w.at c.requires.0 c.requires.1 c.ranges.dx c.ranges.dy)

pub returns-then-v-2 : goal.returns-then-v-2
unfolding passed edge_of
returns-then-v-2 c =
    let v = simp (to_z-of_z w16 _ c.ranges.dx, to_z-of_z w16 _ c.ranges.dy) at c.side-v.ensures in
    rw (sym (far-is c.args.w c.args.dx c.args.dy c.args.r v) ∙ c.if-v-2.true) refl

pub returns-then-v : goal.returns-then-v
unfolding passed moved edge_of
returns-then-v c =
    let v = simp (to_z-of_z w16 _ c.ranges.dx, to_z-of_z w16 _ c.ranges.dy) at c.side-v.ensures in
    let next = simp (to_z-of_z w16 _ c.ranges.dx, to_z-of_z w16 _ c.ranges.dy) at c.further-next.ensures in
    rw (
      sym (far-is c.args.w c.args.dx c.args.dy c.args.r v) ∙ c.if-v-2.false,
      sym (near-is c.args.w c.args.dx c.args.dy c.args.r v) ∙ c.if-v.true,
      simp next at c.arrive.ensures,
    ) refl

pub returns : goal.returns
unfolding passed moved edge_of
returns c =
    let v = simp (to_z-of_z w16 _ c.ranges.dx, to_z-of_z w16 _ c.ranges.dy) at c.side-v.ensures in
    let next = simp (to_z-of_z w16 _ c.ranges.dx, to_z-of_z w16 _ c.ranges.dy) at c.further-next.ensures in
    rw (
      far-not c.args.w c.args.dx c.args.dy c.args.r v c.if-v.false,
      sym (near-is c.args.w c.args.dx c.args.dy c.args.r v) ∙ c.if-v.false,
      simp next at c.arrive-2.ensures,
    ) refl
