-- The first letters of the pieces that begin come first, and then the edge's own.
use Prim.Native.Nat.{ℕ, suc}
use native.Mathlib.Numerals.{add-one}
use native.Mathlib.Omega.{arith}
use mathlib.Core.Path.{ap, ◌∙◌}
use mir.Syntax.{w16}
use mir.ValLaws.{to_z-of_z}
use Rattle.convexity.specs.FromEdges.{quadrant_of, run_in, rise_in}
use Rattle.convexity.proofs.FromEdges.{quadrant-step}
use Rattle.border.proofs.Building.{run-and-rise, step-wrote}
use Rattle.border.proofs.writer.step.Goals as goal

pub write_edge-end-requires : goal.write_edge-end-requires
unfolding rise_in
write_edge-end-requires c =
    let a = c.args in
    let k = simp (to_z-of_z w16 _ c.ranges.dx, to_z-of_z w16 _ c.ranges.dy) at c.quadrant-k.ensures in
    let run = simp (to_z-of_z w16 _ c.ranges.dx, to_z-of_z w16 _ c.ranges.dy) at c.run-run.ensures.0
    ∙ ap (λ (n : ℕ). run_in n a.dx a.dy) k in
    let rise = simp (to_z-of_z w16 _ c.ranges.dx, to_z-of_z w16 _ c.ranges.dy) at c.run-rise.ensures.0
    ∙ ap (λ (n : ℕ). run_in n a.dx a.dy) (add-one c.quadrant-k.result ∙ ap suc k) in
    let begun = c.begin_pieces-first.ensures in (
      omega (arith, k, begun.0, begun.1.sized, run, rise, run-and-rise (quadrant_of a.dx a.dy) a.dx a.dy),
      omega (arith, rise, (quadrant-step a.dx a.dy c.requires.piece_bound.1).rises),
    )

pub returns : goal.returns
unfolding rise_in
returns c =
    let a = c.args in
    let k = simp (to_z-of_z w16 _ c.ranges.dx, to_z-of_z w16 _ c.ranges.dy) at c.quadrant-k.ensures in
    let run = simp (to_z-of_z w16 _ c.ranges.dx, to_z-of_z w16 _ c.ranges.dy) at c.run-run.ensures.0
    ∙ ap (λ (n : ℕ). run_in n a.dx a.dy) k in
    let rise = simp (to_z-of_z w16 _ c.ranges.dx, to_z-of_z w16 _ c.ranges.dy) at c.run-rise.ensures.0
    ∙ ap (λ (n : ℕ). run_in n a.dx a.dy) (add-one c.quadrant-k.result ∙ ap suc k) in
    let begun = c.begin_pieces-first.ensures in
    let wrote = c.write_edge-end.ensures in
    record {
      at = omega (arith, k, begun.0, wrote.0, run, rise, run-and-rise (quadrant_of a.dx a.dy) a.dx a.dy);
      piece = k;
      letters = step-wrote a.writer.piece a.dx a.dy k run rise begun.1 begun.0 wrote.1;
    }
