-- A refused outline is not taken. Otherwise the anchor and the edges that the test gives are compared.
use native.Mathlib.Omega.{arith}
use mathlib.Core.Path.{sym, ◌∙◌}
use lib.ListN.{length, length-replicate}
use lib.Seq.{length-take-le}
use lib.IntN.{pos}
use Rattle.chart.specs.Limits.{most_numbers}
use Rattle.chart.specs.Outline.{outline}
use Rattle.verdict.proofs.VerdictLaws.{roomy}
use Rattle.judge.specs.Judged.{zeros}
use Rattle.border_model.proofs.Tested.{not_taken, taken-compared}
use Rattle.border.proofs.taken_as.Goals as goal

pub slice_bounds-numbers-end : goal.slice_bounds-numbers-end
slice_bounds-numbers-end c =
    let taken = sym c.test.ensures.verdict ∙ c.in-Ok.is in
    let a = c.args in
    omega (arith, (roomy (outline a.anchor a.letters.now) (length zeros) _ _ taken).room, c.test.auto.edges)

pub slice_bounds-same_edges-end : goal.slice_bounds-same_edges-end
slice_bounds-same_edges-end c =
    let taken = sym c.test.ensures.verdict ∙ c.in-Ok.is in
    let a = c.args in
    let r = (roomy (outline a.anchor a.letters.now) (length zeros) _ _ taken).room in
    sym (length-take-le _ _ (omega (arith, r, c.test.auto.edges)))

pub returns-in-Err : goal.returns-in-Err
returns-in-Err c =
    let a = c.args in
    sym (not_taken (outline a.anchor a.letters.now) a.anchor a.edges.now zeros
    (omega (arith, length-replicate most_numbers (pos 0))) (sym c.test.ensures.verdict ∙ c.in-Err.is))

pub returns-in-Ok : goal.returns-in-Ok
returns-in-Ok c =
    let taken = sym c.test.ensures.verdict ∙ c.in-Ok.is in
    (rw c.from-n.ensures at c.same_edges.ensures)
    ∙ sym (taken-compared (outline c.args.anchor c.args.letters.now) _ _ zeros taken c.test.ensures.edges)
