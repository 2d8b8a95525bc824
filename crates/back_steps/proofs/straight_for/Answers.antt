-- Without a back-step the count is the piece's length; with one the search finds it.
use mathlib.Core.Path.{sym, ap, ◌∙◌}
use lib.ListN.{length}
use Rattle.back_steps.specs.parts.BackSteps.{straight_for}
use Rattle.back_steps.proofs.BackStepLaws.{part_length, part-once}
use Rattle.back_steps.proofs.straight_for.Goals as goal

pub returns : goal.returns
returns c =
    let once = part-once c.requires c.if-letters-to.false in
    sym (part_length c.requires) ∙ ap length (sym once) ∙ c.some_back_step.ensures c.if-some_back_step.false ∙ ap (straight_for c.args.k) once
