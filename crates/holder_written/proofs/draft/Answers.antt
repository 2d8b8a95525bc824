-- The seven fields fill the array.
use mathlib.Core.Path.{◌∙◌, ap}
use Rattle.chart.specs.Fields.{numbers_of}
use Rattle.holder_written.specs.Written.{draft_fields}
use Rattle.holder_written.proofs.draft.Goals as goal

pub returns : goal.returns
returns c =
    λ l r n. c.put.ensures ∙ ap numbers_of (c.of_draft-fields.ensures ∙ ap draft_fields (c.draft.ensures l r n))
