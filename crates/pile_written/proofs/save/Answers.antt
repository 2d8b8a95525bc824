-- The reply's fields are written, beside the image.
use mathlib.Core.Path.{ap, ◌∙◌}
use Rattle.chart.specs.Fields.{numbers_of}
use Rattle.pile_written.proofs.save.Goals as goal

pub returns : goal.returns
returns c = record { answer = c.save.result; saves = c.save.ensures; written = c.put.ensures ∙ ap numbers_of c.of_reply.ensures }
