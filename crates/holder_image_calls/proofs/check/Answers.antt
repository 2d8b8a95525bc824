-- The reply's fields are written.
use mathlib.Core.Path.{◌∙◌, ap}
use Rattle.chart.specs.Fields.{numbers_of}
use Rattle.calls.specs.Replies.{Reply, reply_fields}
use Rattle.holder_image_calls.proofs.check.Goals as goal

pub returns : goal.returns
returns c = λ l. c.put.ensures ∙ ap (λ (r : Reply). numbers_of (reply_fields r)) (c.check.ensures l)
