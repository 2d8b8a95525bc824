-- The border is written, and its fields are the reply.
use mathlib.Core.Path.{ap, ◌∙◌}
use Rattle.chart.specs.Fields.{numbers_of}
use Rattle.border_model.specs.Traced.{traced_fields}
use Rattle.chart.proofs.ReplyLaws.{read_back}
use Rattle.robequarry.proofs.rq_border.Goals as goal

pub returns : goal.returns
returns c =
    let traced = c.border-traced.ensures in
    record {
      reply = c.put.ensures ∙ ap numbers_of (c.of_traced.ensures ∙ ap traced_fields traced.answer);
      letters = traced.letters;
      outline = rw (c.put.ensures, read_back c.of_traced.result, c.of_traced.ensures) traced.outline;
    }
