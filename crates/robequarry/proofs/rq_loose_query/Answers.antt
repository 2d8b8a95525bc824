-- The fields of the query are the reply.
use mathlib.Core.Path.{ap, ◌∙◌}
use Rattle.chart.specs.Fields.{numbers_of, position_fields}
use Rattle.chart.proofs.ReplyLaws.{read_back}
use Rattle.robequarry.proofs.rq_loose_query.Goals as goal

pub returns : goal.returns
returns c =
    let asked = c.loose_query-position.ensures in
    record {
      reply = c.put.ensures ∙ ap numbers_of (c.from.ensures ∙ ap position_fields asked.answer);
      hull = rw (c.put.ensures, read_back c.from.result, c.from.ensures) asked.hull;
    }
