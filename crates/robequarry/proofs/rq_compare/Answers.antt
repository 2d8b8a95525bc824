-- The fields of the comparison are the reply.
use mathlib.Core.Path.{ap, ◌∙◌}
use Rattle.chart.specs.Fields.{numbers_of, comparison_fields}
use Rattle.chart.proofs.ReplyLaws.{read_back}
use Rattle.robequarry.proofs.rq_compare.Goals as goal

pub returns : goal.returns
returns c =
    let asked = c.relate-comparison.ensures in
    record {
      reply = c.put.ensures ∙ ap numbers_of (c.from.ensures ∙ ap comparison_fields asked.answer);
      cells = rw (c.put.ensures, read_back c.from.result, c.from.ensures) asked.cells;
    }
