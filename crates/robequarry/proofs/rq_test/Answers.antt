-- The fields of the test are the reply.
use mathlib.Core.Path.{ap, ◌∙◌}
use Rattle.chart.specs.Fields.{numbers_of}
use Rattle.chart.proofs.ReplyLaws.{read_back}
use Rattle.robequarry.proofs.rq_test.Goals as goal

pub returns : goal.returns
returns c =
    let tested = c.test-verdict.ensures in
    record {
      reply = c.put.ensures ∙ ap numbers_of (c.from.ensures ∙ tested.reply);
      edges = tested.edges;
      cell = rw (c.put.ensures, read_back c.from.result, c.from.ensures) tested.cell;
    }
