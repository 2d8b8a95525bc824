-- The fields of the witness call are the reply.
use mathlib.Core.Path.{ap, ◌∙◌}
use Rattle.chart.specs.Fields.{numbers_of}
use Rattle.chart.proofs.ReplyLaws.{read_back}
use Rattle.witness.specs.Witnessed.{witnessed_fields}
use Rattle.robequarry.proofs.rq_witness.Goals as goal

pub returns : goal.returns
returns c =
    let asked = c.witness-witnessed.ensures in
    record {
      reply = c.put.ensures ∙ ap numbers_of (c.of_witnessed.ensures ∙ ap witnessed_fields asked.answer);
      cells = asked.cells;
      named = rw (c.put.ensures, read_back c.of_witnessed.result, c.of_witnessed.ensures) asked.named;
    }
