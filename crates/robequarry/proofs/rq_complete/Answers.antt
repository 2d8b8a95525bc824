-- The completion is written, and its fields are the reply.
use mathlib.Core.Path.{ap, ◌∙◌}
use Rattle.chart.specs.Fields.{numbers_of}
use Rattle.completion_call.specs.Completion.{completed_fields}
use Rattle.chart.proofs.ReplyLaws.{read_back}
use Rattle.robequarry.proofs.rq_complete.Goals as goal

pub returns : goal.returns
returns c =
    let completed = c.complete-completed.ensures in
    record {
      reply = c.put.ensures ∙ ap numbers_of (c.of_completed.ensures ∙ ap completed_fields completed.answer);
      letters = completed.letters;
      cells = rw (c.put.ensures, read_back c.of_completed.result, c.of_completed.ensures) completed.cells;
    }
