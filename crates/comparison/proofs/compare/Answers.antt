-- The reply is that of the relation, which also decides the list that is returned.
use mathlib.Core.Path.{ap, ◌∙◌}
use Rattle.chart.specs.Fields.{comparison_fields, numbers_of}
use Rattle.chart.proofs.ReplyLaws.{read_back}
use Rattle.comparison.proofs.compare.Goals as goal

pub returns : goal.returns
returns c =
    let told = c.put.ensures ∙ ap numbers_of c.from.ensures in
    record {
      reply = told ∙ ap (λ v. numbers_of (comparison_fields v)) c.relate-comparison.ensures.answer;
      cells = rw (told, read_back (comparison_fields c.relate-comparison.result)) c.relate-comparison.ensures.cells;
      list = rw (told, read_back (comparison_fields c.relate-comparison.result)) c.inner.ensures;
    }
