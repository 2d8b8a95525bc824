-- A list that passes the checks stays on the chart, and then the reply is the reading's.
use mathlib.Core.Path.{sym, ap, ◌∙◌}
use Rattle.chart.specs.Fields.{numbers_of}
use Rattle.calls.specs.Replies.{reply_fields}
use Rattle.readings.specs.Replies.{located_reply}
use Rattle.loose_reading.proofs.Meaning.{tame, fit-reply}
use Rattle.loose_reading.proofs.locate.Goals as goal

pub locate-requires : goal.locate-requires
locate-requires c = tame _ _ (sym c.requires)

pub returns : goal.returns
returns c =
    let said = c.reply-located.ensures ∙ ap located_reply c.locate.ensures ∙ fit-reply _ _ _ (sym c.requires) in
    c.put.ensures ∙ ap numbers_of (c.of_reply.ensures ∙ ap reply_fields said)
