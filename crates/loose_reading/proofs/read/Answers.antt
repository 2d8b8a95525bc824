-- The reply is the refusal of the checks, or the reading's. The two numbers are 32-bit floats, so its word can be trusted.
use mathlib.Core.Path.{sym, ap, ◌∙◌, subst}
use lib.Dec.{T}
use Rattle.chart.specs.Fields.{numbers_of}
use Rattle.chart.proofs.ReplyLaws.{read_back}
use Rattle.calls.specs.Replies.{reply_fields}
use Rattle.calls.specs.declared.Reading.{Reading}
use Rattle.readings.specs.Located.{Held}
use Rattle.loose_reading.specs.Read.{loose_reading_of}
use Rattle.loose_reading.proofs.Meaning.{unfit-reply, reading-named}
use Rattle.loose_reading.proofs.read.Goals as goal

pub returns-in-Ok-clause-named : goal.returns-in-Ok-clause-named
returns-in-Ok-clause-named c =
    let r : Reading = record { angle = c.args.angle; load = c.args.load } in
    let held : Held r = record { angle = subst T (sym c.well_formed.1.1.0.1) tt; load = subst T (sym c.well_formed.1.1.1.0.1) tt } in
    rw (c.locate.ensures, read_back (reply_fields (loose_reading_of c.args.anchor c.args.edges.now r))) (reading-named _ _ _ held)

pub returns-in-Err-clause-answer : goal.returns-in-Err-clause-answer
unfolding reply_fields
returns-in-Err-clause-answer c =
    let r : Reading = record { angle = c.args.angle; load = c.args.load } in
    c.put.ensures ∙ ap numbers_of (c.from.ensures ∙ ap reply_fields (unfit-reply _ _ r _ (sym c.in-Err.is ∙ c.check.ensures)))

pub returns-in-Err-clause-named : goal.returns-in-Err-clause-named
unfolding reply_fields
returns-in-Err-clause-named c =
    let r : Reading = record { angle = c.args.angle; load = c.args.load } in
    let held : Held r = record { angle = subst T (sym c.well_formed.1.1.0.1) tt; load = subst T (sym c.well_formed.1.1.1.0.1) tt } in
    let said = c.from.ensures ∙ ap reply_fields (unfit-reply _ _ r _ (sym c.in-Err.is ∙ c.check.ensures)) in
    rw (c.put.ensures, read_back c.from.result, said) (reading-named _ _ _ held)
