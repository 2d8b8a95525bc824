-- One copy fills each half of the slot with the rows of the outline.
use Rattle.std.proofs.Common.{arith, ap, ◌∙◌}
use Rattle.span_list.specs.SpanList.{rows_put}
use Rattle.span_list.proofs.SlotLaws.{halves-written}
use Rattle.span_list.proofs.put_outline.Goals as goal

pub returns : goal.returns
returns c =
    halves-written c.args.rows.now c.args.slot c.spans_of-spans.result
    _ _ c.copy_from_slice.ensures.after (omega arith) c.copy_from_slice-2.ensures.after (omega arith)
    ∙ ap (rows_put c.args.rows.now c.args.slot) c.spans_of-spans.ensures
