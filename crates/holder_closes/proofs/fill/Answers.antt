-- Rows, edges and head of the slot are written.
use Rattle.chart.specs.Outline.{outline}
use Rattle.spans.specs.Spans.{spans_of}
use Rattle.holder_answers.proofs.Cases.{filled-by}
use Rattle.holder_closes.proofs.fill.Goals as goal

pub returns : goal.returns
returns c =
    let a = c.args in
    λ own. filled-by own a.rows.now _ a.numbers.now _ a.heads.now _ a.slot a.anchor a.list.now a.edges
    (spans_of (outline a.start a.letters.now)) c.put_outline.ensures c.put_numbers.ensures c.put_slot_head.ensures
