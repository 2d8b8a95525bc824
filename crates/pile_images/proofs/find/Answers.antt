-- No row has a cell, or the letters round the rows decide.
use native.Mathlib.Omega.{arith}
use mathlib.Core.Path.{sym, ◌∙◌}
use mathlib.Core.Bool.{true≢false}
use lib.Seq.{length-take-le}
use borrow.Author.Rules.{rules}
use Rattle.live_sections.specs.parts.Reach.{bottom_of, top_of}
use Rattle.span_list.specs.SpanList.{spans_from}
use Rattle.pile_images.proofs.FindLaws.{found-empty, found-bare, some-row, between, found-long, found-outline, found-other}
use Rattle.pile_images.proofs.find.Goals as goal

pub returns-then-same_rows : goal.returns-then-same_rows
returns-then-same_rows c = found-empty _ _ (c.same_rows.ensures.0 c.if-same_rows.true ∙ c.no_spans.ensures)

pub returns-else-same_rows : goal.returns-else-same_rows
unfolding bottom_of
returns-else-same_rows c =
    found-bare _ _ (sym c.bottom-low.ensures ∙ c.if-low.true)
    (λ e. true≢false (sym (c.same_rows.ensures.1 (e ∙ sym c.no_spans.ensures)) ∙ c.if-same_rows.false))

-- Some row has a cell
pub write_ring-ring-requires : goal.write_ring-ring-requires
unfolding bottom_of top_of
write_ring-ring-requires c =
    let rows = spans_from c.args.layer.now.first.now c.args.layer.now.past.now in
    let k = between rows (some-row _ c.bottom-low.result c.bottom-low.ensures c.if-low.false) c.bottom-low.result c.top-high.result
    c.bottom-low.ensures c.top-high.ensures in
    (k.0, k.1, search rules)

-- The letters written round them
pub returns-then-ring-gt-LONGEST : goal.returns-then-ring-gt-LONGEST
unfolding bottom_of top_of
returns-then-ring-gt-LONGEST c =
    found-long (spans_from c.args.layer.now.first.now c.args.layer.now.past.now)
    (some-row _ c.bottom-low.result c.bottom-low.ensures c.if-low.false) _ c.bottom-low.result c.top-high.result
    c.write_ring-ring.result c.bottom-low.ensures c.top-high.ensures c.write_ring-ring.ensures c.if-ring-gt-LONGEST.true

pub slice_bounds-is_set-end-2 : goal.slice_bounds-is_set-end-2
slice_bounds-is_set-end-2 c =
    sym (length-take-le c.write_ring-ring.result.count _ (omega (arith, c.write_ring-ring.ensures.sized, c.if-ring-gt-LONGEST.false)))

pub returns-then-is_set : goal.returns-then-is_set
unfolding bottom_of top_of
returns-then-is_set c =
    found-outline (spans_from c.args.layer.now.first.now c.args.layer.now.past.now)
    (some-row _ c.bottom-low.result c.bottom-low.ensures c.if-low.false) _ c.bottom-low.result c.top-high.result
    c.write_ring-ring.result c.bottom-low.ensures c.top-high.ensures c.write_ring-ring.ensures c.if-ring-gt-LONGEST.false
    (c.is_set.ensures.0 c.if-is_set.true)

pub returns-else-is_set : goal.returns-else-is_set
unfolding bottom_of top_of
returns-else-is_set c =
    found-other (spans_from c.args.layer.now.first.now c.args.layer.now.past.now)
    (some-row _ c.bottom-low.result c.bottom-low.ensures c.if-low.false) _ c.bottom-low.result c.top-high.result
    c.write_ring-ring.result c.bottom-low.ensures c.top-high.ensures c.write_ring-ring.ensures
    (λ h. true≢false (sym (c.is_set.ensures.1 h) ∙ c.if-is_set.false))
