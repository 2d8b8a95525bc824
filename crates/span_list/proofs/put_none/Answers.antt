-- Both halves of the slot are filled with zeros, and no other byte is written.
use Rattle.std.proofs.Common.{ℕ, ◌+◌, ◌*◌, ◌-◌, ◌≡◌, ap, ◌∙◌, arith, length, replicate}
use borrow.Rule.Slice.PartMut.{put_mid, mid_of, mid_len, same_len_mid}
use Rattle.chart.specs.Limits.{side}
use Rattle.spans.specs.Spans.{no_spans}
use Rattle.span_list.proofs.SlotLaws.{halves-written, none-whole}
use Rattle.span_list.proofs.put_none.Goals as goal

pub returns : goal.returns
unfolding no_spans
returns c =
    let at = 510 * c.args.slot in
    let rows = c.args.rows.now in
    let left : length (mid_of at (at + 255 - at) rows) ≡ side = mid_len at (at + 255) rows (omega arith) ∙ omega arith in
    let size : length (put_mid at (at + 255 - at) rows c.fill.new.self) ≡ length rows = same_len_mid at _ rows _ c.fill.ensures.len in
    let right : length (mid_of (at + 255) (at + 510 - (at + 255)) (put_mid at (at + 255 - at) rows c.fill.new.self)) ≡ side =
    mid_len (at + 255) (at + 510) _ (omega arith) ∙ omega arith in
    halves-written rows c.args.slot no_spans _ _
    (c.fill.ensures.after (λ y h. h) ∙ ap (λ (n : ℕ). replicate n 0) left) none-whole.first
    (c.fill-2.ensures.after (λ y h. h) ∙ ap (λ (n : ℕ). replicate n 0) right) none-whole.past
