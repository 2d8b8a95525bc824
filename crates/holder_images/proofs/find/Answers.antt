-- The place's word, then the border that the edges give, then the rows.
use Prim.Native.Nat.{ℕ, ◌≤◌}
use native.Mathlib.Omega.{arith}
use mathlib.Core.Path.{◌≡◌, sym, ◌∙◌}
use mathlib.Core.Bool.{true≢false}
use lib.Seq.{length-take-le}
use Rattle.chart.specs.Limits.{longest}
use Rattle.holder_memory.specs.Layout.{arrays, work_at}
use Rattle.holder_images.proofs.WholeLaws.{own_is, traced-count, anchor-fits, found-whole, found-other, found_none, busy}
use Rattle.holder_images.proofs.WholeLaws.{holds-nothing, holds-damaged, holds-idle, holds-whole}
use Rattle.holder_images.proofs.find.Goals as goal

pub returns-then-word-eq0 : goal.returns-then-word-eq0
returns-then-word-eq0 c = λ own. holds-nothing _ _ _ _ c.if-word-eq0.true

pub returns-then-slot-ge-SLOTS : goal.returns-then-slot-ge-SLOTS
returns-then-slot-ge-SLOTS c = λ own. holds-idle _ _ _ _ c.if-word-eq0.false _ c.slot_of-slot.ensures c.if-slot-ge-SLOTS.true

pub slice_bounds-same_rows-end : goal.slice_bounds-same_rows-end
slice_bounds-same_rows-end c =
    let few : c.in-Ok.n ≤ longest =
    traced-count (work_at c.args.rows.now c.args.numbers.now c.args.heads.now c.slot_of-slot.result) _ _
    (c.anchor_at-anchor.ensures c.args.rows.now c.args.numbers.now) (c.edges_at-list.ensures c.args.rows.now)
    c.args.letters.now c.border-traced.new.letters c.told-letters _ c.border-traced.ensures.answer c.border-traced.ensures.outline
    _ c.in-Ok.is in
    omega (arith, few, c.from-count.ensures, c.border-traced.auto.letters, c.told-letters)

pub slice_bounds-same_rows-end-in-Ok : goal.slice_bounds-same_rows-end-in-Ok
slice_bounds-same_rows-end-in-Ok c =
    let few : c.in-Ok.n ≤ longest =
    traced-count (work_at c.args.rows.now c.args.numbers.now c.args.heads.now c.slot_of-slot.result) _ _
    (c.anchor_at-anchor.ensures c.args.rows.now c.args.numbers.now) (c.edges_at-list.ensures c.args.rows.now)
    c.args.letters.now c.border-traced.new.letters c.told-letters _ c.border-traced.ensures.answer c.border-traced.ensures.outline
    _ c.in-Ok.is in
    rw c.from-count.ensures
    (sym (length-take-le c.in-Ok.n c.border-traced.new.letters (omega (arith, few, c.border-traced.auto.letters, c.told-letters))))

pub shared_ref_as_front-same_rows : goal.shared_ref_as_front-same_rows
shared_ref_as_front-same_rows c =
    let few : c.in-Ok.n ≤ longest =
    traced-count (work_at c.args.rows.now c.args.numbers.now c.args.heads.now c.slot_of-slot.result) _ _
    (c.anchor_at-anchor.ensures c.args.rows.now c.args.numbers.now) (c.edges_at-list.ensures c.args.rows.now)
    c.args.letters.now c.border-traced.new.letters c.told-letters _ c.border-traced.ensures.answer c.border-traced.ensures.outline
    _ c.in-Ok.is in
    omega (arith, few, c.from-count.ensures)

pub returns-then-same_rows : goal.returns-then-same_rows
unfolding work_at
returns-then-same_rows c = λ own.
    let s = c.args in
    let h = arrays own s.rows.now s.numbers.now s.heads.now in
    let slot = c.slot_of-slot.result in
    let work = work_at s.rows.now s.numbers.now s.heads.now slot in
    let after = c.border-traced.new.letters in
    let ea = c.anchor_at-anchor.ensures s.rows.now s.numbers.now in
    let ee = c.edges_at-list.ensures s.rows.now in
    let said = c.border-traced.ensures in
    let n = c.in-Ok.n in
    let e = c.in-Ok.is in
    rw c.from-count.ensures
    (holds-whole h _ _ after c.if-word-eq0.false slot c.slot_of-slot.ensures _ n
    (found-whole work _ _ ea ee s.letters.now after c.told-letters _ said.answer said.outline n e
    (busy h s.p s.k after c.if-word-eq0.false slot c.slot_of-slot.ensures c.if-slot-ge-SLOTS.false)
    ((rw c.from-count.ensures at c.same_rows.ensures).0 c.if-same_rows.true))
    (own_is work _ _ ea ee s.letters.now after c.told-letters _ said.answer said.outline n e)
    (traced-count work _ _ ea ee s.letters.now after c.told-letters _ said.answer said.outline n e)
    (anchor-fits work _ _ ea ee s.letters.now after c.told-letters _ said.answer said.outline n e))

pub returns-else-same_rows : goal.returns-else-same_rows
unfolding work_at
returns-else-same_rows c = λ own.
    let s = c.args in
    let slot = c.slot_of-slot.result in
    holds-damaged (arrays own s.rows.now s.numbers.now s.heads.now) _ _ c.border-traced.new.letters c.if-word-eq0.false slot
    c.slot_of-slot.ensures
    (found-other (work_at s.rows.now s.numbers.now s.heads.now slot) _ _ (c.anchor_at-anchor.ensures s.rows.now s.numbers.now)
    (c.edges_at-list.ensures s.rows.now) s.letters.now c.border-traced.new.letters c.told-letters _ c.border-traced.ensures.answer
    c.border-traced.ensures.outline _ c.in-Ok.is
    (λ e. true≢false (sym ((rw c.from-count.ensures at c.same_rows.ensures).1 e) ∙ c.if-same_rows.false)))

pub returns-in-Err : goal.returns-in-Err
returns-in-Err c = λ own.
    let s = c.args in
    let slot = c.slot_of-slot.result in
    holds-damaged (arrays own s.rows.now s.numbers.now s.heads.now) _ _ c.border-traced.new.letters c.if-word-eq0.false slot
    c.slot_of-slot.ensures
    (found_none (work_at s.rows.now s.numbers.now s.heads.now slot) _ _ (c.anchor_at-anchor.ensures s.rows.now s.numbers.now)
    (c.edges_at-list.ensures s.rows.now) s.letters.now c.border-traced.new.letters c.told-letters _ c.border-traced.ensures.answer
    c.border-traced.ensures.outline
    (λ n e. let g = c.in-Err.is in let z : ◌≡◌ {A = ℕ} 0 1 = cc in omega (arith, z)))
