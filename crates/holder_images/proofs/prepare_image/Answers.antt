-- By what the bytes are read as: each return is a case of the definition.
use native.Mathlib.Omega.{arith}
use native.Mathlib.Nat.{add-sub_cancel_left}
use mathlib.Core.Path.{refl}
use Rattle.holder_images.proofs.RestoreLaws.{read_count, image-no-party, image-no-place, image-none, image-empty, image-outline}
use Rattle.holder_images.proofs.prepare_image.Goals as goal

pub returns-then-p-ge-PARTIES : goal.returns-then-p-ge-PARTIES
returns-then-p-ge-PARTIES c = λ own. rw c.refused.ensures (image-no-party _ _ _ _ (rw c.from-p.ensures at c.if-p-ge-PARTIES.true))

pub returns-then-k-ge-PLACES : goal.returns-then-k-ge-PLACES
returns-then-k-ge-PLACES c = λ own.
    rw c.refused-then-k-ge-PLACES.ensures
    (image-no-place _ _ (rw c.from-p.ensures at c.if-p-ge-PARTIES.false) _ _ (rw c.from-k.ensures at c.if-k-ge-PLACES.true))

pub returns-then-found-eq0 : goal.returns-then-found-eq0
returns-then-found-eq0 c = λ own.
    rw (c.from-p.ensures, c.from-k.ensures)
    (image-empty _ _ (rw c.from-p.ensures at c.if-p-ge-PARTIES.false) _ (rw c.from-k.ensures at c.if-k-ge-PLACES.false) _ _
    c.in-Some.ensures c.if-found-eq0.true)

pub overflow_add-end : goal.overflow_add-end
overflow_add-end c = omega (arith, read_count _ _ c.in-Some.ensures)

pub slice_bounds-prepare_outline-end : goal.slice_bounds-prepare_outline-end
slice_bounds-prepare_outline-end c = omega (arith, read_count _ _ c.in-Some.ensures)

pub returns-in-None : goal.returns-in-None
returns-in-None c = λ own.
    rw c.refused-in-None.ensures
    (image-none _ _ (rw c.from-p.ensures at c.if-p-ge-PARTIES.false) _ (rw c.from-k.ensures at c.if-k-ge-PLACES.false) _ c.in-None.ensures)

pub returns-else-found-eq0 : goal.returns-else-found-eq0
returns-else-found-eq0 c = λ own.
    image-outline _ _ (rw c.from-p.ensures at c.if-p-ge-PARTIES.false) _ (rw c.from-k.ensures at c.if-k-ge-PLACES.false) _ _
    c.in-Some.ensures c.if-found-eq0.false _ (rw add-sub_cancel_left refl) _
    (rw (c.from-p.ensures, c.from-k.ensures) at c.prepare_outline.ensures own)
