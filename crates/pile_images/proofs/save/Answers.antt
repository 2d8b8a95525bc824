-- 22, or what the layer's rows are decides.
use native.Mathlib.Omega.{arith}
use mathlib.Core.Path.{sym, ap₂}
use lib.Seq.{length-take-le}
use Rattle.std.proofs.lemmas.Result.{err_from_is_err_and}
use Rattle.span_list.specs.SpanList.{spans_from, spans_at}
use Rattle.pile_images.proofs.SaveLaws.{outline-fits, saved-damaged, saved-empty, saved-outline, save-high, save-layer}
use Rattle.pile_images.proofs.save.Goals as goal

pub returns-in_err-layer : goal.returns-in_err-layer
returns-in_err-layer c =
    let p = err_from_is_err_and c.from_residual.result c.from_residual.ensures.1 in
    rw (p.1, p.2, c.in_err-layer.ensures.0) (save-high _ _ _ c.in_err-layer.ensures.1)

pub returns-in_err-found : goal.returns-in_err-found
unfolding spans_at
returns-in_err-found c =
    let first = rw c.in_ok-layer.ensures.0 at c.of.ensures.first in
    let past = rw c.in_ok-layer.ensures.0 at c.of.ensures.past in
    let p = err_from_is_err_and c.from_residual-in_err-found.result c.from_residual-in_err-found.ensures.1 in
    rw (p.1, p.2) (save-layer _ _ _ c.in_ok-layer.ensures.1 _ (ap₂ spans_from first past) _ _
    (saved-damaged _ c.find.new.letters _ _ c.in_err-found.ensures))

pub returns-in-None : goal.returns-in-None
unfolding spans_at
returns-in-None c =
    let first = rw c.in_ok-layer.ensures.0 at c.of.ensures.first in
    let past = rw c.in_ok-layer.ensures.0 at c.of.ensures.past in
    let h = rw (c.in_ok-found.was, c.in-None.is) at c.find.ensures in
    save-layer _ _ _ c.in_ok-layer.ensures.1 _ (ap₂ spans_from first past) _ _
    (saved-empty _ c.find.new.letters _ _ _ h c.write_image.ensures)

pub slice_bounds-letters-end-in-Some : goal.slice_bounds-letters-end-in-Some
slice_bounds-letters-end-in-Some c =
    let h = rw (c.in_ok-found.was, c.in-Some.is) at c.find.ensures in
    (outline-fits _ _ _ h).letters

pub slice_bounds-write_image-end-in-Some : goal.slice_bounds-write_image-end-in-Some
slice_bounds-write_image-end-in-Some c =
    let h = rw (c.in_ok-found.was, c.in-Some.is) at c.find.ensures in
    sym (length-take-le c.in-Some.ring.count c.find.new.letters (outline-fits _ _ _ h).letters)

pub write_image-requires-in-Some : goal.write_image-requires-in-Some
write_image-requires-in-Some c =
    let h = rw (c.in_ok-found.was, c.in-Some.is) at c.find.ensures in
    let f = outline-fits _ _ _ h in (
      f.col,
      f.row,
      omega (arith, length-take-le c.in-Some.ring.count c.find.new.letters f.letters, f.letters, f.long),
    )

pub returns-in-Some : goal.returns-in-Some
unfolding spans_at
returns-in-Some c =
    let first = rw c.in_ok-layer.ensures.0 at c.of.ensures.first in
    let past = rw c.in_ok-layer.ensures.0 at c.of.ensures.past in
    let h = rw (c.in_ok-found.was, c.in-Some.is) at c.find.ensures in
    save-layer _ _ _ c.in_ok-layer.ensures.1 _ (ap₂ spans_from first past) _ _
    (saved-outline _ c.find.new.letters _ _ _ _ h c.write_image-in-Some.ensures)
