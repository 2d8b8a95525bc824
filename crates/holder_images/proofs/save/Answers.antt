-- By what is held at the place.
use native.Mathlib.Omega.{arith}
use mathlib.Core.Path.{sym}
use mathlib.Core.List.{[]}
use lib.ListN.{length-take}
use lib.Seq.{length-take-le}
use Rattle.std.proofs.lemmas.Result.{err_from_is_err_and}
use Rattle.holder_images.proofs.CheckLaws.{save-refused, save-short, save-whole, held_fits}
use Rattle.holder_images.proofs.save.Goals as goal

pub returns-then-image-lt-IMAGE : goal.returns-then-image-lt-IMAGE
returns-then-image-lt-IMAGE c = λ l. save-short _ _ _ _ _ (c.in_ok-held.ensures l) _ c.if-image-lt-IMAGE.true

pub overflow_cast-start : goal.overflow_cast-start
overflow_cast-start c = omega (arith, held_fits _ _ _ _ _ (c.in_ok-held.ensures []))

pub overflow_cast-start-2 : goal.overflow_cast-start-2
overflow_cast-start-2 c = omega (arith, held_fits _ _ _ _ _ (c.in_ok-held.ensures []))

pub slice_bounds-letters-end : goal.slice_bounds-letters-end
slice_bounds-letters-end c = omega (arith, held_fits _ _ _ _ _ (c.in_ok-held.ensures []))

pub slice_bounds-write-end : goal.slice_bounds-write-end
slice_bounds-write-end c =
    let fits = held_fits _ _ _ _ _ (c.in_ok-held.ensures []) in
    sym (length-take-le c.in_ok-held.held.count c.held_at.new.letters (omega (arith, fits)))

pub write-requires : goal.write-requires
write-requires c =
    let fits = held_fits _ _ _ _ _ (c.in_ok-held.ensures []) in (
      length-take-le 622 c.args.image.now c.if-image-lt-IMAGE.false,
      omega (arith, length-take c.in_ok-held.held.count c.held_at.new.letters, fits),
    )

pub returns : goal.returns
returns c = λ l.
    save-whole _ _ _ _ _ (c.in_ok-held.ensures l) _ c.if-image-lt-IMAGE.false _ c.write.ensures

pub returns-in_err-held : goal.returns-in_err-held
returns-in_err-held c =
    let q = err_from_is_err_and c.from_residual.result c.from_residual.ensures.1 in
    λ l. rw (q.1, q.2) (save-refused _ _ _ _ _ (c.in_err-held.ensures l) _)
