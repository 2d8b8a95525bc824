-- The buffer is too short, or its front is the image.
use native.Mathlib.Omega.{arith}
use mathlib.Core.Path.{sym, ap}
use mathlib.Core.List.{List, ◌++◌}
use Prim.Native.Nat.{ℕ}
use lib.ListN.{drop}
use lib.Seq.{length-take-le}
use Rattle.images.specs.Image.{image_bytes}
use Rattle.pile_images.proofs.SaveLaws.{write-short, write-room}
use Rattle.pile_images.proofs.write_image.Goals as goal

pub returns-then-image-lt-IMAGE : goal.returns-then-image-lt-IMAGE
returns-then-image-lt-IMAGE c = write-short _ _ c.if-image-lt-IMAGE.true

pub slice_bounds-write-end-2 : goal.slice_bounds-write-end-2
slice_bounds-write-end-2 c = sym (length-take-le image_bytes c.args.image.now (omega (arith, c.if-image-lt-IMAGE.false)))

pub write-requires : goal.write-requires
write-requires c = (length-take-le image_bytes c.args.image.now (omega (arith, c.if-image-lt-IMAGE.false)), c.requires.2)

pub returns : goal.returns
returns c =
    write-room _ _ c.if-image-lt-IMAGE.false _ (ap (λ (x : List ℕ). x ++ drop image_bytes c.args.image.now) c.write.ensures)
