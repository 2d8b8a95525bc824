-- The record and zeros stand at the front, and their checksum behind them.
use native.Mathlib.Omega.{arith}
use mathlib.Core.Path.{◌≡◌, sym, ap, ◌∙◌}
use mathlib.Core.List.{◌++◌}
use lib.ListN.{length, drop, length-append}
use lib.Seq.{length-take-le}
use Rattle.chart.specs.Outline.{at, outline}
use Rattle.checksum.specs.Stored.{little_endian}
use Rattle.images.proofs.Images.{padded-length, image-written}
use Rattle.images.proofs.write.Goals as goal

pub slice_bounds-write_body-end-2 : goal.slice_bounds-write_body-end-2
slice_bounds-write_body-end-2 c = sym (length-take-le 618 c.args.image.now (omega arith))

pub write_body-requires : goal.write_body-requires
write_body-requires c = (length-take-le 618 c.args.image.now (omega arith), c.requires.1)

pub slice_bounds-of-end-2 : goal.slice_bounds-of-end-2
slice_bounds-of-end-2 c =
    sym
    (length-take-le 618 (c.write_body.new.body ++ drop 618 c.args.image.now)
    (omega (arith, length-append c.write_body.new.body (drop 618 c.args.image.now), whole)))
  where
    whole : length c.write_body.new.body ≡ 618
    whole = ap length c.write_body.ensures ∙ padded-length (outline (at c.args.col c.args.row) c.args.letters.now) c.requires.1

pub returns : goal.returns
unfolding little_endian
returns c =
    image-written (outline (at c.args.col c.args.row) c.args.letters.now) _ _ _ _ c.requires.1 c.write_body.ensures c.of-sum.ensures
    (c.copy_from_slice.ensures.after ∙ c.to_le_bytes.ensures)
