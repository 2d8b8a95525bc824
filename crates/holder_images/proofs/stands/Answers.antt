-- The bytes from the index on are as many as the columns.
use Rattle.std.proofs.Common.{◌≡◌, ◌+◌, ◌-◌, arith}
use Rattle.chart.specs.Limits.{side}
use Rattle.holder_images.proofs.stands.Goals as goal

pub returns : goal.returns
returns c =
    let width : c.args.at + side - c.args.at ≡ side = omega arith in
    rw width at c.same_bytes.ensures
