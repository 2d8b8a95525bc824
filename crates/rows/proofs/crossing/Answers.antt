-- The mean of two 16-bit numbers has 16 bits too.
use Rattle.std.proofs.Common.{refl, arith}
use Rattle.rows.specs.Search.{crossing}
use Rattle.rows.specs.parts.Rows.{rows}
use Rattle.rows.proofs.SearchLaws.{crossing-small}
use Rattle.rows.proofs.crossing.Goals as goal

pub returns : goal.returns
unfolding crossing
returns c =
    let args = c.args in
    rw (c.begins-a.ensures.0, c.begins-b.ensures.0) (
      refl,
      crossing-small (rows args.lo.now) args.i args.j args.r 65536 (omega arith) (omega arith) (omega arith) (omega arith)
          (omega arith),
    )
