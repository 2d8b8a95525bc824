-- The letter steps along no row, and nothing is stored; or one entry of each array is.
use Rattle.std.proofs.Common.{arith}
use Rattle.rows.specs.Search.{corner_numbered}
use Rattle.row_sides.proofs.Laws.{marks-side, marks-none}
use Rattle.row_sides.proofs.Sides.mark.Goals as goal

pub returns-then-r-ge-NO_ROW : goal.returns-then-r-ge-NO_ROW
returns-then-r-ge-NO_ROW c =
    marks-none (corner_numbered c.args.number) c.args.letter c.along-r.result c.args.self.now.lo c.args.self.now.en c.args.self.now.hi
    c.along-r.ensures c.requires (omega arith)

pub returns : goal.returns
returns c =
    marks-side (corner_numbered c.args.number) c.args.letter c.along-r.result c.args.self.now.lo c.args.self.now.en c.args.self.now.hi
    c.along-r.ensures c.requires c.keep-k.result.one c.keep-k.result.two c.max-last.result
    c.keep-k.ensures.0 c.keep-k.ensures.1 c.max-last.ensures
