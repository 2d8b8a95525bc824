-- One more row is one more test of each kind.
use mathlib.Core.Path.{refl}
use lib.ListN.{get_or}
use Rattle.sweep.specs.parts.Tests.{run_within}
use Rattle.comparison.proofs.RowTests.{apart-is, compared-start, compared-next}
use Rattle.comparison.proofs.row_walk.compare_rows.Goals as goal

pub loop-row-init : goal.loop-row-init
loop-row-init c = compared-start _ _ _ _

pub loop-row-preserved : goal.loop-row-preserved
unfolding run_within
loop-row-preserved c =
    let s = c.args in
    let n = c.loop-row.row in
    let apart = apart-is (get_or s.first.now n 0) (get_or s.end.now n 0) (get_or s.other_first.now n 0) (get_or s.other_end.now n 0) in
    compared-next _ _ _ _ n _ _ _ _ _ _ c.loop-row.invariant refl refl apart
