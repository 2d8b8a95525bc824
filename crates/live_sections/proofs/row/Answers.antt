-- Every layer so far has its interval, which is read in place.
use mathlib.Core.Path.{sym}
use Rattle.pile_sections.specs.Sections.{row_section}
use Rattle.live_sections.proofs.FillLaws.{filling-start, filling-next, filling-end}
use Rattle.live_sections.proofs.LayerLaws.{row_first, row-past}
use Rattle.live_sections.proofs.row.Goals as goal

pub loop-l-init : goal.loop-l-init
loop-l-init c = filling-start _ _

pub loop-l-preserved : goal.loop-l-preserved
loop-l-preserved c =
    filling-next _ _ c.loop-l.invariant c.loop-l-test.true _ _
    (sym (row_first c.args.rows.now c.loop-l.l c.loop-l-test.true c.args.r c.requires))
    (sym (row-past c.args.rows.now c.loop-l.l c.loop-l-test.true c.args.r c.requires))

pub returns : goal.returns
unfolding row_section
returns c = filling-end _ _ c.loop-l.invariant c.loop-l-test.false
