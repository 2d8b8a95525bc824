-- Every layer so far has its lowest row with a cell and the row past its highest.
use mathlib.Core.Path.{◌∙◌}
use Rattle.live_sections.specs.parts.Reach.{reach_of}
use Rattle.live_sections.proofs.FillLaws.{filling-start, filling-next, filling-end}
use Rattle.live_sections.proofs.ReachLaws.{bottom-is, top-is}
use Rattle.live_sections.proofs.reach.Goals as goal

pub loop-l-init : goal.loop-l-init
loop-l-init c = filling-start _ _

pub top-requires : goal.top-requires
top-requires c = c.bottom-low.ensures

pub loop-l-preserved : goal.loop-l-preserved
loop-l-preserved c =
    let begins = c.of-layer.ensures.first in
    let ends = c.of-layer.ensures.past in
    filling-next _ _ c.loop-l.invariant c.loop-l-test.true _ _
    (c.bottom-low.ensures ∙ bottom-is c.args.rows.now c.loop-l.l c.loop-l-test.true _ _ begins ends)
    (c.top.ensures ∙ top-is c.args.rows.now c.loop-l.l c.loop-l-test.true _ _ begins ends)

pub returns : goal.returns
unfolding reach_of
returns c = filling-end _ _ c.loop-l.invariant c.loop-l-test.false
