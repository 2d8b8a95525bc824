-- Every layer so far has its rows with the column, which are among its rows with a cell.
use mathlib.Core.Path.{◌∙◌}
use Rattle.pile_sections.specs.Sections.{column_section}
use Rattle.live_sections.proofs.FillLaws.{filling-start, filling-next, filling-end}
use Rattle.live_sections.proofs.LayerLaws.{column-low, column-high}
use Rattle.live_sections.proofs.ReachLaws.{from-none, to_none, low-none}
use Rattle.live_sections.proofs.column.Goals as goal

pub loop-l-init : goal.loop-l-init
loop-l-init c = filling-start _ _

pub lowest-low-requires : goal.lowest-low-requires
lowest-low-requires c =
    let begins = c.of-layer.ensures.first in
    let ends = c.of-layer.ensures.past in (
      from-none c.args.rows.now c.loop-l.l c.loop-l-test.true _ _ begins ends c.args.reach c.requires c.args.col,
      to_none c.args.rows.now c.loop-l.l c.loop-l-test.true _ _ begins ends c.args.reach c.requires c.args.col,
    )

pub after_highest-requires : goal.after_highest-requires
after_highest-requires c =
    let begins = c.of-layer.ensures.first in
    let ends = c.of-layer.ensures.past in (
      low-none _ _ c.args.col _ c.lowest-low.ensures,
      to_none c.args.rows.now c.loop-l.l c.loop-l-test.true _ _ begins ends c.args.reach c.requires c.args.col,
    )

pub loop-l-preserved : goal.loop-l-preserved
loop-l-preserved c =
    let begins = c.of-layer.ensures.first in
    let ends = c.of-layer.ensures.past in
    filling-next _ _ c.loop-l.invariant c.loop-l-test.true _ _
    (c.lowest-low.ensures ∙ column-low c.args.rows.now c.loop-l.l c.loop-l-test.true _ _ begins ends c.args.col)
    (c.after_highest.ensures ∙ column-high c.args.rows.now c.loop-l.l c.loop-l-test.true _ _ begins ends c.args.col)

pub returns : goal.returns
unfolding column_section
returns c = filling-end _ _ c.loop-l.invariant c.loop-l-test.false
