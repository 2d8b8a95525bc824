-- The first row that has a cell ends the search.
use native.Mathlib.Omega.{arith}
use mathlib.Core.Path.{◌≡◌, refl, sym, ◌∙◌}
use Rattle.base.specs.Below.{first}
use Rattle.base.proofs.BelowLaws.{first_step, first-stop}
use Rattle.chart.specs.Limits.{side}
use Rattle.live_sections.proofs.Layer.bottom.Goals as goal

pub loop-r-init : goal.loop-r-init
unfolding first
loop-r-init c = refl

pub returns-then-has_cell : goal.returns-then-has_cell
returns-then-has_cell c =
    sym (first-stop _ side c.loop-r.r c.loop-r.invariant (sym c.has_cell.ensures ∙ c.if-has_cell.true) (omega arith))

pub loop-r-preserved : goal.loop-r-preserved
loop-r-preserved c = first_step _ c.loop-r.r c.loop-r.invariant (sym c.has_cell.ensures ∙ c.if-has_cell.false)

pub returns : goal.returns
returns c = let end : c.loop-r.r ≡ side = omega arith in sym (rw end at c.loop-r.invariant)
