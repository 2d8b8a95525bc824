-- The first row that has the column ends the search, and none outside the bounds has it.
use native.Mathlib.Omega.{arith}
use mathlib.Core.Path.{sym, ◌∙◌}
use Rattle.base.proofs.BelowLaws.{first_step, first-stop}
use Rattle.chart.specs.Limits.{side}
use Rattle.live_sections.proofs.ReachLaws.{search-start, search-end}
use Rattle.live_sections.proofs.Layer.lowest.Goals as goal

pub loop-r-init : goal.loop-r-init
loop-r-init c =
    let layer = c.args.self.now in
    rw c.from-r.ensures (search-start layer.first.now layer.past.now c.args.col c.args.from c.requires.0)

pub returns-then-holds : goal.returns-then-holds
returns-then-holds c =
    sym (first-stop _ side c.loop-r.r c.loop-r.invariant (sym c.holds.ensures ∙ c.if-holds.true) (omega arith))

pub loop-r-preserved : goal.loop-r-preserved
loop-r-preserved c = first_step _ c.loop-r.r c.loop-r.invariant (sym c.holds.ensures ∙ c.if-holds.false)

pub returns : goal.returns
returns c =
    let layer = c.args.self.now in
    sym (search-end layer.first.now layer.past.now c.args.col c.loop-r.r c.args.to c.loop-r.invariant
    (omega (arith, c.from-r-end.ensures, c.loop-r-test.false)) c.requires.1)
