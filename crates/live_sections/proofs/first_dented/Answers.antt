-- A section that is not convex ends the search. An equal section is convex because the last one was.
use mathlib.Core.Path.{refl, sym, ap, ◌∙◌}
use mathlib.Core.Bool.{not}
use Rattle.base.specs.Below.{first}
use Rattle.base.proofs.BelowLaws.{first_step, first-stop}
use Rattle.chart.specs.Limits.{side}
use Rattle.live_sections.proofs.first_dented.Goals as goal

pub loop-n-init : goal.loop-n-init
unfolding first
loop-n-init g c = (c.no_cells-last.ensures, λ dented h. refl)

pub returns-then-not-clear_after : goal.returns-then-not-clear_after
returns-then-not-clear_after g c =
    λ dented h. sym (first-stop dented side c.loop-n.n (c.loop-n.invariant.1 dented h)
    (h _ _ c.loop-n-test.true c.section-next.ensures ∙ ap not (sym c.clear_after.ensures ∙ c.if-not-clear_after.true)) c.loop-n-test.true)

pub loop-n-preserved : goal.loop-n-preserved
loop-n-preserved g c = (
  sym c.clear_after.ensures ∙ c.if-not-clear_after.false,
  λ dented h. first_step dented c.loop-n.n (c.loop-n.invariant.1 dented h)
      (h _ _ c.loop-n-test.true c.section-next.ensures ∙ ap not (sym c.clear_after.ensures ∙ c.if-not-clear_after.false)),
)
