-- Every layer so far is whole. The first that is not ends the search.
use native.Mathlib.Omega.{arith}
use mathlib.Core.Path.{◌≡◌, refl, sym, ◌∙◌}
use Rattle.base.specs.Below.{every}
use Rattle.sections.specs.Sections.{layers, clear}
use Rattle.sections.proofs.Folds.{every-next, every-not}
use Rattle.sections.proofs.Section.is_clear.Goals as goal

pub loop-j-init : goal.loop-j-init
unfolding every
loop-j-init c = refl

pub returns-then-not-is_whole : goal.returns-then-not-is_whole
unfolding clear
returns-then-not-is_whole c =
    every-not _ layers c.loop-j.j (omega arith) (sym c.is_whole.ensures ∙ c.if-not-is_whole.true)

pub loop-j-preserved : goal.loop-j-preserved
loop-j-preserved c = every-next _ _ c.loop-j.invariant (sym c.is_whole.ensures ∙ c.if-not-is_whole.false)

pub returns : goal.returns
unfolding clear
returns c = let end : c.loop-j.j ≡ layers = omega arith in sym (rw end at c.loop-j.invariant)
