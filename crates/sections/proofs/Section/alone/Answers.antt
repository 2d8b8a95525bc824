-- The two branches are the definition's cases.
use native.Mathlib.Omega.{arith}
use mathlib.Core.Path.{sym, ◌∙◌}
use Rattle.sections.specs.Sections.{alone}
use Rattle.sections.proofs.Section.alone.Goals as goal

pub returns-then-is_full : goal.returns-then-is_full
unfolding alone
returns-then-is_full c =
    (rw (sym c.is_full.ensures ∙ c.if-is_full.true, c.end.ensures.0, c.first.ensures.0), (c.first.ensures.1, c.end.ensures.1))

pub returns-else-is_full : goal.returns-else-is_full
unfolding alone
returns-else-is_full c = (rw (sym c.is_full.ensures ∙ c.if-is_full.false), (omega arith, omega arith))
