-- The test is the definition's.
use Rattle.sections.specs.Sections.{full}
use Rattle.sections.proofs.Section.is_full.Goals as goal

pub returns : goal.returns
unfolding full
returns c = rw (c.end.ensures.0, c.first.ensures.0)
