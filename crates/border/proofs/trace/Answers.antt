-- Each return is a case of the border call: too many letters, no taken outline with this anchor and these edges, no room, or success.
use native.Mathlib.Omega.{arith}
use mathlib.Core.Path.{sym, ◌∙◌}
use Rattle.polygon.proofs.LooseCases.{short-list}
use Rattle.border_model.proofs.Quadrants.{passed-ordered}
use Rattle.border.proofs.TraceLaws.{long-none, untaken-none, short_none, copied}
use Rattle.border.proofs.trace.Goals as goal

pub count-n-requires : goal.count-n-requires
count-n-requires c = short-list _ c.requires.0

pub returns-then-n-gt-LONGEST : goal.returns-then-n-gt-LONGEST
returns-then-n-gt-LONGEST c =
    long-none _ _ _ c.requires.0 c.requires.1 c.requires.2 c.count-n.ensures c.if-n-gt-LONGEST.true

pub build-requires : goal.build-requires
build-requires c = (passed-ordered _ c.requires.2, omega (arith, c.count-n.ensures, c.if-n-gt-LONGEST.false))

pub returns-then-not-taken_as : goal.returns-then-not-taken_as
returns-then-not-taken_as c =
    untaken-none _ _ _ c.requires.0 c.requires.1 c.requires.2 c.count-n.ensures _ c.build.ensures
    (sym c.taken_as.ensures ∙ c.if-not-taken_as.true)

pub returns-then-letters-n : goal.returns-then-letters-n
returns-then-letters-n c =
    short_none _ _ _ c.requires.0 c.requires.1 c.requires.2 c.count-n.ensures _ c.build.ensures
    (sym c.taken_as.ensures ∙ c.if-not-taken_as.false) c.if-letters-n.true

pub returns : goal.returns
returns c =
    copied _ _ _ c.requires.0 c.requires.1 c.requires.2 c.count-n.ensures _ c.build.ensures
    (sym c.taken_as.ensures ∙ c.if-not-taken_as.false) c.if-letters-n.false (rw c.copy_from_slice.ensures.after)
