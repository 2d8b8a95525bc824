-- The tests are the definition's, in its order.
use Prim.Native.Nat.{ℕ, ◌≤◌, ◌<◌}
use mathlib.Core.Path.{◌≡◌, sym}
use lib.Dec.{leb}
use borrow.Author.Tests.{le-leb, lt-leb}
use Rattle.sections.specs.Sections.{reached, whole_in, whole}
use Rattle.sections.specs.declared.Reach.{Reach}
use Rattle.sections.proofs.Section.is_whole.Goals as goal

-- If the hull has cells there and does not begin before the interval
beyond : (lo past : ℕ → ℕ) (j : ℕ) (r : Reach) (x y : ℕ) → r ≡ reached lo past j → x ≡ lo j → y ≡ past j → r.low < r.high → x ≤ r.low
    → leb r.high y ≡ whole lo past j
unfolding whole whole_in
beyond lo past j r x y e f g h k = rw (sym e, sym f, sym g, lt-leb r.high r.low h, le-leb x r.low k)

pub returns-then-reach : goal.returns-then-reach
unfolding whole whole_in
returns-then-reach c = rw (← c.reached-reach.ensures, le-leb _ _ c.if-reach.true)

pub returns-then-first-reach : goal.returns-then-first-reach
returns-then-first-reach c =
    beyond _ _ _ _ _ _ c.reached-reach.ensures c.first.ensures.0 c.end.ensures.0 c.if-reach.false c.if-first-reach.true

pub returns-else-first-reach : goal.returns-else-first-reach
unfolding whole whole_in
returns-else-first-reach c =
    simp (sym c.reached-reach.ensures, lt-leb _ _ c.if-reach.false, sym c.first.ensures.0, lt-leb _ _ c.if-first-reach.false)
