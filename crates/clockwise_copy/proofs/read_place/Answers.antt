-- The tests are those of the definition; a place above n gives 0, as the difference of natural numbers does.
use borrow.Author.Tests.{eq-eqb, ne_eqb}
use Rattle.clockwise_copy.specs.parts.ClockwiseCopy.{read_place}
use Rattle.clockwise_copy.proofs.read_place.Goals.{then-forward-via-then-forward, then-forward-via-else-forward+then-w-eq0}
use Rattle.clockwise_copy.proofs.read_place.Goals as goal

pub returns-then-forward : goal.returns-then-forward
unfolding read_place
returns-then-forward c =
    elim c.then-forward.branch [
      | then-forward-via-then-forward r ↦ rw r.if-forward.true
      | then-forward-via-else-forward+then-w-eq0 r ↦ rw (r.if-forward.false, eq-eqb _ _ r.if-w-eq0.true) r.if-w-eq0.true
    ]

pub returns : goal.returns
unfolding read_place
returns c = rw (c.if-forward.false, ne_eqb _ _ c.if-w-eq0.false) c.saturating_sub.ensures
