-- The one test is the definition's.
use borrow.Author.Tests.{le-leb, lt-leb}
use Rattle.wire.specs.Wire.{received}
use Rattle.wire.proofs.received.Goals as goal

pub returns-then-room-lt-NUMBERS : goal.returns-then-room-lt-NUMBERS
unfolding received
returns-then-room-lt-NUMBERS c = rw (lt-leb _ _ c.if-room-lt-NUMBERS.true)

pub returns : goal.returns
unfolding received
returns c = rw (le-leb _ _ c.if-room-lt-NUMBERS.false) c.decode.ensures
