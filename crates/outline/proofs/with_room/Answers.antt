-- A refusal stays, and a taken outline is checked for room: each return cites its law.
use Rattle.std.proofs.Common.{arith, rules}
use Rattle.verdict.specs.Verdict.{with_room}
use Rattle.outline.proofs.TestLaws.{room-short, room-enough}
use Rattle.outline.proofs.with_room.Goals as goal

pub returns-in_err-taken : goal.returns-in_err-taken
unfolding with_room
returns-in_err-taken c = rw c.in_err-taken.was (search rules)

pub returns-then-room-from : goal.returns-then-room-from
returns-then-room-from c = room-short _ c.in_ok-taken.was (omega (arith, c.from.ensures, c.if-room-from.true))

pub returns : goal.returns
returns c = room-enough _ c.in_ok-taken.was (omega (arith, c.from.ensures, c.if-room-from.false))
