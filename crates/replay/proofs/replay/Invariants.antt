-- Replaying the rest of the script on the current holder into the rest of the buffer gives the final buffer.
use Rattle.holder_memory.specs.Layout.{arrays}
use Rattle.replay.proofs.ReplayLaws.{Underway}
use Rattle.replay.proofs.replay.Given as goal

abbrev pub invariant-loop-done : goal.invariant-loop-done
invariant-loop-done l = Underway l.script l.fn.replies l.end (arrays l.letters l.rows l.numbers l.heads) l.done l.replies
