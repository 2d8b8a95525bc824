-- A sum below n is its own remainder; otherwise subtract n.
use Rattle.std.proofs.Common.{rules}
use Rattle.words.proofs.RemainderWalk.{remainder-below, remainder-above}
use Rattle.words.proofs.next_remainder.Goals as goal

pub returns-then-rem-left : goal.returns-then-rem-left
returns-then-rem-left c = remainder-below _ _ _ c.if-rem-left.true

pub returns-else-rem-left : goal.returns-else-rem-left
returns-else-rem-left c = remainder-above _ _ _ (search rules) (search rules) c.if-rem-left.false
