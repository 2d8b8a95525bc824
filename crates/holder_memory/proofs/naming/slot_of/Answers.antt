-- The word's tag, in the party's five slots.
use Rattle.std.proofs.Common.{sym, arith}
use Rattle.holder_memory.proofs.Free.{slot-named, slot-none}
use Rattle.holder_memory.proofs.naming.slot_of.Goals as goal

pub returns-in-Some : goal.returns-in-Some
returns-in-Some c = slot-named _ _ _ c.in-Some.ensures.0 c.in-Some.ensures.1

pub returns-in-None : goal.returns-in-None
returns-in-None c = slot-none _ _ _ (sym c.in-None.ensures) (omega arith)
