-- A copy is a paste.
use Rattle.std.proofs.Common.{rules}
use Rattle.std.proofs.lemmas.Slice.{overwrites}
use Rattle.holder_memory.proofs.writes.put_numbers.Goals as goal

pub returns : goal.returns
returns c = search (rules, overwrites)
