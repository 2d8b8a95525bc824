-- A place before a is reached past the end of the list, n - a letters on and b more.
use mathlib.Core.Path.{sym}
use native.Mathlib.Omega.{arith}
use Rattle.convexity.proofs.Cuts.{ahead-on}
use Rattle.cut_places.proofs.CutLaws.{ahead-round}
use Rattle.cut_places.proofs.ahead.Goals as goal

pub returns-then-a-b : goal.returns-then-a-b
returns-then-a-b c = sym (ahead-on _ _ _ (omega arith))

pub returns-else-a-b : goal.returns-else-a-b
returns-else-a-b c = sym (ahead-round _ _ _ (omega arith) (omega arith))
