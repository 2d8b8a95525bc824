-- Two stores at the front leave the two numbers and then what stood behind them.
use native.Mathlib.Omega.{arith}
use mathlib.Core.Path.{sym}
use Rattle.drawing.proofs.Points.{pair-short, pair-sets}
use Rattle.drawing.proofs.write_pair.Goals as goal

pub returns-then-point-lt2 : goal.returns-then-point-lt2
returns-then-point-lt2 c = sym (pair-short _ _ _ (omega arith))

pub returns : goal.returns
returns c = pair-sets _ _ _ (omega arith)
