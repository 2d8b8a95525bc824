-- Rights or lefts, as many as the columns differ.
use native.Mathlib.Omega.{arith}
use Rattle.completion.proofs.Segments.{length-across}
use Rattle.border_of_rows.proofs.apart.Goals as goal

pub returns : goal.returns
returns c = let a = c.args in (omega (arith, length-across a.a a.b), omega arith)
