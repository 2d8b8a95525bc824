-- At the end of the buffer nothing is written. Before the end one byte is.
use native.Mathlib.Omega.{arith}
use Rattle.text_lines.proofs.WrittenLaws.{wrote_none, wrote_one}
use Rattle.text_lines.proofs.put.Goals as goal

pub returns-then-text-at : goal.returns-then-text-at
returns-then-text-at c = wrote_none _ _ _ c.if-text-at.true

pub returns : goal.returns
returns c = wrote_one _ _ _ (omega (arith, c.if-text-at.false))
