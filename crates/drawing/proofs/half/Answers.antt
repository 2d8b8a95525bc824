-- This is the definition's sum: the bits of 0.5 are those of 1 * 2 ^ -1.
use mathlib.Core.Path.{refl}
use lib.Ieee.{of_bits}
use Rattle.drawing.specs.Points.{half}
use Rattle.drawing.proofs.half.Goals as goal

pub returns : goal.returns
unfolding half of_bits
returns c = refl
