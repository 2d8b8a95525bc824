-- The checker computes the units of single numbers (contract 3.18), so these rows hold by computation.
use Prim.Native.Nat.{◌*◌, ◌^◌}
use mathlib.Core.Path.{◌≡◌, refl}
use mathlib.Core.Bool.{false}
use lib.IntN.{pos}
use lib.Ieee.{fin, binary32}
use Rattle.rounding.specs.Units.{negative, units, value, in_units}

-- The whole number 3 is 3 · 2^149 units of a 32-bit float, and so is the float 3
pub three-in-units : in_units binary32 (pos 3) ≡ pos (3 * 2 ^ 149)
unfolding in_units
three-in-units = refl

pub three-as-float : value binary32 (fin false 3 (pos 0)) ≡ in_units binary32 (pos 3)
unfolding value negative units in_units
three-as-float = refl
