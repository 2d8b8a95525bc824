-- The value of a finite float is a whole number of units. A unit is the format's smallest
-- positive value, 2 ^ -low: 2 ^ -149 for f32 (contract 3.18).
use Rattle.std.specs.Prelude.{ℕ, ◌*◌, ◌/◌, ◌^◌, Bool, false, cond, ℤ, pos, neg_ℤ, ◌*ℤ◌, Float}
use Rattle.std.specs.Float.{nan, inf, fin, Format}
use Rattle.std.specs.Float.Ieee.{low, up, down}

-- The sign: true if it is negative, including that of -0
unfoldable pub negative : Float → Bool
negative nan = false
negative (inf s) = s
negative (fin s m e) = s

-- The distance of a value from 0 in units. NaN and the infinities count as 0
unfoldable pub units : Format → Float → ℕ
units f nan = 0
units f (inf s) = 0
units f (fin s m e) = m * up e * 2 ^ low f / down e

-- The value in units, with its sign
unfoldable pub value : Format → Float → ℤ
value f x = cond (negative x) (neg_ℤ (pos (units f x))) (pos (units f x))

-- A whole number in units
unfoldable pub in_units : Format → ℤ → ℤ
in_units f z = z *ℤ pos (2 ^ low f)
