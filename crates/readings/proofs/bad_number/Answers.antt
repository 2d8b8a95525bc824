-- The two comparisons compare values, and a number that is not finite fails one of them.
use mathlib.Core.Path.{sym, subst}
use lib.Dec.{T}
use lib.Ieee.{of_bits, of_int}
use Rattle.readings.proofs.Numbers.{bad-is}
use Rattle.readings.proofs.bad_number.Goals as goal

pub returns : goal.returns
unfolding of_bits of_int
returns c = bad-is c.args.x (subst T (sym c.well_formed.0.1) tt)
