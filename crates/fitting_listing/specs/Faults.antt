-- The numbers of the faults of a fitting file (contract 11.3). They are above those of the refusals.
use Rattle.std.specs.Prelude.{ℕ}
use Rattle.fitting_records.specs.declared.Fault.{Fault}
use Rattle.fitting_records.specs.declared.Fault.TheVariants.{WrongMark, Truncated}

abbrev pub wrong_mark : ℕ
wrong_mark = 23

abbrev pub truncated : ℕ
truncated = 24

abbrev pub too_long : ℕ
too_long = 25

-- The number of a fault at a position of a file
unfoldable pub fault_number : Fault → ℕ
fault_number WrongMark = wrong_mark
fault_number Truncated = truncated
