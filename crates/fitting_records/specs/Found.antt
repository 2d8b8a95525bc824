-- The records of a fitting file: what stands at a position, and where the next record begins (contract 11.1 to 11.3).
use Rattle.std.specs.Prelude.{ℕ, ◌+◌, ◌*◌, Bool, false, cond, ◌&&◌, List, [], ◌∷◌, length, drop, eqb, leb, Option, Some, None, Result, Ok, Err}
use Rattle.fitting_records.specs.declared.Record.{Record}
use Rattle.fitting_records.specs.declared.Fault.{Fault}
use Rattle.fitting_records.specs.declared.Fault.TheVariants.{WrongMark, Truncated}
use Rattle.fitting_records.specs.declared.Step.{Step}

-- The bytes of a record before its letters: two for the mark, two for the start, two for the count of letters
abbrev pub header : ℕ
header = 6

-- A 16-bit number, low byte first
abbrev pub wide : ℕ → ℕ → ℕ
wide low high = low + 256 * high

-- A whole record, by its start and the count of its letters
abbrev pub whole : ℕ → ℕ → ℕ → Result (Option Record) Fault
whole c r n = Ok (Some (record { col = c; row = r; count = n }))

-- The bytes begin with a whole mark, 4B 4F
unfoldable pub marked : List ℕ → Bool
marked [] = false
marked (a ∷ []) = false
marked (a ∷ b ∷ w) = eqb a 75 && eqb b 79

-- What stands after a mark: the rest of a whole record, or of a truncated one
unfoldable pub after_mark : List ℕ → Result (Option Record) Fault
after_mark [] = Err Truncated
after_mark (c ∷ []) = Err Truncated
after_mark (c ∷ r ∷ []) = Err Truncated
after_mark (c ∷ r ∷ low ∷ []) = Err Truncated
after_mark (c ∷ r ∷ low ∷ high ∷ w) = cond (leb (wide low high) (length w)) (whole c r (wide low high)) (Err Truncated)

-- What the bytes begin with. A single byte is not a mark
unfoldable pub found_in : List ℕ → Result (Option Record) Fault
found_in [] = Ok None
found_in (a ∷ []) = Err WrongMark
found_in (a ∷ b ∷ w) = cond (marked (a ∷ b ∷ w)) (after_mark w) (Err WrongMark)

-- What stands at a position of a file
abbrev pub found_at : List ℕ → ℕ → Result (Option Record) Fault
found_at file at = found_in (drop at file)

-- How many bytes a step reads: those of a whole record, and none at the end or at a fault
unfoldable pub width : Result (Option Record) Fault → ℕ
width (Ok (Some r)) = header + r.count
width (Ok None) = 0
width (Err f) = 0

-- Where the next record begins. At the end and at a fault the position stays
abbrev pub next_at : List ℕ → ℕ → ℕ
next_at file at = at + width (found_at file at)

-- The step of a reader at a position of a file
abbrev pub step_at : List ℕ → ℕ → Step
step_at file at = record { found = found_at file at; next = next_at file at }
