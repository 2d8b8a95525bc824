-- What the theorems are about: the numbers of a line, the parts of a file, and lines after other records (contract 11.1 to 11.3).
use Rattle.std.specs.Prelude.{ℕ, ◌+◌, ◌<◌, ◌≡◌, cond, length, get_or, leb}
use mathlib.Core.List.{List, [], ◌∷◌, ◌++◌, Memᴰ}
use Rattle.chart.specs.Outline.{Outline}
use Rattle.fitting_records.specs.Found.{whole, found_in}
use Rattle.text_lines.specs.declared.Line.{Line}
use Rattle.fitting_listing.specs.Faults as faults
use Rattle.fitting_listing.specs.Lines.{line}
use Rattle.fitting_listing.specs.Bytes.{file_of}

-- The second number of a line is one of these: 0, the refusals up to 9 without 7, and the faults
abbrev pub answers : List ℕ
answers = 0 ∷ 1 ∷ 2 ∷ 3 ∷ 4 ∷ 5 ∷ 6 ∷ 8 ∷ 9 ∷ faults.wrong_mark ∷ faults.truncated ∷ faults.too_long ∷ []

-- Every number of a list is a byte
abbrev pub AllBytes : List ℕ → Type 0
AllBytes w = (i : ℕ) → get_or w i 0 < 256

-- The start and the count of letters fit into a record
pub record Storable (o : Outline) : Type 0 where
  pub col : o.start.col < 256
  pub row : o.start.row < 256
  pub letter_count : length o.letters < 65536

-- The bytes do not begin with a whole record: there are none, or they are a fault
abbrev pub NoRecord : List ℕ → Type 0
NoRecord w = (c r count : ℕ) → found_in w ≡ whole c r count → ⊥

-- The parts of a file: whole records, and a rest that does not begin with one
pub record Parts (file : List ℕ) (os : List Outline) (rest : List ℕ) : Type 0 where
  pub joined : file ≡ file_of os ++ rest
  pub storable : (o : Outline) → Memᴰ o os → Storable o
  pub none_left : NoRecord rest

-- A line of a file that comes after n records of p bytes. Numbers from 23 on are faults, and their place is a position
unfoldable pub moved_line : ℕ → ℕ → Line → Line
moved_line n p l = line (n + l.number) l.answer (cond (leb faults.wrong_mark l.answer) (p + l.place) l.place)
