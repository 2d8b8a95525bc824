-- The lines of a fitting file: one for each whole record, and one for a fault, which is the last (contract 11.2 and 11.3).
use Rattle.std.specs.Prelude.{ℕ, zero, suc, ◌+◌, cond, List, [], ◌∷◌, length, take, drop, ltb, Option, Some, None, Result, Ok, Err}
use Rattle.chart.specs.Limits.{most_numbers}
use Rattle.chart.specs.Outline.{Outline, outline}
use Rattle.verdict.specs.Verdict.{test_fields}
use Rattle.fitting_records.specs.declared.Record.{Record}
use Rattle.fitting_records.specs.declared.Fault.{Fault}
use Rattle.fitting_records.specs.declared.Fault.TheVariants.{WrongMark, Truncated}
use Rattle.fitting_records.specs.Found.{header, found_in, width}
use Rattle.text_lines.specs.declared.Line.{Line}
use Rattle.fitting_listing.specs.Faults as faults

-- A file has at most this many bytes
abbrev pub most : ℕ
most = 65536

-- A record's number, the number of the test or the fault, and a place or a position
abbrev pub line : ℕ → ℕ → ℕ → Line
line n a p = record { number = n; answer = a; place = p }

-- The test's line for an outline, with a buffer for as many edges as a taken outline may have
unfoldable pub tested_line : ℕ → Outline → Line
tested_line n o = line n (test_fields o most_numbers).number (test_fields o most_numbers).place

-- The outline of the record at the front of the bytes
unfoldable pub outline_in : ℕ → ℕ → ℕ → List ℕ → Outline
outline_in c r count w = outline (record { col = c; row = r }) (take count (drop header w))

-- The lines from record n on, where the bytes w begin at a position of the file. The last argument is the lines after a whole record
unfoldable pub listed : ℕ → ℕ → List ℕ → Result (Option Record) Fault → List Line → List Line
listed n at w (Ok None) rest = []
listed n at w (Err WrongMark) rest = line n faults.wrong_mark at ∷ []
listed n at w (Err Truncated) rest = line n faults.truncated at ∷ []
listed n at w (Ok (Some r)) rest = tested_line n (outline_in r.col r.row r.count w) ∷ rest

-- The lines of the bytes w, at most k
unfoldable pub lines_from : ℕ → ℕ → ℕ → List ℕ → List Line
lines_from zero n at w = []
lines_from (suc k) n at w = listed n at w (found_in w) (lines_from k (n + 1) (at + width (found_in w)) (drop (width (found_in w)) w))

-- The lines of the bytes w. There are no more lines than bytes, since every line is about some byte
unfoldable pub lines_at : ℕ → ℕ → List ℕ → List Line
lines_at n at w = lines_from (length w) n at w

-- The lines of a file. 25 is checked first
unfoldable pub lines_of : List ℕ → List Line
lines_of file = cond (ltb most (length file)) (line 0 faults.too_long most ∷ []) (lines_at 0 0 file)
