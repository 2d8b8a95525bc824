-- The bytes of a record and of a file of records, as a program that stores outlines writes them (contract 11.1).
use Rattle.std.specs.Prelude.{ℕ, ◌+◌, ◌/◌, ◌%◌, List, [], ◌∷◌, ◌++◌, length}
use Rattle.chart.specs.Outline.{Outline}
use Rattle.text_lines.specs.declared.Line.{Line}
use Rattle.fitting_listing.specs.Lines.{tested_line}

-- The mark, the start, the count of letters low byte first, and the letters
unfoldable pub bytes_of : Outline → List ℕ
bytes_of o = 75 ∷ 79 ∷ o.start.col ∷ o.start.row ∷ length o.letters % 256 ∷ length o.letters / 256 ∷ o.letters

unfoldable pub file_of : List Outline → List ℕ
file_of [] = []
file_of (o ∷ os) = bytes_of o ++ file_of os

-- The test's lines for outlines, numbered from n on
unfoldable pub tested_from : ℕ → List Outline → List Line
tested_from n [] = []
tested_from n (o ∷ os) = tested_line n o ∷ tested_from (n + 1) os
