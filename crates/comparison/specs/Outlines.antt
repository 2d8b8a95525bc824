-- Two taken outlines compared by the anchors and edges that a test returns: what the word says of the cells (contract 6.1 and 6.4).
use Rattle.std.specs.Prelude.{◌*◌, ◌≡◌, ◌↔◌, List, length, take, ℤ}
use Rattle.chart.specs.declared.Point.{Point}
use Rattle.chart.specs.declared.Fields.{Fields}
use Rattle.chart.specs.declared.Nesting.{Nesting}
use Rattle.chart.specs.Outline.{Outline}
use Rattle.chart.specs.Fields.{nesting_fields}
use Rattle.verdict.specs.Verdict.{test_fields, edges_after}
use Rattle.verdict.specs.Named.{cell_of}
use Rattle.nesting.specs.Cells.{SaysOf, Encloses}

-- What a test returns for a taken outline: the anchor is the cell of the reply, and the edges stand first in the buffer, two numbers each
abbrev pub anchor_from : Outline → List ℤ → Point
anchor_from o buffer = cell_of (test_fields o (length buffer))

abbrev pub edges_from : Outline → List ℤ → List ℤ
edges_from o buffer = take (2 * (test_fields o (length buffer)).place) (edges_after o buffer)

-- The comparison of these is not refused, and its word is the one of the five that holds for the cells that the two outlines enclose
pub record BlocksNamed (o v : Outline) (f : Fields) : Type 0 where
  pub unrefused : f.number ≡ 0
  pub word : (n : Nesting) → (f.word ≡ (nesting_fields n).word) ↔ SaysOf (Encloses o) (Encloses v) n
