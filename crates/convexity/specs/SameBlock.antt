-- Two outlines compared by the cells that they enclose, and by their anchors and edges (contract 7.7).
use Rattle.std.specs.Prelude.{ℕ, ◌≡◌}
use Rattle.chart.specs.Outline.{Outline}
use Rattle.convexity.specs.Clockwise.{border, block}
use Rattle.convexity.specs.Pieces.{edges}

-- They enclose the same cells
abbrev pub SameCells : Outline → Outline → Type 0
SameCells o o' = (c r : ℕ) → block o c r ≡ block o' c r

-- They have the same anchor and the same edges
abbrev pub SameEdges : Outline → Outline → Type 0
SameEdges o o' = ((border o).start ≡ (border o').start) × (edges (border o) ≡ edges (border o'))
