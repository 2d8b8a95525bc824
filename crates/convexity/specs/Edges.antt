-- Edges, and the edges in a list of numbers (contract 3.12).
use Rattle.std.specs.Prelude.{List, [], ◌∷◌, ℤ}

-- An edge: its columns and its rows
abbrev pub Edge : Type 0
Edge = ℤ × ℤ

-- Two numbers of a list are an edge, columns then rows. A single number at the end is not an edge
unfoldable pub pairs : List ℤ → List Edge
pairs [] = []
pairs (d ∷ []) = []
pairs (dx ∷ dy ∷ ns) = (dx, dy) ∷ pairs ns
