-- Refusal 16 (contract 5).
use Rattle.std.specs.Prelude.{Bool, true, false, not, ◌&&◌, ◌||◌, List, [], ◌∷◌, ℤ}
use Rattle.convexity.specs.Edges.{Edge, pairs}
use Rattle.convexity.specs.Inside.{col_steps, row_steps, total}
use Rattle.directions.specs.Round.{is_nil, precedes}

-- Some edge is zero
unfoldable pub some_zero : List Edge → Bool
some_zero [] = false
some_zero ((dx, dy) ∷ es) = (is_nil dx && is_nil dy) || some_zero es

-- The edges sum to zero, in columns and in rows
unfoldable pub sums_to_zero : List Edge → Bool
sums_to_zero es = is_nil (total (col_steps es)) && is_nil (total (row_steps es))

-- The direction of an edge comes before that of the first edge of a list, if the list has one
unfoldable pub precedes_first : ℤ → ℤ → List Edge → Bool
precedes_first dx dy [] = true
precedes_first dx dy ((ex, ey) ∷ es) = precedes dx dy ex ey

-- Directions increase strictly: each comes before the next
unfoldable pub rising : List Edge → Bool
rising [] = true
rising ((dx, dy) ∷ es) = precedes_first dx dy es && rising es

-- 16, of edges: one is zero, they do not sum to zero, or directions do not increase strictly
unfoldable pub bad_edges : List Edge → Bool
bad_edges es = some_zero es || (not (sums_to_zero es) || not (rising es))

-- 16, of a list of numbers
abbrev pub bad_directions : List ℤ → Bool
bad_directions es = bad_edges (pairs es)
