-- The verdict on an outline: the first of refusals 1 to 9 that applies, or taken
-- (contract 5). A test checks for room as well (contract 6.1).
use Rattle.std.specs.Prelude.{ℕ, suc, ◌+◌, ◌-◌, ◌*◌, Bool, cond, List, [], ◌∷◌, ◌++◌, length, drop, ltb, ℤ, Result, Ok, Err}
use Rattle.chart.specs.declared.Point.{Point}
use Rattle.chart.specs.declared.Fields.{Fields}
use Rattle.chart.specs.declared.Refusal.{Refusal}
use Rattle.chart.specs.declared.Refusal.TheVariants.{Length, Start, Letter, OffChart, NotClosed, Touches, BackStep, Dent, EdgeList}
use Rattle.chart.specs.declared.Taken.{Taken}
use Rattle.chart.specs.Taken.{taken_with}
use Rattle.chart.specs.Outline.{Outline}
use Rattle.chart.specs.Fields.{verdict_fields}
use Rattle.lattice.specs.Chart.{corner_at, size}
use Rattle.lattice.specs.Refusals.{bad_count, bad_start, letter_place, leaving_place, unclosed, touching_place}
use Rattle.rows.specs.Search.{missing_cell}
use Rattle.convexity.specs.Cut.{corner_place, cut}
use Rattle.convexity.specs.Clockwise.{border, place_sent}
use Rattle.convexity.specs.Pieces.{back_step_at, back_step_piece, factors, dent_at, dent_length, dent_piece, edges, edge_count}

-- 8, in piece k of a border t: the first letter that is neither of the piece's two
unfoldable pub back_step_in : (ℕ → ℕ) → Outline → ℕ → Refusal
back_step_in place t k = BackStep (suc k) (place (cut t k + back_step_at t k))

-- The cell that 9 names, searched between the rows of S and N. It is the lowest missing one (proofs/Cells.antt)
unfoldable pub cell_found : Outline → Point
cell_found t = missing_cell t (corner_at t (corner_place t 3)).row (corner_at t (corner_place t 1)).row

-- 9, in piece k: place and length of the first factor that is not a Christoffel word
unfoldable pub dent_in : (ℕ → ℕ) → Outline → ℕ → Refusal
dent_in place t k = Dent (suc k) (place (cut t k + 1 + dent_at (factors t k))) (dent_length (factors t k)) (cell_found t)

-- The first refusal of a list that applies, or the given verdict. Each stands with the test whether it applies
unfoldable pub first_of : List (Bool × Refusal) → Result Taken Refusal → Result Taken Refusal
first_of [] v = v
first_of ((b, f) ∷ cs) v = cond b (Err f) (first_of cs v)

-- 1 to 9 of an outline, in this order. 8 and 9 go by its border, with places in the list as sent
unfoldable pub checks : Outline → List (Bool × Refusal)
checks o =
    (bad_count o.letters, Length) ∷
    (bad_start o.start, Start) ∷
    (ltb (letter_place o.letters) (size o), Letter (letter_place o.letters)) ∷
    (ltb (leaving_place o) (size o), OffChart (leaving_place o)) ∷
    (unclosed o, NotClosed) ∷
    (ltb (touching_place o) (size o - 1), Touches (touching_place o)) ∷
    (ltb (back_step_piece (border o)) 4, back_step_in (place_sent o) (border o) (back_step_piece (border o))) ∷
    (ltb (dent_piece (border o)) 4, dent_in (place_sent o) (border o) (dent_piece (border o))) ∷ []

-- The first of 1 to 9 that applies, otherwise taken, with the count of edges and the anchor, which is the cell at W: what a close checks,
-- in the holder and in the plain book
unfoldable pub verdict_of : Outline → Result Taken Refusal
verdict_of o = first_of (checks o) (taken_with (edge_count (border o)) (border o).start)

-- 10: a taken outline needs two numbers for each edge in a buffer of m
unfoldable pub with_room : ℕ → Result Taken Refusal → Result Taken Refusal
with_room m (Err f) = Err f
with_room m (Ok t) = cond (ltb m (2 * t.edges)) (Err (EdgeList t.edges)) (Ok t)

-- 1 to 10, or taken: what a test checks
unfoldable pub test_of : Outline → ℕ → Result Taken Refusal
test_of o m = with_room m (verdict_of o)

-- The reply of a test in seven fields
unfoldable pub test_fields : Outline → ℕ → Fields
test_fields o m = verdict_fields (test_of o m)

-- The buffer afterwards: the edges first and the rest unchanged; all of it unchanged if the outline is refused
unfoldable pub buffer_after : Result Taken Refusal → List ℤ → List ℤ → List ℤ
buffer_after (Ok t) es buffer = es ++ drop (length es) buffer
buffer_after (Err f) es buffer = buffer

unfoldable pub edges_after : Outline → List ℤ → List ℤ
edges_after o buffer = buffer_after (test_of o (length buffer)) (edges (border o)) buffer
