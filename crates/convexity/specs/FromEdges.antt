-- The border of a taken outline, computed from its flat list of edges (the converse of
-- contract 3.4 and 3.12). Pieces and quadrants are counted from 0 here.
use Rattle.std.specs.Prelude.{ℕ, zero, suc, ◌+◌, true, cond, List, [], ◌∷◌, ◌++◌, eqb, ℤ, pos, negsuc, nat_abs}
use Rattle.words.specs.Counted.{edges_word}
use Rattle.convexity.specs.Edges.{Edge, pairs}
use Rattle.convexity.specs.Frame.{frame_of}
use Rattle.convexity.specs.parts.InFrame.{spell}

-- The quadrant of a direction: 0 from up, included, to right, excluded; 1 from right to
-- down; 2 from down to left; 3 from left to up. It is 4 for (0, 0)
unfoldable pub quadrant_of : ℤ → ℤ → ℕ
quadrant_of (pos zero) (pos zero) = 4
quadrant_of (pos zero) (pos (suc b)) = 0
quadrant_of (pos (suc a)) (pos zero) = 1
quadrant_of (pos (suc a)) (pos (suc b)) = 0
quadrant_of (pos zero) (negsuc b) = 2
quadrant_of (pos (suc a)) (negsuc b) = 1
quadrant_of (negsuc a) (pos b) = 3
quadrant_of (negsuc a) (negsuc b) = 2

-- The number of earlier letters of frame k in an edge of quadrant k. The later letters are counted as the earlier letters of the next
-- frame: the two lie along the same axis
unfoldable pub run_in : ℕ → ℤ → ℤ → ℕ
run_in zero dx dy = nat_abs dx
run_in (suc zero) dx dy = nat_abs dy
run_in (suc (suc k)) dx dy = run_in k dx dy

unfoldable pub rise_in : ℕ → ℤ → ℤ → ℕ
rise_in k dx dy = run_in (suc k) dx dy

-- The edges of quadrant k in their order, each as its run and its rise in frame k
unfoldable pub sizes_in : ℕ → List Edge → List (ℕ × ℕ)
sizes_in k [] = []
sizes_in k ((dx, dy) ∷ es) = cond (eqb (quadrant_of dx dy) k) ((run_in k dx dy, rise_in k dx dy) ∷ sizes_in k es) (sizes_in k es)

-- The letters of piece k: its later letter, then the letters of its edges
unfoldable pub piece_from : ℕ → List Edge → List ℕ
piece_from k es = spell (frame_of k) (true ∷ edges_word (sizes_in k es))

-- The letters of the border: 1, the letters of quadrant 0; 0, quadrant 1; 3, quadrant 2; 2, quadrant 3
unfoldable pub letters_from : List ℤ → List ℕ
letters_from es = let ps = pairs es in piece_from 0 ps ++ (piece_from 1 ps ++ (piece_from 2 ps ++ piece_from 3 ps))

-- The sum of the absolute column and row steps of all edges
unfoldable pub step_count : List Edge → ℕ
step_count [] = 0
step_count ((dx, dy) ∷ es) = nat_abs dx + nat_abs dy + step_count es
