-- What is still to be written in a piece: the letters of its remaining edges, and then the later pieces.
use Rattle.std.specs.Prelude.{ℕ, zero, suc, ◌+◌, ◌-◌, List, [], ◌∷◌, ◌++◌, ℤ}
use Rattle.words.specs.Counted.{listed, counted_letter, edges_word}
use Rattle.convexity.specs.Edges.{Edge}
use Rattle.convexity.specs.Frame.{frame_of}
use Rattle.convexity.specs.parts.InFrame.{spell}
use Rattle.convexity.specs.FromEdges.{quadrant_of, run_in, rise_in, sizes_in}

-- The letters of the edges of quadrant k
unfoldable pub edge_letters : ℕ → List Edge → List ℕ
edge_letters k es = spell (frame_of k) (edges_word (sizes_in k es))

-- In piece k, with n pieces after it
unfoldable pub rest : ℕ → ℕ → List Edge → List ℕ
rest zero k es = edge_letters k es
rest (suc n) k es = edge_letters k es ++ ((frame_of (suc k)).later ∷ rest n (suc k) es)

-- The first letters of the n pieces after piece k
unfoldable pub firsts : ℕ → ℕ → List ℕ
firsts k zero = []
firsts k (suc n) = (frame_of (suc k)).later ∷ firsts (suc k) n

-- The letters of one edge of piece k
unfoldable pub letters : ℕ → ℕ → ℕ → List ℕ
letters k run rise = spell (frame_of k) (listed (counted_letter rise (run + rise)) (run + rise))

-- What one edge writes if piece p was begun last
unfoldable pub step_letters : ℕ → ℤ → ℤ → List ℕ
step_letters p dx dy =
    firsts p (quadrant_of dx dy - p) ++ letters (quadrant_of dx dy) (run_in (quadrant_of dx dy) dx dy) (rise_in (quadrant_of dx dy) dx dy)
