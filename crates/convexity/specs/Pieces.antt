-- The four pieces of a border, their back-steps, factors, dents and edges (contract 3.3 to 3.13). Pieces are counted from 0 here.
use Rattle.std.specs.Prelude.{ℕ, suc, ◌+◌, ◌-◌, ◌*◌, ◌<◌, ◌≡◌, Bool, true, false, not, ◌||◌, List, [], ◌∷◌, ◌++◌, length, get_or, take, drop, ltb, eqb, ℤ, pos, ◌+ℤ◌, ◌*ℤ◌}
use Rattle.base.specs.Below.{first}
use Rattle.words.specs.Word.{Word, word_of, earliers, laters}
use Rattle.words.specs.Lyndon.{Factor, factors_of}
use Rattle.words.specs.Christoffel.{christoffel}
use Rattle.chart.specs.declared.Point.{Point}
use Rattle.chart.specs.Outline.{Outline}
use Rattle.convexity.specs.Frame.{Frame, frame_of}
use Rattle.lattice.specs.Refusals.{Simple}
use Rattle.convexity.specs.Cut.{cut}
use Rattle.convexity.specs.Clockwise.{border}

-- The letters from W, repeated as often as four pieces can need
unfoldable pub rounds : List ℕ → List ℕ
rounds t = t ++ (t ++ (t ++ t))

-- Piece k, counted from 0: the letters between cut k and the next
unfoldable pub piece : Outline → ℕ → List ℕ
piece o k = take (cut o (suc k) - cut o k) (drop (cut o k) (rounds o.letters))

-- The letter is neither of the piece's two (contract 3.5)
unfoldable pub is_back_step : Frame → ℕ → Bool
is_back_step f a = not (eqb a f.earlier || eqb a f.later)

-- The number of letters of piece k before its first back-step: all of them if it has none
unfoldable pub back_step_at : Outline → ℕ → ℕ
back_step_at o k = first (λ i. is_back_step (frame_of k) (get_or (piece o k) i 0)) (length (piece o k))

-- The first piece with a back-step, or 4
unfoldable pub back_step_piece : Outline → ℕ
back_step_piece o = first (λ k. ltb (back_step_at o k) (length (piece o k))) 4

-- The word of a piece, which leaves out the piece's first letter (contract 3.6), and the word's factors
unfoldable pub word : Outline → ℕ → Word
word o k = word_of (frame_of k).later (drop 1 (piece o k))

unfoldable pub factors : Outline → ℕ → List Factor
factors o k = factors_of (word o k)

-- The number of letters before the first factor that is not a Christoffel word, and the length of that factor: 0 if there is none
unfoldable pub dent_at : List Factor → ℕ
dent_at [] = 0
dent_at (f ∷ fs) = elim (christoffel f.word) [ true ↦ f.times * length f.word + dent_at fs | false ↦ 0 ]

unfoldable pub dent_length : List Factor → ℕ
dent_length [] = 0
dent_length (f ∷ fs) = elim (christoffel f.word) [ true ↦ dent_length fs | false ↦ length f.word ]

-- The first piece with a dent, or 4
unfoldable pub dent_piece : Outline → ℕ
dent_piece o = first (λ k. ltb 0 (dent_length (factors o k))) 4

-- One edge for each factor with its repeats, columns then rows (contract 3.12)
unfoldable pub edges_of : Frame → List Factor → List ℤ
edges_of f [] = []
edges_of f (g ∷ gs) =
    (pos (g.times * earliers g.word) *ℤ f.earlier_cols +ℤ pos (g.times * laters g.word) *ℤ f.later_cols) ∷
    (pos (g.times * earliers g.word) *ℤ f.earlier_rows +ℤ pos (g.times * laters g.word) *ℤ f.later_rows) ∷ edges_of f gs

-- The edges of pieces 1 to 4 in this order, and their count
unfoldable pub edges : Outline → List ℤ
edges o =
    edges_of (frame_of 0) (factors o 0) ++
    (edges_of (frame_of 1) (factors o 1) ++ (edges_of (frame_of 2) (factors o 2) ++ edges_of (frame_of 3) (factors o 3)))

unfoldable pub edge_count : Outline → ℕ
edge_count o = length (factors o 0) + (length (factors o 1) + (length (factors o 2) + length (factors o 3)))

-- The anchor of a set of cells: the lowest cell of the leftmost column that has one (contract 3.13). For a block it is the cell at W
-- (proofs/AsSent.antt: `west-anchor`)
pub record IsAnchor (marked : ℕ → ℕ → Bool) (a : Point) : Type 0 where
  pub enclosed : marked a.col a.row ≡ true
  pub leftmost : (c r : ℕ) → c < a.col → marked c r ≡ false
  pub lowest : (r : ℕ) → r < a.row → marked a.col r ≡ false

-- None of 1 to 8 applies to the outline, so it is checked for dents
pub record Reaches (o : Outline) : Type 0 where
  pub simple : Simple o
  pub straight : ltb (back_step_piece (border o)) 4 ≡ false
