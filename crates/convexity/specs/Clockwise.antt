-- The clockwise form of an outline (contract 2.1 to 2.3): the letters as sent, or the walk read backward if they run anticlockwise.
-- Everything said of an outline that passes refusals 1 to 6 is said of its clockwise form.
use Rattle.std.specs.Prelude.{ℕ, suc, ◌-◌, ◌<◌, ◌≡◌, Bool, true, false, cond, List, [], ◌∷◌, ◌++◌}
use Rattle.chart.specs.Outline.{Outline}
use Rattle.lattice.specs.Chart.{corner_at, size, letter_at}
unfoldable pub use Rattle.lattice.specs.Chart.{opposite}
use Rattle.lattice.specs.Enclosed.{encloses}
use Rattle.convexity.specs.Cut.{from_w, west_place, clockwise, around}

-- The letters of the same walk read backward, from its end to its start
unfoldable pub backward : List ℕ → List ℕ
backward [] = []
backward (a ∷ w) = backward w ++ (opposite a ∷ [])

-- A closed walk in the other direction
abbrev pub reversed : Outline → Outline
reversed o = record { start = o.start; letters = backward o.letters }

-- The clockwise form, from the same start corner
unfoldable pub clockwise_form : Outline → Outline
clockwise_form o = cond (clockwise (from_w o)) o (reversed o)

-- The border: the clockwise form started at W (contract 3.2). Pieces, factors and edges of an outline are those of its border
abbrev pub border : Outline → Outline
border o = from_w (clockwise_form o)

-- The block of an outline: the cells that its clockwise form encloses (contract 2.4)
abbrev pub block : Outline → ℕ → ℕ → Bool
block o = encloses (clockwise_form o)

-- The index, in the list as sent, of letter i of n letters read forward or backward: i, or n - 1 - i
unfoldable pub read_from : Bool → ℕ → ℕ → ℕ
read_from forward n i = cond forward i (n - 1 - i)

-- The same for the letter that is i letters after place v of the clockwise form
unfoldable pub sent_from : Bool → ℕ → ℕ → ℕ → ℕ
sent_from forward n v i = read_from forward n (around n v i)

-- The index, in the list as sent, of the letter that is i letters after W on the border (contract 5.3)
unfoldable pub place_sent : Outline → ℕ → ℕ
place_sent o i = sent_from (clockwise (from_w o)) (size o) (west_place (clockwise_form o)) i

-- Letter i of the border is the letter at place j as sent, along the same side of the block. If the outline runs anticlockwise, it is the
-- opposite letter and leaves the corner where the letter as sent arrives
pub record ReadAs (o : Outline) (i j : ℕ) : Type 0 where
  pub below : j < size o
  pub forward : clockwise (from_w o) ≡ true → (letter_at (border o) i ≡ letter_at o j) × (corner_at (border o) i ≡ corner_at o j)
  pub back : clockwise (from_w o) ≡ false → (letter_at (border o) i ≡ opposite (letter_at o j)) × (corner_at (border o) i ≡ corner_at o (suc j))
