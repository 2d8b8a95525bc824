-- A piece in its own frame. There a point has two natural coordinates: how far it lies along the earlier letter, and how far along the
-- later. The proofs treat all four pieces in these coordinates.
use Rattle.std.specs.Prelude.{ℕ, zero, suc, ◌+◌, ◌-◌, ◌≤◌, true, false, List, [], ◌∷◌, length, take}
use Rattle.words.specs.Word.{Word, earliers, laters}
use Rattle.chart.specs.Limits.{side}
use Rattle.chart.specs.declared.Point.{Point}
use Rattle.chart.specs.Outline.{Outline}
use Rattle.lattice.specs.Chart.{corner_at}
use Rattle.convexity.specs.Frame.{Frame, frame_of, along}
use Rattle.convexity.specs.Cut.{cut}

-- The letters of a word in a frame
unfoldable pub spell : Frame → Word → List ℕ
spell f [] = []
spell f (false ∷ w) = f.earlier ∷ spell f w
spell f (true ∷ w) = f.later ∷ spell f w

-- How far a cell lies along a letter's direction, counted from the chart's border. The first cell of a piece has the same two coordinates
-- as the corner where the piece starts
unfoldable pub cell_along : ℕ → Point → ℕ
cell_along zero x = x.col
cell_along (suc zero) x = x.row
cell_along (suc (suc zero)) x = side - 1 - x.col
cell_along (suc (suc (suc a))) x = side - 1 - x.row

-- The corner where piece k starts, and its two coordinates in the piece's frame
unfoldable pub start_of : Outline → ℕ → Point
start_of o k = corner_at o (cut o k)

unfoldable pub start_e : Outline → ℕ → ℕ
start_e o k = along (frame_of k).earlier (start_of o k)

unfoldable pub start_l : Outline → ℕ → ℕ
start_l o k = along (frame_of k).later (start_of o k)

-- The coordinates of a cell in frame k
unfoldable pub cell_e : ℕ → Point → ℕ
cell_e k x = cell_along (frame_of k).earlier x

unfoldable pub cell_l : ℕ → Point → ℕ
cell_l k x = cell_along (frame_of k).later x

-- (P, Q) is under the path of a word that starts at (vp, vq): some prefix of the word ends no further along the earlier letter than P,
-- and no less far along the later one than Q
pub record UnderFrom (w : Word) (vp vq P Q : ℕ) : Type 0 where
  pub upto : ℕ
  pub within : upto ≤ length w
  pub left : vp + earliers (take upto w) ≤ P
  pub high : Q ≤ vq + laters (take upto w)
