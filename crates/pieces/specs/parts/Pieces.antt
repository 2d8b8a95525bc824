-- The letter pairs of the code as the frames of the pieces, and the place of the pieces in a list of letters.
use Rattle.std.specs.Prelude.{ℕ, ◌≤◌, ◌≡◌, List, length, get_or, take}
use Rattle.chart.specs.Outline.{Outline}
use Rattle.convexity.specs.Frame.{Frame}
use Rattle.convexity.specs.Cut.{cut}
use Rattle.convexity.specs.Pieces.{rounds}
use Rattle.pieces.specs.declared.Pair.{Pair}

-- A row of the table has the letters and steps of a frame (contract 3.4)
pub record PairOf (f : Frame) (r : Pair) : Type 0 where
  pub earlier : r.earlier ≡ f.earlier
  pub later : r.later ≡ f.later
  pub earlier_cols : r.earlier_cols ≡ f.earlier_cols
  pub earlier_rows : r.earlier_rows ≡ f.earlier_rows
  pub later_cols : r.later_cols ≡ f.later_cols
  pub later_rows : r.later_rows ≡ f.later_rows

-- The pieces of a border o lie in a buffer between the cut places (contract 3.3)
pub record Laid (o : Outline) (at buffer : List ℕ) : Type 0 where
  pub places : (k : ℕ) → k ≤ 4 → get_or at k 0 ≡ cut o k
  pub within : cut o 4 ≤ length buffer
  pub letters : take (cut o 4) buffer ≡ take (cut o 4) (rounds o.letters)
