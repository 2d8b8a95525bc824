-- A walk from W that passes refusals 1 to 6; one without back-steps; and its shape, four words in a cycle (contract 3.3 to 3.6).
use Rattle.std.specs.Prelude.{ℕ, suc, ◌+◌, ◌<◌, ◌≡◌, Bool, true, false, [], ◌∷◌, ◌++◌}
use Rattle.words.specs.Word.{Word, earliers, laters}
use Rattle.chart.specs.Limits.{side}
use Rattle.chart.specs.Outline.{Outline}
use Rattle.lattice.specs.Chart.{corner_at, size}
use Rattle.lattice.specs.Walked.{Walked}
use Rattle.convexity.specs.Frame.{frame_of, next}
use Rattle.convexity.specs.Cut.{before, cut_corner, cut, clockwise}
use Rattle.convexity.specs.Pieces.{piece, word, back_step_piece}
use Rattle.convexity.specs.parts.InFrame.{spell, start_e, start_l}

-- A walk that passes refusals 1 to 6 and starts at W, the first corner of piece 1
pub record WalkFromW (o : Outline) : Type 0 where
  pub walked : Walked o
  pub west : (i : ℕ) → i < size o → before (frame_of 0) (corner_at o i) o.start ≡ false

-- A clockwise walk from W to which 8 does not apply: no piece has a back-step
pub record NoBackStep (o : Outline) : Type 0 where
  pub walk : WalkFromW o
  pub clockwise : clockwise o ≡ true
  pub straight : back_step_piece o ≡ 4

-- The shape of a border without back-steps: four words in a cycle
pub record Shape (o : Outline) : Type 0 where
  -- the cut places are the places of W, N, E and S, and increase up to the end of the border
  pub corners : (k : ℕ) → k < 4 → cut o k ≡ cut_corner o k
  pub round : cut o 4 ≡ size o
  pub rises : (k : ℕ) → k < 4 → cut o k < cut o (suc k)
  -- the border is its four pieces, one after the other
  pub whole : o.letters ≡ piece o 0 ++ (piece o 1 ++ (piece o 2 ++ piece o 3))
  -- a piece is its later letter and then its word; a word that is not empty ends with the later letter
  pub spelled : (k : ℕ) → k < 4 → piece o k ≡ spell (frame_of k) (true ∷ word o k)
  pub ends : (k : ℕ) → k < 4 → (x : Word) (b : Bool) → word o k ≡ x ++ (b ∷ []) → b ≡ true
  -- the next piece starts where this one ends, and its frame is this one turned by a quarter
  pub next_later : (k : ℕ) → k < 4 → start_l o (next k) ≡ start_e o k + earliers (word o k)
  pub next_earlier : (k : ℕ) → k < 4 → start_e o (next k) + start_l o k + 1 + laters (word o k) ≡ side
