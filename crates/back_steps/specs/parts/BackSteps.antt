-- What the search for the first back-step promises, for every border whose pieces lie in the buffer between the cut places.
use Rattle.std.specs.Prelude.{ℕ, ◌+◌, ◌-◌, ◌*◌, ◌≤◌, ◌<◌, ◌≡◌, List, length, get_or, take, drop, Option, Some, None}
use Rattle.base.specs.Below.{first}
use Rattle.chart.specs.Limits.{longest}
use Rattle.chart.specs.Outline.{Outline}
use Rattle.convexity.specs.Frame.{frame_of}
use Rattle.convexity.specs.Cut.{cut}
use Rattle.convexity.specs.Pieces.{is_back_step, back_step_at, back_step_piece}
use Rattle.back_steps.specs.declared.BackStep.{BackStep}
use Rattle.pieces.specs.parts.Pieces.{Laid}

-- The letters of a list from a place on up to another
abbrev pub part : ℕ → ℕ → List ℕ → List ℕ
part from to letters = take (to - from) (drop from letters)

-- How many letters of piece k come before its first back-step (contract 3.5)
abbrev pub straight_for : ℕ → List ℕ → ℕ
straight_for k piece = first (λ i. is_back_step (frame_of k) (get_or piece i 0)) (length piece)

-- Two places of the letters read four times round; there are at most as many letters as an outline has
pub record Within (from to : ℕ) (letters : List ℕ) : Type 0 where
  pub short : length letters ≤ longest
  pub rises : from ≤ to
  pub round : to ≤ 4 * length letters

-- The first back-step is in piece k, at letter i of the border
pub record StepIs (o : Outline) (k i : ℕ) : Type 0 where
  pub piece : k ≡ back_step_piece o
  pub at : i ≡ cut o k + back_step_at o k

pub record FoundAt (buffer cuts : List ℕ) (k i : ℕ) : Type 0 where
  pub piece_lt : k < 4
  pub at_le : i ≤ length buffer
  pub step : (o : Outline) → Laid o cuts buffer → StepIs o k i

abbrev pub Found : List ℕ → List ℕ → Option BackStep → Type 0
Found buffer cuts None = (o : Outline) → Laid o cuts buffer → back_step_piece o ≡ 4
Found buffer cuts (Some step) = FoundAt buffer cuts step.piece step.at
