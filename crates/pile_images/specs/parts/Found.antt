-- The letters round rows, and what rows are.
use Rattle.std.specs.Prelude.{ℕ, ◌≤◌, ◌≡◌, List, length, take, Option, None, Some, Result, Ok, Err}
use Rattle.chart.specs.Limits.{longest}
use Rattle.chart.specs.declared.Refusal.{Refusal}
use Rattle.chart.specs.declared.Refusal.TheVariants.{Damaged}
use Rattle.chart.specs.Outline.{Outline, at, outline}
use Rattle.completion.specs.parts.Written.{written_from}
use Rattle.hull_rows.specs.parts.Ends.{Lowest}
use Rattle.convexity.specs.Clockwise.{border}
use Rattle.spans.specs.declared.Spans.{Spans}
use Rattle.spans.specs.Spans.{no_spans}
use Rattle.pile_images.specs.declared.Ring.{Ring}
use Rattle.pile_images.specs.Left.{SetTo}

-- The letters round rows b to t - 1 are counted from the row of the start, and stand first in a list unless they are too many
pub record Ringed (first past : ℕ → ℕ) (b t : ℕ) (letters : List ℕ) (r : Ring) : Type 0 where
  pub lowest : Lowest first b t r.start.row
  pub start : r.start ≡ at (first r.start.row) r.start.row
  pub counted : r.count ≡ length (written_from first past b t r.start.row)
  pub written : r.count ≤ longest → take r.count letters ≡ written_from first past b t r.start.row
  pub sized : length letters ≡ longest

-- What rows are, with the letters of a border first in a list
unfoldable pub Holds : Spans → List ℕ → Result (Option Ring) Refusal → Type 0
Holds s l (Ok None) = s ≡ no_spans
Holds s l (Ok (Some r)) =
    (r.count ≤ length l) × (length l ≡ longest) × SetTo (outline r.start (take r.count l)) s
    × ((o : Outline) → SetTo o s → border o ≡ outline r.start (take r.count l))
Holds s l (Err f) = (f ≡ Damaged) × (s ≡ no_spans → ⊥) × ((o : Outline) → SetTo o s → ⊥)
