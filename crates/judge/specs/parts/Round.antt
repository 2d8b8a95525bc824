-- What the functions of the judgement know of a border.
use Rattle.std.specs.Prelude.{ℕ, ◌+◌, ◌≤◌, ◌<◌, ◌≡◌, Bool, true, false, get_or}
use Rattle.chart.specs.Outline.{Outline, outline}
use Rattle.chart.specs.declared.Refusal.{Refusal}
use Rattle.chart.specs.declared.Refusal.TheVariants.{Dent}
use Rattle.lattice.specs.Chart.{corner_at, size}
use Rattle.lattice.specs.Refusals.{Simple}
use Rattle.convexity.specs.Frame.{frame_of}
use Rattle.convexity.specs.Cut.{before, corner_place, clockwise, cut}
use Rattle.convexity.specs.Clockwise.{sent_from}
use Rattle.verdict.specs.Verdict.{cell_found}
use Rattle.judge.specs.declared.Round.{Round}

-- A walk that passes refusals 1 to 6 and begins at W
pub record FromWest (o : Outline) : Type 0 where
  pub simple : Simple o
  pub west : (i : ℕ) → i < size o → before (frame_of 0) (corner_at o i) o.start ≡ false

-- The border of a round: its letters, from W on
abbrev pub border_of : Round → Outline
border_of t = outline t.west t.letters.now

-- t describes the border o: the place of W's letter in the clockwise form, the rows of S and N, and the cut places
pub record RoundOf (t : Round) (o : Outline) : Type 0 where
  pub walk : FromWest o
  pub place : t.place < size o
  pub clockwise : clockwise o ≡ true
  pub bottom : t.bottom ≡ (corner_at o (corner_place o 3)).row
  pub top : t.top ≡ (corner_at o (corner_place o 1)).row
  pub places : (k : ℕ) → k ≤ 4 → get_or t.cuts.at k 0 ≡ cut o k

-- Refusal 9 for a dent in piece k, l letters long, that begins at letter i of the border
unfoldable pub dent_as : Bool → ℕ → Outline → ℕ → ℕ → ℕ → Refusal
dent_as forward v o k i l = Dent (k + 1) (sent_from forward (size o) v i) l (cell_found o)
