-- The verdict on an outline, and what becomes of the buffer.
use Rattle.std.specs.Prelude.{ℕ, ◌≤◌, ◌<◌, ◌≡◌, Bool, List, ◌++◌, length, drop, ℤ, Result}
use Rattle.chart.specs.declared.Refusal.{Refusal}
use Rattle.chart.specs.declared.Taken.{Taken}
use Rattle.chart.specs.Outline.{Outline}
use Rattle.lattice.specs.Chart.{size}
use Rattle.convexity.specs.Clockwise.{border, sent_from}
use Rattle.convexity.specs.Pieces.{edges}
use Rattle.verdict.specs.Verdict.{with_room, buffer_after}
use Rattle.verdict.specs.parts.Chain.{round_verdict, border_verdict}

-- The numbers es, n of them, are written to the front of a buffer with room for them; any other buffer is as it was
pub record Written (es : List ℤ) (n : ℕ) (before after : List ℤ) : Type 0 where
  pub room : n ≤ length before → after ≡ es ++ drop n before
  pub no_room : length before < n → after ≡ before

-- The verdict is v, and the edges es are written if it takes the outline and there is room
pub record Outcome (v : Result Taken Refusal) (es before after : List ℤ) (r : Result Taken Refusal) : Type 0 where
  pub verdict : r ≡ v
  pub buffer : after ≡ buffer_after (with_room (length before) v) es before

-- For a border o, read forward or backward from the list as sent, where W's letter stands at v in the clockwise form
abbrev pub OutcomeOfRound : Bool → ℕ → Outline → List ℤ → List ℤ → Result Taken Refusal → Type 0
OutcomeOfRound forward v o = Outcome (round_verdict (sent_from forward (size o) v) o) (edges o)

-- For an outline that passes refusals 1 to 6
abbrev pub OutcomeOfBorder : Outline → List ℤ → List ℤ → Result Taken Refusal → Type 0
OutcomeOfBorder o = Outcome (border_verdict o) (edges (border o))
