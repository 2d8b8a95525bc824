-- The rows in the arrays are those of the outline at work (contract 7.9 and 8.3). If nothing is at work, they are never read.
use Rattle.std.specs.Prelude.{ℕ, ◌≡◌, true, false}
use Rattle.std.proofs.Math.Option.{Option, none, some}
use Rattle.chart.specs.Outline.{Outline}
use Rattle.convexity.specs.Clockwise.{block}
use Rattle.spans.specs.Spans.{Describes}
use Rattle.holder_memory.specs.Layout.{Holder}
use Rattle.holder_answers.specs.Arrays.{work_in}

-- With an outline at work at party p's place k, the columns kept are exactly those of the cells that it encloses
abbrev pub KeepsRows : Holder → ℕ → ℕ → Option Outline → Type 0
KeepsRows h p k none = (work_in h p k).taken ≡ false
KeepsRows h p k (some o) = ((work_in h p k).taken ≡ true) × Describes (work_in h p k).spans (block o)
