-- Verdict and edges of every outline as one value, with a buffer of zeros.
use Rattle.std.specs.Prelude.{List, replicate, ℤ, pos}
use Rattle.chart.specs.Limits.{most_numbers}
use Rattle.chart.specs.Outline.{Outline}
use Rattle.convexity.specs.Clockwise.{border}
use Rattle.convexity.specs.Pieces.{edges}
use Rattle.verdict.specs.Verdict.{verdict_of, buffer_after}
use Rattle.judge.specs.declared.Judged.{Judged}

abbrev pub zeros : List ℤ
zeros = replicate most_numbers (pos 0)

-- Verdict and edges of every outline as one value (contract 5, 3.12)
unfoldable pub judged_of : Outline → Judged
judged_of o = record { verdict = verdict_of o; numbers = buffer_after (verdict_of o) (edges (border o)) zeros }
