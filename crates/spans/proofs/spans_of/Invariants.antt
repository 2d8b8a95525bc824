-- Every row done has its two columns.
use Rattle.std.proofs.Common.{min, max}
use Rattle.chart.specs.Limits.{side}
use Rattle.rows.specs.parts.Rows.{rows}
use Rattle.spans.proofs.Tables.{Filled}
use Rattle.spans.proofs.spans_of.Given as goal

abbrev pub invariant-loop-k : goal.invariant-loop-k
invariant-loop-k l =
    Filled (λ r. min (rows l.up r) (rows l.down r)) side l.first l.k × Filled (λ r. max (rows l.up r) (rows l.down r)) side l.past l.k
