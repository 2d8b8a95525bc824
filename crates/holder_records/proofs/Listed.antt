-- The edges at work are at most 100.
use Prim.Native.Nat.{ℕ, ◌≤◌}
use native.Mathlib.Omega.{arith}
use mathlib.Core.List.{List}
use lib.ListN.{length, length-take}
use lib.IntN.{ℤ}
use Rattle.chart.specs.Limits.{most_numbers}
use Rattle.holder_records.specs.Work.{Work, listed, work_edges}

listed-short : (numbers : List ℤ) (edges : ℕ) → length (listed numbers edges) ≤ most_numbers
unfolding listed
listed-short numbers edges = simp length-take (omega arith)

pub edges-short : (w : Work) → length (work_edges w) ≤ most_numbers
unfolding work_edges
edges-short w = listed-short w.numbers w.edges
