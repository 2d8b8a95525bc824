-- A row's columns are corner columns of the chart, which fit in a byte. At the end the lists agree with the definition at each index.
use Rattle.std.proofs.Common.{ℕ, ◌<◌, ◌≤◌, ◌≡◌, List, min, max, arith}
use Rattle.chart.specs.Limits.{corners, side}
use Rattle.chart.specs.Outline.{Outline}
use Rattle.rows.specs.parts.Rows.{rows, RowEnds}
use Rattle.spans.specs.Spans.{left_side, right_side, spans_of}
use Rattle.spans.specs.declared.Spans.{Spans}
use Rattle.spans.proofs.Tables.{filled-end, filled-same, up_le, down_le}
use Rattle.spans.proofs.spans_of.Goals as goal

columns-le : {o : Outline} {up down : List ℕ} → RowEnds o up down → (k : ℕ) → k < corners → (rows up k ≤ side) × (rows down k ≤ side)
columns-le {o} ends k h = (rw (ends.lo_up k h) (up_le o k), rw (ends.hi_down k h) (down_le o k))

same : (f : ℕ → ℕ → ℕ) {a b c d : ℕ} → a ≡ c → b ≡ d → f a b ≡ f c d
same f e g i = f (e i) (g i)

spans-eq : {a b c d : List ℕ} → a ≡ c → b ≡ d → ◌≡◌ {A = Spans} (record { first = a; past = b }) (record { first = c; past = d })
spans-eq e g i = record { first = e i; past = g i }

pub overflow_cast-first : goal.overflow_cast-first
overflow_cast-first c = omega (arith, columns-le c.row_ends-ends.ensures c.loop-k.k (omega arith), c.min.ensures)

pub overflow_cast-past : goal.overflow_cast-past
overflow_cast-past c = omega (arith, columns-le c.row_ends-ends.ensures c.loop-k.k (omega arith), c.max.ensures)

pub returns : goal.returns
unfolding spans_of left_side right_side
returns c =
    let ends = c.row_ends-ends.ensures in
    let k : c.loop-k.k ≡ side = omega arith in
    spans-eq
    (filled-end _ side c.loop-k.first
    (filled-same (λ m h. same min (ends.lo_up m (omega arith)) (ends.hi_down m (omega arith))) (rw k at c.loop-k.invariant.0)))
    (filled-end _ side c.loop-k.past
    (filled-same (λ m h. same max (ends.lo_up m (omega arith)) (ends.hi_down m (omega arith))) (rw k at c.loop-k.invariant.1)))
