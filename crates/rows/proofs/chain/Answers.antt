-- The row read from the table is the upper end of the edge.
use Rattle.std.proofs.Common.{◌≡◌, ℕ, suc, ◌-◌, ◌<◌, ◌≤◌, sym, refl, ◌∙◌, arith}
use Rattle.rows.specs.parts.Rows.{rows, Tangents}
use Rattle.rows.proofs.SearchLaws.{edge_end, edge-above, edge-below, chain-done, chain-stops, chain-goes-on}
use Rattle.rows.proofs.chain.Goals as goal

-- The upper end of the edge from row i
record End (lo : ℕ → ℕ) (t i j : ℕ) : Type 0 where
  end : j ≡ edge_end lo t i
  above : i < j
  below : j < t

read-end : {lo next : ℕ → ℕ} {b t i j : ℕ} → Tangents lo next b t → b ≤ i → suc i < t → j ≡ next i → End lo t i j
read-end {lo} {next} {b} {t} {i} {j} s h l e =
    let f = e ∙ s.furthest_left i h l in
    record { end = f; above = rw f (edge-above lo t i); below = rw f (edge-below lo t i l) }

pub loop-i-init : goal.loop-i-init
loop-i-init c = (omega arith, omega arith, refl)

pub gap_row-r-requires : goal.gap_row-r-requires
gap_row-r-requires c = omega (arith, read-end c.tangents-next.ensures (omega arith) (omega arith) c.from-j.ensures)

pub overflow_cast-j : goal.overflow_cast-j
overflow_cast-j c = omega (arith, read-end c.tangents-next.ensures (omega arith) (omega arith) c.from-j.ensures)

pub overflow_cast-r : goal.overflow_cast-r
overflow_cast-r c = omega (arith, read-end c.tangents-next.ensures (omega arith) (omega arith) c.from-j.ensures)

pub crossing-requires : goal.crossing-requires
crossing-requires c = omega (arith, read-end c.tangents-next.ensures (omega arith) (omega arith) c.from-j.ensures)

pub overflow_cast-result-then-r-j : goal.overflow_cast-result-then-r-j
overflow_cast-result-then-r-j c = omega (arith, read-end c.tangents-next.ensures (omega arith) (omega arith) c.from-j.ensures)

pub returns-then-r-j : goal.returns-then-r-j
returns-then-r-j c =
    let args = c.args in
    let iteration = c.loop-i in
    let row = c.gap_row-r in
    let end = read-end c.tangents-next.ensures (omega arith) (omega arith) c.from-j.ensures in
    let stop = chain-stops (rows args.lo.now) args.t iteration.i c.from-j.result row.result (omega arith) end.end row.ensures.0 (omega arith) in
    (cc (c.crossing.ensures.0, iteration.invariant.2, stop), omega arith)

pub loop-i-smaller : goal.loop-i-smaller
loop-i-smaller c = omega (arith, read-end c.tangents-next.ensures (omega arith) (omega arith) c.from-j.ensures)

pub loop-i-preserved : goal.loop-i-preserved
loop-i-preserved c =
    let args = c.args in
    let iteration = c.loop-i in
    let row = c.gap_row-r in
    let end = read-end c.tangents-next.ensures (omega arith) (omega arith) c.from-j.ensures in
    let next = chain-goes-on (rows args.lo.now) args.t iteration.i c.from-j.result row.result (omega arith) end.end row.ensures.0 (omega arith) in
    (omega arith, omega arith, iteration.invariant.2 ∙ next)

pub returns : goal.returns
returns c =
    let iteration = c.loop-i in
    (sym (iteration.invariant.2 ∙ chain-done (rows c.args.lo.now) c.args.t iteration.i (c.args.t - iteration.i) (omega arith)), omega arith)
