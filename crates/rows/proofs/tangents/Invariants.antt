-- Loop invariant: `next` is complete for all rows from row `i - 1` up, and `above` is its entry at row `i - 1`.
use Rattle.std.proofs.Common.{◌≡◌, ◌-◌, ◌≤◌, length}
use Rattle.rows.specs.parts.Rows.{rows, Tangents}
use Rattle.rows.proofs.tangents.Given as goal

abbrev pub invariant-loop-i : goal.invariant-loop-i
invariant-loop-i l = (l.i ≤ l.t) × (length l.next ≡ 256) × (l.above ≡ rows l.next (l.i - 1)) × Tangents (rows l.lo) (rows l.next) (l.i - 1) l.t
