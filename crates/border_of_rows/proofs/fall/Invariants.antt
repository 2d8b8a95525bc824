-- The letters down to the current row are written.
use Rattle.std.proofs.Common.{◌+◌, ◌-◌, ◌≤◌, ◌≡◌, length}
use Rattle.std.specs.Iterator.Adapters.{rev_source}
use Rattle.std.specs.Slice.ArrayWindows.{array_windows_parts}
use Rattle.rows.specs.parts.Rows.{rows}
use Rattle.completion.specs.parts.Written.{descent}
use Rattle.border_of_rows.specs.parts.Wrote.{Wrote}
use Rattle.border_of_rows.proofs.Pairs.{Left}
use Rattle.border_of_rows.proofs.fall.Given as goal

abbrev pub invariant-loop-below : goal.invariant-loop-below
invariant-loop-below l =
    let n = length l.yielded in
    Left l.hi l.y (l.e - n) (array_windows_parts (rev_source l.below-iterator)) × (n ≤ l.e)
    × (l.k ≡ l.at + length (descent (rows l.hi) (l.e - n) n)) × (length l.out ≡ length l.fn.out)
    × Wrote l.fn.out l.at (descent (rows l.hi) (l.e - n) n) l.out
