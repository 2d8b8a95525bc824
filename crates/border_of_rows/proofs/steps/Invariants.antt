-- The letters up to the current row are counted.
use Rattle.std.proofs.Common.{◌+◌, ◌*◌, ◌≤◌, ◌≡◌, length}
use Rattle.rows.specs.parts.Rows.{rows}
use Rattle.completion.specs.parts.Written.{to_row}
use Rattle.std.specs.Slice.ArrayWindows.{array_windows_parts}
use Rattle.border_of_rows.proofs.Pairs.{Left}
use Rattle.border_of_rows.proofs.steps.Given as goal

abbrev pub invariant-loop-below : goal.invariant-loop-below
invariant-loop-below l =
    Left l.ends (l.y + length l.yielded) l.e (array_windows_parts l.below-iterator)
    × (l.n ≡ length (to_row (rows l.ends) l.y (length l.yielded))) × (l.n ≤ 65536 * length l.yielded)
