-- The letters up to the current row are written.
use Rattle.std.proofs.Common.{◌+◌, ◌≡◌, length}
use Rattle.std.specs.Slice.ArrayWindows.{array_windows_parts}
use Rattle.rows.specs.parts.Rows.{rows}
use Rattle.completion.specs.parts.Written.{to_row}
use Rattle.border_of_rows.specs.parts.Wrote.{Wrote}
use Rattle.border_of_rows.proofs.Pairs.{Left}
use Rattle.border_of_rows.proofs.rise.Given as goal

abbrev pub invariant-loop-below : goal.invariant-loop-below
invariant-loop-below l =
    Left l.lo (l.y + length l.yielded) l.e (array_windows_parts l.below-iterator)
    × (l.k ≡ l.at + length (to_row (rows l.lo) l.y (length l.yielded)))
    × Wrote l.initial.out l.at (to_row (rows l.lo) l.y (length l.yielded)) l.out
