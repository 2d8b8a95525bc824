-- The first letters of the pieces so far are written.
use Rattle.std.proofs.Common.{◌-◌, ◌≤◌}
use Rattle.border.specs.parts.Rest.{firsts}
use Rattle.border.specs.parts.Wrote.{Wrote}
use Rattle.border.proofs.writer.begin_pieces.Given as goal

abbrev pub invariant-loop-k : goal.invariant-loop-k
invariant-loop-k l = (l.from ≤ l.k) × Wrote l.fn.letters l.at (firsts l.from (l.k - l.from)) l.letters
