-- Each return is a case of the definition: an edge bounds no column from below unless it rises and column 0 is outside it.
use Prim.Native.Nat.{◌-◌}
use native.Mathlib.Omega.{arith}
use Rattle.comparison.specs.parts.Rows.{first_of}
use Rattle.comparison.proofs.Columns.{first-level, first_inner, first-outer, quotient-small}
use Rattle.comparison.proofs.row_walk.first_column.Goals as goal

pub returns-then-e : goal.returns-then-e
unfolding first_of
returns-then-e c = let s = c.args.e in first-level s.y s.v s.plus s.minus (omega arith)

pub returns-then-e-2 : goal.returns-then-e-2
unfolding first_of
returns-then-e-2 c = let s = c.args.e in first_inner s.y s.v s.plus s.minus (omega arith)

pub overflow_add-result : goal.overflow_add-result
overflow_add-result c =
    let m = c.args.e.minus - c.args.e.plus - 1 in
    record { fits = omega (arith, quotient-small m (c.args.e.v - c.args.e.y) c.args.e.minus (omega arith), c.well_formed) }

pub returns : goal.returns
unfolding first_of
returns c = let s = c.args.e in first-outer s.y s.v s.plus s.minus (omega arith) (omega arith)
