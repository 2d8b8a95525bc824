-- Each return is a case of the definition: only a falling edge bounds columns from above. A level edge allows all columns or none.
use Prim.Native.Nat.{◌+◌, ◌-◌}
use native.Mathlib.Omega.{arith}
use Rattle.comparison.specs.parts.Rows.{end_of}
use Rattle.comparison.proofs.Columns.{end-rising, end-outer, end-level, end-inner, quotient-small}
use Rattle.comparison.proofs.row_walk.end_column.Goals as goal

pub returns-then-e : goal.returns-then-e
unfolding end_of
returns-then-e c = let s = c.args.e in end-rising s.y s.v s.plus s.minus (omega arith)

pub returns-then-e-2 : goal.returns-then-e-2
unfolding end_of
returns-then-e-2 c = let s = c.args.e in end-outer s.y s.v s.plus s.minus (omega arith) (omega arith)

pub returns-then-e-3 : goal.returns-then-e-3
unfolding end_of
returns-then-e-3 c = let s = c.args.e in end-level s.y s.v s.plus s.minus (omega arith) (omega arith)

pub overflow_add-result : goal.overflow_add-result
overflow_add-result c =
    let m = c.args.e.plus - c.args.e.minus in
    record { fits = omega (arith, quotient-small m (c.args.e.y - c.args.e.v) (m + 1) (omega arith), c.requires) }

pub returns : goal.returns
unfolding end_of
returns c = let s = c.args.e in end-inner s.y s.v s.plus s.minus (omega arith) (omega arith)
