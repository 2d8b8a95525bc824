-- Each row adds its letters.
use Prim.Native.Nat.{◌+◌, ◌-◌}
use native.Mathlib.Omega.{arith}
use mathlib.Core.Path.{◌≡◌}
use lib.ListN.{length}
use Rattle.std.proofs.lemmas.List.{length_push}
use Rattle.std.specs.Slice.ArrayWindows.{array_windows_parts}
use Rattle.rows.specs.parts.Rows.{rows}
use Rattle.completion.specs.parts.Written.{to_row}
use Rattle.border_of_rows.proofs.Pairs.{none-left, from-front}
use Rattle.border_of_rows.proofs.Parts.{rise-length}
use Rattle.border_of_rows.proofs.steps.Goals as goal

pub loop-below-init : goal.loop-below-init
unfolding to_row
loop-below-init c =
    let z : c.args.y + 0 ≡ c.args.y = omega arith in
    rw (c.into_iter-below-iterator.ensures.into_iter_gives, z) (
      record {
        size = c.array_windows-below-items.ensures.size;
        rest = c.array_windows-below-items.ensures.rest;
        ordered = c.requires.0;
        within = omega (arith, c.told-ends, c.requires.1);
      },
      omega arith,
      omega arith,
    )

pub overflow_add-n-in-loop-below : goal.overflow_add-n-in-loop-below
overflow_add-n-in-loop-below c =
    let f = from-front c.loop-below.invariant.0 (array_windows_parts c.next.new.self) c.in-Some.field-0 c.in-Some.ensures.steps in
    omega (arith, c.loop-below.invariant.2, c.apart.ensures.1, c.requires.1, f.0)

pub loop-below-preserved : goal.loop-below-preserved
loop-below-preserved c =
    let inv = c.loop-below.invariant in
    let n = length c.loop-below.yielded in
    let f = from-front inv.0 (array_windows_parts c.next.new.self) c.in-Some.field-0 c.in-Some.ensures.steps in
    let d : c.args.y + (n + 1) ≡ c.args.y + n + 1 = omega arith in
    let more = rw (f.2.first, f.2.second) at c.apart.ensures.0 in
    rw (length_push c.loop-below.yielded c.in-Some.field-0, d) (
      f.1,
      omega (arith, inv.1, more, rise-length (rows c.args.ends.now) c.args.y n),
      omega (arith, inv.2, c.apart.ensures.1),
    )

pub returns : goal.returns
returns c =
    let inv = c.loop-below.invariant in
    let e = none-left inv.0 (array_windows_parts c.next.new.self) c.in-None.ensures.steps in
    let d : length c.loop-below.yielded ≡ c.args.e - c.args.y = omega (arith, e) in
    (rw d at inv.1, rw d at inv.2)
