-- A row's letters follow those of the rows below it.
use Prim.Native.Nat.{ℕ, suc, ◌+◌, ◌-◌, ◌≤◌, ◌<◌}
use native.Mathlib.Omega.{arith}
use mathlib.Core.Path.{◌≡◌, sym, ap}
use mathlib.Core.List.{[], ◌∷◌, ◌++◌}
use lib.ListN.{length, length-append, length-set}
use Rattle.std.proofs.lemmas.List.{length_push}
use Rattle.std.specs.Slice.ArrayWindows.{array_windows_parts}
use Rattle.rows.specs.parts.Rows.{rows}
use Rattle.completion.specs.RowsOutline.{across}
use Rattle.completion.specs.parts.Written.{to_row}
use Rattle.border_of_rows.proofs.Writing.{wrote_none, wrote-next, wrote-both, wrote-same}
use Rattle.border_of_rows.proofs.Pairs.{none-left, from-front}
use Rattle.border_of_rows.proofs.Parts.{rise-more, rise-fits}
use Rattle.border_of_rows.proofs.rise.Goals as goal

pub loop-below-init : goal.loop-below-init
unfolding to_row
loop-below-init c =
    let z : c.args.y + 0 ≡ c.args.y = omega arith in
    rw (c.into_iter-below-iterator.ensures.into_iter_gives, z) (
      record {
        size = c.array_windows-below-items.ensures.size;
        rest = c.array_windows-below-items.ensures.rest;
        ordered = c.requires.0;
        within = omega (arith, c.told-lo, c.requires.1);
      },
      omega arith,
      wrote_none c.args.out.now c.args.at,
    )

-- An iteration has room for one row
room : (lo : ℕ → ℕ) (y n e k at size : ℕ) → y + n < e → k ≡ at + length (to_row lo y n) → at + length (to_row lo y (e - y)) ≤ size
    → k + suc (length (across (lo (y + n)) (lo (y + n + 1)))) ≤ size
room lo y n e k at size below begun all = omega (arith, rise-fits lo y n (e - y) (omega arith))

pub bounds-out-k : goal.bounds-out-k
bounds-out-k c =
    let inv = c.loop-below.invariant in
    let f = from-front inv.0 (array_windows_parts c.next.new.self) c.in-Some.field-0 c.in-Some.ensures.steps in
    let here = room (rows c.args.lo.now) c.args.y (length c.loop-below.yielded) c.args.e c.loop-below.k c.args.at (length c.loop-below.out) f.0 inv.1
    (omega (arith, inv.2.sized, c.requires.2)) in
    omega (arith, here)

pub overflow_add-k : goal.overflow_add-k
overflow_add-k c =
    let inv = c.loop-below.invariant in
    let f = from-front inv.0 (array_windows_parts c.next.new.self) c.in-Some.field-0 c.in-Some.ensures.steps in
    let here = room (rows c.args.lo.now) c.args.y (length c.loop-below.yielded) c.args.e c.loop-below.k c.args.at (length c.loop-below.out) f.0 inv.1
    (omega (arith, inv.2.sized, c.requires.2)) in
    omega (arith, here)

pub across-k-requires : goal.across-k-requires
across-k-requires c =
    let inv = c.loop-below.invariant in
    let f = from-front inv.0 (array_windows_parts c.next.new.self) c.in-Some.field-0 c.in-Some.ensures.steps in
    let here = room (rows c.args.lo.now) c.args.y (length c.loop-below.yielded) c.args.e c.loop-below.k c.args.at (length c.loop-below.out) f.0 inv.1
    (omega (arith, inv.2.sized, c.requires.2)) in
    rw (f.2.first, f.2.second) (simp length-set (omega (arith, here)))

pub loop-below-preserved : goal.loop-below-preserved
loop-below-preserved c =
    let lo = rows c.args.lo.now in
    let y = c.args.y in
    let n = length c.loop-below.yielded in
    let inv = c.loop-below.invariant in
    let f = from-front inv.0 (array_windows_parts c.next.new.self) c.in-Some.field-0 c.in-Some.ensures.steps in
    let here = room lo y n c.args.e c.loop-below.k c.args.at (length c.loop-below.out) f.0 inv.1 (omega (arith, inv.2.sized, c.requires.2)) in
    let said = rw (f.2.first, f.2.second) at c.across-k.ensures in
    let w = to_row lo y n in
    let a = across (lo (y + n)) (lo (y + n + 1)) in
    let m = length-append w (1 ∷ []) in
    let more = rise-more lo y n in
    let one = wrote-next inv.2 c.loop-below.k 1 inv.1 (omega (arith, here, inv.2.sized)) in
    let d : y + (n + 1) ≡ y + n + 1 = omega arith in
    rw (length_push c.loop-below.yielded c.in-Some.field-0, d) (
      f.1,
      omega (arith, said.0, inv.1, ap length more, length-append (w ++ (1 ∷ [])) a, m),
      wrote-same (sym more) (wrote-both one (c.loop-below.k + 1) (omega (arith, inv.1, m)) said.1),
    )

pub returns : goal.returns
returns c =
    let inv = c.loop-below.invariant in
    let e = none-left inv.0 (array_windows_parts c.next.new.self) c.in-None.ensures.steps in
    let d : length c.loop-below.yielded ≡ c.args.e - c.args.y = omega (arith, e) in
    (rw d at inv.1, rw d at inv.2)
