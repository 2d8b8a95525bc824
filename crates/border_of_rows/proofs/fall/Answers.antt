-- A row's letters follow those of the rows above it.
use Prim.Native.Nat.{ℕ, suc, ◌+◌, ◌-◌, ◌≤◌, ◌<◌}
use native.Mathlib.Omega.{arith}
use mathlib.Core.Path.{◌≡◌, sym, ap, ◌∙◌}
use mathlib.Core.List.{[], ◌∷◌, ◌++◌}
use lib.ListN.{length, length-append, length-set}
use Rattle.std.proofs.lemmas.List.{length_push}
use Rattle.std.specs.Iterator.Adapters.{rev_source}
use Rattle.std.specs.Slice.ArrayWindows.{array_windows_parts}
use Rattle.rows.specs.parts.Rows.{rows}
use Rattle.completion.specs.RowsOutline.{across}
use Rattle.completion.specs.parts.Written.{descent}
use Rattle.border_of_rows.proofs.Writing.{wrote_none, wrote-next, wrote-both, wrote-same}
use Rattle.border_of_rows.proofs.Pairs.{none-left, from-back}
use Rattle.border_of_rows.proofs.Parts.{fall-first, fall-more, fall-fits, fall-some}
use Rattle.border_of_rows.proofs.fall.Goals as goal

pub bounds-out-at : goal.bounds-out-at
bounds-out-at c = omega (arith, c.requires.2, fall-some (rows c.args.hi.now) c.args.y (c.args.e - c.args.y))

pub loop-below-init : goal.loop-below-init
loop-below-init c =
    let w = fall-first (rows c.args.hi.now) c.args.e in
    let some = fall-some (rows c.args.hi.now) c.args.y (c.args.e - c.args.y) in
    let first = wrote-next (wrote_none c.args.out.now c.args.at) c.args.at 3 (omega arith) (omega (arith, c.requires.2, some)) in
    let z : c.args.e - 0 ≡ c.args.e = omega arith in
    rw (c.into_iter-below-iterator.ensures.into_iter_gives, c.rev-below-items.ensures.source, z, w) (
      record {
        size = c.array_windows.ensures.size;
        rest = c.array_windows.ensures.rest;
        ordered = c.requires.0;
        within = omega (arith, c.told-hi, c.requires.1);
      },
      omega arith,
      omega arith,
      length-set c.args.out.now c.args.at 3,
      first,
    )

-- An iteration has room for one row
room : (hi : ℕ → ℕ) (y n e k at size : ℕ) → y < e - n → n ≤ e → k ≡ at + length (descent hi (e - n) n) → at + length (descent hi y (e - y)) ≤ size
    → k + suc (length (across (hi (e - n)) (hi (e - n - 1)))) ≤ size
room hi y n e k at size below few begun all = omega (arith, fall-fits hi y (e - n) n e below (omega arith))

pub across-k-requires : goal.across-k-requires
across-k-requires c =
    let inv = c.loop-below.invariant in
    let f = from-back inv.0 (array_windows_parts (rev_source c.next.new.self)) c.in-Some.field-0 c.in-Some.ensures.steps in
    let here = room (rows c.args.hi.now) c.args.y (length c.loop-below.yielded) c.args.e c.loop-below.k c.args.at (length c.loop-below.out) f.0 inv.1 inv.2
    (omega (arith, inv.3, c.requires.2)) in
    rw (f.2.first, f.2.second) (omega (arith, here))

pub bounds-out-k : goal.bounds-out-k
bounds-out-k c =
    let inv = c.loop-below.invariant in
    let f = from-back inv.0 (array_windows_parts (rev_source c.next.new.self)) c.in-Some.field-0 c.in-Some.ensures.steps in
    let here = room (rows c.args.hi.now) c.args.y (length c.loop-below.yielded) c.args.e c.loop-below.k c.args.at (length c.loop-below.out) f.0 inv.1 inv.2
    (omega (arith, inv.3, c.requires.2)) in
    let said = rw (f.2.first, f.2.second) at c.across-k.ensures in
    omega (arith, here, said.0, said.1.sized)

pub overflow_add-k-in-loop-below : goal.overflow_add-k-in-loop-below
overflow_add-k-in-loop-below c =
    let inv = c.loop-below.invariant in
    let f = from-back inv.0 (array_windows_parts (rev_source c.next.new.self)) c.in-Some.field-0 c.in-Some.ensures.steps in
    let here = room (rows c.args.hi.now) c.args.y (length c.loop-below.yielded) c.args.e c.loop-below.k c.args.at (length c.loop-below.out) f.0 inv.1 inv.2
    (omega (arith, inv.3, c.requires.2)) in
    let said = rw (f.2.first, f.2.second) at c.across-k.ensures in
    omega (arith, here, said.0, said.1.sized, inv.3)

pub loop-below-preserved : goal.loop-below-preserved
loop-below-preserved c =
    let hi = rows c.args.hi.now in
    let n = length c.loop-below.yielded in
    let i = c.args.e - n in
    let inv = c.loop-below.invariant in
    let f = from-back inv.0 (array_windows_parts (rev_source c.next.new.self)) c.in-Some.field-0 c.in-Some.ensures.steps in
    let here = room hi c.args.y n c.args.e c.loop-below.k c.args.at (length c.loop-below.out) f.0 inv.1 inv.2 (omega (arith, inv.3, c.requires.2)) in
    let said = rw (f.2.first, f.2.second) at c.across-k.ensures in
    let k = c.across-k.result in
    let w = descent hi i n in
    let a = across (hi i) (hi (i - 1)) in
    let m = length-append w a in
    let more = fall-more hi i n (omega (arith, f.0)) in
    let e : k ≡ c.args.at + length (w ++ a) = omega (arith, said.0, inv.2, m) in
    let d : c.args.e - (n + 1) ≡ i - 1 = omega arith in
    rw (length_push c.loop-below.yielded c.in-Some.field-0, d) (
      f.1,
      omega (arith, f.0),
      omega (arith, e, ap length more, length-append (w ++ a) (3 ∷ [])),
      length-set c.across-k.new.out k 3 ∙ said.1.sized ∙ inv.3,
      wrote-same (sym more) (wrote-next (wrote-both inv.4 c.loop-below.k inv.2 said.1) k 3 e (omega (arith, here, said.0, inv.3))),
    )

pub returns : goal.returns
returns c =
    let inv = c.loop-below.invariant in
    let i = none-left inv.0 (array_windows_parts (rev_source c.next.new.self)) c.in-None.ensures.steps in
    let n : length c.loop-below.yielded ≡ c.args.e - c.args.y = omega (arith, i, inv.1) in
    let y : c.args.e - (c.args.e - c.args.y) ≡ c.args.y = omega (arith, c.requires.0) in
    (rw (n, y) at inv.2, rw (n, y) at inv.4)
