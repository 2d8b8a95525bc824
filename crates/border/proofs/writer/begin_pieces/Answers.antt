-- One more first letter is written.
use Prim.Native.Nat.{suc, ◌+◌, ◌-◌}
use native.Mathlib.Omega.{arith}
use mathlib.Core.Path.{◌≡◌}
use Rattle.border.specs.parts.Rest.{firsts}
use Rattle.border.proofs.Writing.{wrote_none, wrote-next, length-firsts, firsts-next}
use Rattle.border.proofs.writer.begin_pieces.Goals as goal

pub loop-k-init : goal.loop-k-init
unfolding firsts
loop-k-init c =
    let a = c.args in
    let e : a.from - a.from ≡ 0 = omega arith in
    (omega arith, rw e (wrote_none a.letters.now a.at))

pub loop-k-preserved : goal.loop-k-preserved
loop-k-preserved c =
    let a = c.args in
    let k = c.loop-k.k in
    let i = c.loop-k.invariant in
    let n = k - a.from in
    let e : k + 1 - a.from ≡ suc n = omega (arith, i.0) in
    let d : suc (a.from + n) ≡ k + 1 = omega (arith, i.0) in
    let w = wrote-next i.1 (a.at + n) c.pair_at.result.later (omega (arith, length-firsts a.from n)) (omega (arith, i.0)) in
    (omega (arith, i.0), rw (e, firsts-next a.from n, d, ← c.pair_at.ensures.later) w)
