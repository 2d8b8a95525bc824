-- After i rounds of the loop the first i letters of the walk backward are in the part.
use Prim.Native.Nat.{ℕ, suc, ◌-◌, ◌<◌}
use native.Mathlib.Omega.{arith}
use mathlib.Core.Path.{◌≡◌, sym, ap, ◌∙◌}
use lib.ListN.{length, get_or}
use Rattle.std.proofs.Common.{◌≢◌, get_or-set_other, get_or-set_same, below_more}
use Rattle.std.proofs.lemmas.List.{ext_get_or}
use Rattle.convexity.specs.Clockwise.{opposite}
use Rattle.convexity.proofs.Clockwise.{length-backward, letter-backward}
use Rattle.clockwise_copy.proofs.copy_back.Goals as goal

pub loop-i-preserved : goal.loop-i-preserved
loop-i-preserved c =
    let w = c.args.list.now in
    let i = c.loop-i.i in
    let lt : i < length c.loop-i.part = omega arith in
    let h : i < length w = omega (arith, c.loop-i.auto.part, c.requires) in
    let same : length w - 1 - i ≡ length w - suc i = omega arith in
    below_more _ _
    (λ k l. let ne : k ≢ i = omega arith in rw get_or-set_other (c.loop-i.invariant k l))
    (rw get_or-set_same (c.opposite.ensures ∙ ap (λ (j : ℕ). opposite (get_or w j 0)) same ∙ sym (letter-backward w i h)))

pub returns : goal.returns
returns c =
    ext_get_or 0 _ _ (omega (arith, c.loop-i.auto.part, c.requires, length-backward c.args.list.now))
    (λ k l. c.loop-i.invariant k (omega (arith, c.loop-i-test.false)))
