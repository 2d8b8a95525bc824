-- The two extremes are found apart.
use Rattle.std.proofs.Common.{rules}
use mir.Syntax.{w32}
use mir.Val.{SFits}
use mir.ValLaws.{to_z-of_z}
use Rattle.readings.specs.parts.Walk.{met}
use Rattle.readings.proofs.Walks.{least-is, most-is}
use Rattle.readings.proofs.walk.meet.Goals as goal

pub returns : goal.returns
unfolding met
returns c =
    let n : SFits w32 c.args.n = search rules in
    let least : SFits w32 c.args.m.least = search rules in
    let most : SFits w32 c.args.m.most = search rules in
    let low : SFits w32 c.min.result = search rules in
    let high : SFits w32 c.max.result = search rules in
    let lows = simp (to_z-of_z w32 _ least, to_z-of_z w32 _ n, least-is) at c.min.ensures.value in
    let highs = simp (to_z-of_z w32 _ most, to_z-of_z w32 _ n, most-is) at c.max.ensures.value in
    simp (to_z-of_z w32 _ low, to_z-of_z w32 _ high) (simp (lows, highs))
