-- The tests are the definition's. The float comparisons compare values, because the numbers are exactly floats.
use Rattle.std.proofs.Common.{sym, subst, rules}
use mathlib.Core.Bool.{and_assoc}
use lib.Dec.{T}
use mir.Syntax.{w32}
use mir.Val.{SFits}
use mir.ValLaws.{to_z-of_z}
use Rattle.readings.specs.parts.Walk.{spanned}
use Rattle.readings.proofs.Numbers.{good-exact, reached-le, le-reached}
use Rattle.readings.proofs.walk.within.Goals as goal

pub returns : goal.returns
unfolding spanned
returns c =
    let least : SFits w32 c.args.m.least = search rules in
    let most : SFits w32 c.args.m.most = search rules in
    let exact = good-exact c.args.x (subst T (sym c.well_formed.1.0.1) tt) c.requires.2 in
    simp (
      to_z-of_z w32 _ least,
      to_z-of_z w32 _ most,
      c.from.ensures,
      reached-le c.args.m.least c.requires.0 c.args.x exact,
      le-reached c.args.m.most c.requires.1 c.args.x exact,
      and_assoc,
    )
