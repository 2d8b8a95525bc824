-- The method finds the place of the definition.
use Rattle.std.proofs.Common.{◌∙◌, ℕ, ap, cond, length, nat_lt, rules, tests, le-ltb, arith}
use Rattle.std.specs.Prelude.{Some, None}
use Rattle.std.proofs.lemmas.Iterator.{YieldsList-from_slice}
use Rattle.std.proofs.lemmas.Iterator.Search.{position_from_yields_List}
use Rattle.base.proofs.SearchLaws.{place-first}
use Rattle.lattice.specs.Refusals.{letter_place}
use Rattle.survey.proofs.checks.letter_place.Goals as goal

pub returns-then-some_above : goal.returns-then-some_above
unfolding letter_place
returns-then-some_above c =
    let w = c.args.w.now in
    position_from_yields_List _ _ _ _ c.position.ensures.ran (YieldsList-from_slice w cc) (λ x b q k. search (rules, tests))
    ∙ ap (λ (i : ℕ). cond (nat_lt i (length w)) (Some i) None) (place-first (λ a. nat_lt 3 a) 0 w)

pub returns : goal.returns
returns c =
    let none = c.some_above.ensures c.if-some_above.false in
    rw (le-ltb (letter_place c.args.w.now) (length c.args.w.now) (omega arith))
