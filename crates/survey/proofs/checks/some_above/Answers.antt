-- If no letter is above 3, the search for one runs to the end.
use Rattle.std.proofs.Common.{◌≡◌, ◌∙◌, ◌||◌, Bool, length, sym, ap, arith}
use Rattle.base.proofs.SearchLaws.{some_at_start, some_next, first-of-none}
use Rattle.lattice.specs.Refusals.{letter_place}
use Rattle.survey.proofs.checks.some_above.Invariants.{above}
use Rattle.survey.proofs.checks.some_above.Goals as goal

pub loop-letter-init : goal.loop-letter-init
loop-letter-init c = sym (some_at_start (above c.args.w.now))

pub loop-letter-preserved : goal.loop-letter-preserved
loop-letter-preserved c =
    let at = c.loop-letter.letter-index in
    ap (λ (b : Bool). b || above c.args.w.now at) c.loop-letter.invariant ∙ sym (some_next (above c.args.w.now) at)

pub returns : goal.returns
unfolding letter_place
returns c e =
    let at : c.loop-letter.letter-index ≡ length c.args.w.now = omega arith in
    first-of-none (above c.args.w.now) (length c.args.w.now) (rw (← at) (sym c.loop-letter.invariant ∙ e))
