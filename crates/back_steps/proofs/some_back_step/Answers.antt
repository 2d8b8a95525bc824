-- While none was found, no letter passed is a back-step.
use native.Mathlib.Omega.{arith}
use mathlib.Core.Path.{◌≡◌, sym, ◌∙◌}
use lib.ListN.{length}
use Rattle.lattice.proofs.WalkLaws.{or_left, or_right}
use Rattle.back_steps.proofs.BackStepLaws.{back-step-is, passed_start, passed-next, passed-end}
use Rattle.back_steps.proofs.some_back_step.Goals as goal

pub loop-letter-init : goal.loop-letter-init
loop-letter-init c e = passed_start _ _

pub loop-letter-preserved : goal.loop-letter-preserved
loop-letter-preserved c e =
    passed-next (c.loop-letter.invariant (or_left c.loop-letter.found _ e)) c.loop-letter-test.true
    (sym (back-step-is c.pair_at-f.ensures _) ∙ or_right c.loop-letter.found _ e)

pub returns : goal.returns
returns c e =
    let all : length c.args.piece.now ≡ c.loop-letter.letter-index = omega arith in
    all ∙ passed-end (c.loop-letter.invariant e) c.loop-letter-test.false
