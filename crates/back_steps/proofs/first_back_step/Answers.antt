-- No letter passed is a back-step, and the search stops at the first that is.
use native.Mathlib.Omega.{arith}
use mathlib.Core.Path.{◌≡◌, sym, ap, ◌∙◌}
use mathlib.Core.List.{List}
use lib.ListN.{get_or}
use Prim.Native.Nat.{ℕ, ◌+◌, ◌-◌, ◌<◌}
use Rattle.convexity.specs.Frame.{frame_of}
use Rattle.convexity.specs.Pieces.{rounds, is_back_step}
use Rattle.back_steps.specs.parts.BackSteps.{part, Within}
use Rattle.back_steps.proofs.BackStepLaws.{back-step-other, no-back-step-earlier, no-back-step-later, passed_start}
use Rattle.back_steps.proofs.BackStepLaws.{passed-next, passed-stop, passed-end, part_length, part-letter}
use Rattle.back_steps.proofs.first_back_step.Goals.{else-letter-f-via-then-letter-f+else-letter-f-2, else-letter-f-via-else-letter-f}
use Rattle.back_steps.proofs.first_back_step.Goals as goal

-- The letter read is a letter of the piece
piece-letter : {from to : ℕ} {letters : List ℕ} {i letter : ℕ} (k : ℕ) → Within from to letters → i < to - from
    → letter ≡ get_or (rounds letters) (from + i) 0
    → is_back_step (frame_of k) (get_or (part from to (rounds letters)) i 0) ≡ is_back_step (frame_of k) letter
piece-letter {i = i} k h l e = ap (is_back_step (frame_of k)) (part-letter h i l ∙ sym e)

pub loop-i-init : goal.loop-i-init
loop-i-init c = passed_start _ _

pub overflow_sub-i-end : goal.overflow_sub-i-end
overflow_sub-i-end c = let h = c.requires in omega (arith, h.rises)

pub overflow_add-from : goal.overflow_add-from
overflow_add-from c = let h = c.requires in omega (arith, h.short, h.round, h.rises, c.loop-i-test.true)

pub letter_round-letter-requires : goal.letter_round-letter-requires
letter_round-letter-requires c = let h = c.requires in (h.short, omega (arith, h.round, h.rises, c.loop-i-test.true))

pub returns-then-letter-f-2 : goal.returns-then-letter-f-2
returns-then-letter-f-2 c =
    passed-stop c.loop-i.invariant (rw (part_length c.requires) c.loop-i-test.true)
    (piece-letter c.args.k c.requires c.loop-i-test.true c.letter_round-letter.ensures
    ∙ back-step-other c.pair_at-f.ensures _ c.if-letter-f.true c.if-letter-f-2.true)

pub loop-i-preserved : goal.loop-i-preserved
loop-i-preserved c =
    passed-next c.loop-i.invariant (rw (part_length c.requires) c.loop-i-test.true)
    (piece-letter c.args.k c.requires c.loop-i-test.true c.letter_round-letter.ensures
    ∙ elim c.else-letter-f.branch [
      | else-letter-f-via-then-letter-f+else-letter-f-2 w ↦ no-back-step-later c.pair_at-f.ensures _ w.if-letter-f.true w.if-letter-f-2.false
      | else-letter-f-via-else-letter-f w ↦ no-back-step-earlier c.pair_at-f.ensures _ w.if-letter-f.false
    ])

pub returns : goal.returns
returns c =
    let all : c.args.to - c.args.from ≡ c.loop-i.i = omega arith in
    all ∙ passed-end c.loop-i.invariant (rw (part_length c.requires) c.loop-i-test.false)
