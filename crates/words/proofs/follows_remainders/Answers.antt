-- The invariant is the remainder after the letters passed; a letter that fails, or an early 0, decides the answer.
use native.Mathlib.Omega.{arith}
use mathlib.Core.Logic.{⊎_elim}
use Rattle.words.proofs.RemainderWalk.{walked_start, walked_next, walked-misfit, walked-zero, walked_end}
use borrow.Author.Rules.{rules}
use Rattle.words.proofs.follows_remainders.Goals as goal

pub loop-i-init : goal.loop-i-init
loop-i-init c = walked_start _ _ _ (search rules)

pub returns-then-i-gt0 : goal.returns-then-i-gt0
returns-then-i-gt0 c =
    walked-zero c.loop-i.invariant c.loop-i-test.true c.if-i-gt0.true c.if-rem-eq0.true

pub returns-then-w-i : goal.returns-then-w-i
returns-then-w-i c =
    walked-misfit c.loop-i.invariant _ c.loop-i-test.true c.next_remainder-next.ensures
    c.if-w-i.true

pub loop-i-preserved : goal.loop-i-preserved
loop-i-preserved c =
    walked_next c.loop-i.invariant (search rules) c.next_remainder-next.ensures
    (λ p z. ⊎_elim (λ w. omega (arith, w.1)) (λ w. w z) c.else-rem-eq0.either)
    c.if-w-i.false

pub returns : goal.returns
returns c = walked_end c.loop-i.invariant (search rules) (search rules)
