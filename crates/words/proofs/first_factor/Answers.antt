-- The invariant is the form of the letters read, with its two counts; each exit of the loop determines the first factor.
use native.Mathlib.Omega.{arith}
use Rattle.words.proofs.FirstFactor.{search-none, search-start, search-fits, search-end, pair_same, pair-larger, pair-others}
use Rattle.words.proofs.FirstFactor.{pair-smaller}
use Rattle.words.proofs.first_factor.Goals.{then-a-letter, else-a-letter+then-letter-later, else-a-letter+else-letter-later+else-a-later}
use Rattle.words.proofs.first_factor.Goals.{else-loop-j-test, then-loop-j-test+else-a-letter+else-letter-later+then-a-later}
use Rattle.words.proofs.first_factor.Goals as goal

pub returns-then-w-from : goal.returns-then-w-from
returns-then-w-from c = search-none _ _ _ c.if-w-from.true

pub loop-j-init : goal.loop-j-init
loop-j-init c = rw c.from-read.ensures (search-start _ _ _ c.if-w-from.false)

pub overflow_add-laters : goal.overflow_add-laters
overflow_add-laters c =
    omega (arith, search-fits c.loop-j.invariant c.loop-j-test.true c.from-b.ensures)

pub overflow_add-read : goal.overflow_add-read
overflow_add-read c =
    omega (arith, search-fits c.loop-j.invariant c.loop-j-test.true c.from-b.ensures)

pub loop-j-preserved : goal.loop-j-preserved
loop-j-preserved c =
    let s = c.loop-j.invariant in
    let h = c.loop-j-test.true in
    let b = c.from-b.ensures in
    elim c.if-a-letter.branch [
      | then-a-letter w ↦ rw (w.i-is, w.laters-is, b) (pair_same s h w.if-a-letter.true)
      | else-a-letter+then-letter-later w ↦ rw (w.i-is, w.laters-is, b) (pair-larger s h w.if-a-letter.false w.if-letter-later.true)
      | else-a-letter+else-letter-later+else-a-later w ↦
          rw (w.i-is, w.laters-is, b) (pair-others s h w.if-letter-later.false w.if-a-later.false)
    ]

pub returns : goal.returns
returns c =
    let s = c.loop-j.invariant in
    elim c.loop-j-test.branch [
      | else-loop-j-test w ↦ search-end s w.loop-j-test.false
      | then-loop-j-test+else-a-letter+else-letter-later+then-a-later w ↦
          pair-smaller s w.loop-j-test.true w.if-letter-later.false w.if-a-later.true
    ]
