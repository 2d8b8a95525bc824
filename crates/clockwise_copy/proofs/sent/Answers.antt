-- The place is a remainder by the count, and backward as far from the other end; for other numbers it is 0, which is below the bound.
use Prim.Native.Nat.{◌+◌}
use native.Mathlib.Nat.{mod-lt}
use native.Mathlib.Omega.{arith}
use Rattle.convexity.specs.Cut.{around}
use Rattle.convexity.specs.Clockwise.{read_from, sent_from}
use Rattle.clockwise_copy.proofs.sent.Goals.{then-n-gt-LONGEST-via-then-n-gt-LONGEST, then-n-gt-LONGEST-via-else-n-gt-LONGEST+then-n-w, then-n-gt-LONGEST-via-else-n-gt-LONGEST+else-n-w+then-i-gt-ROUNDS}
use Rattle.clockwise_copy.proofs.sent.Goals as goal

pub returns-then-n-gt-LONGEST : goal.returns-then-n-gt-LONGEST
returns-then-n-gt-LONGEST c =
    record {
      within = omega arith;
      place = λ p q l m. elim c.then-n-gt-LONGEST.branch [
        | then-n-gt-LONGEST-via-then-n-gt-LONGEST w ↦ absurd (omega arith)
        | then-n-gt-LONGEST-via-else-n-gt-LONGEST+then-n-w w ↦ absurd (omega arith)
        | then-n-gt-LONGEST-via-else-n-gt-LONGEST+else-n-w+then-i-gt-ROUNDS w ↦ absurd (omega arith)
      ];
    }

pub overflow_add-at : goal.overflow_add-at
overflow_add-at c =
    let a = c.args in
    omega (arith, c.if-n-w.false, c.if-i-gt-ROUNDS.false)

pub nonzero_rem-at : goal.nonzero_rem-at
nonzero_rem-at c =
    let a = c.args in
    omega (arith, c.if-n-w.false)

pub overflow_sub-result : goal.overflow_sub-result
overflow_sub-result c =
    let a = c.args in
    omega (arith, c.if-n-w.false)

pub overflow_sub-result-else-forward : goal.overflow_sub-result-else-forward
overflow_sub-result-else-forward c =
    let a = c.args in
    omega (arith, mod-lt (a.w + a.i) {m = a.n} (omega arith))

pub returns-then-forward : goal.returns-then-forward
unfolding around read_from sent_from
returns-then-forward c =
    let a = c.args in
    record { within = omega (arith, mod-lt (a.w + a.i) {m = a.n} (omega arith)); place = λ p q m h. rw c.if-forward.true }

pub returns-else-forward : goal.returns-else-forward
unfolding around read_from sent_from
returns-else-forward c =
    let a = c.args in
    record { within = omega (arith, mod-lt (a.w + a.i) {m = a.n} (omega arith)); place = λ p q m h. rw c.if-forward.false }
