-- After the layers before i the fold has made i steps.
use Prim.Native.Nat.{◌+◌}
use native.Mathlib.Omega.{arith}
use mathlib.Core.Path.{◌≡◌}
use Rattle.sections.specs.Sections.{numbers, joined_from, reached}
use Rattle.sections.proofs.Folds.{fold_next, fold-none}
use Rattle.sections.proofs.Section.reached.Goals as goal

pub loop-i-init : goal.loop-i-init
loop-i-init c = (fold-none _ _ 0 (omega arith), c.alone-reach.ensures.1)

pub loop-i-preserved : goal.loop-i-preserved
loop-i-preserved c = (
  fold_next c.alone-reach.result (λ n. joined_from (numbers c.args.self.now.lo) (numbers c.args.self.now.past) n c.args.j) c.loop-i.i
      (c.loop-i.i + 1) (omega arith) c.loop-i.invariant.0 c.joined_from-reach.ensures.0,
  c.joined_from-reach.ensures.1,
)

pub returns : goal.returns
unfolding reached
returns c =
    let end : c.loop-i.i ≡ c.args.j = omega arith in
    rw c.alone-reach.ensures.0 at (rw end at c.loop-i.invariant.0)
