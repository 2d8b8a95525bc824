-- After the layers up to k the fold has made as many steps.
use Prim.Native.Nat.{suc}
use native.Mathlib.Omega.{arith}
use mathlib.Core.Path.{◌≡◌, sym, ◌∙◌}
use Rattle.sections.specs.Sections.{layers, numbers, joined, joined_from}
use Rattle.sections.proofs.Folds.{fold-from, fold-none}
use Rattle.sections.proofs.Section.joined_from.Goals as goal

pub loop-k-init : goal.loop-k-init
loop-k-init c = (fold-none _ _ _ (omega arith), c.requires.2)

pub loop-k-preserved : goal.loop-k-preserved
loop-k-preserved c = (
  fold-from c.args.reach (joined (numbers c.args.self.now.lo) (numbers c.args.self.now.past) c.args.i c.args.j) (suc c.args.j) c.loop-k.k
      (omega arith) c.loop-k.invariant.0 c.joined-reach.ensures.0,
  c.joined-reach.ensures.1,
)

pub returns-after-loop-k : goal.returns-after-loop-k
unfolding joined_from
returns-after-loop-k c =
    let end : c.loop-k.k ≡ layers = omega arith in
    (rw (sym c.is_full.ensures ∙ c.if-is_full.true) (rw end at c.loop-k.invariant.0), c.loop-k.invariant.1)

pub returns-else-is_full : goal.returns-else-is_full
unfolding joined_from
returns-else-is_full c = (rw (sym c.is_full.ensures ∙ c.if-is_full.false), c.requires.2)
