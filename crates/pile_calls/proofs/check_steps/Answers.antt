-- What is left to do has the outcome of the whole, and the rows with cells serve as long as columns are left.
use Prim.Native.Nat.{ℕ, ◌+◌, ◌-◌}
use native.Mathlib.Omega.{arith}
use mathlib.Core.Path.{◌≡◌, ap, ◌∙◌}
use Rattle.pile_calls.specs.Arrays.{arrays}
use Rattle.pile_calls.specs.Steps.{steps_of}
use Rattle.pile_calls.proofs.StepCases.{runs_none, runs-replied, runs-more, column-still}
use Rattle.pile_calls.proofs.check_steps.Goals as goal

pub loop-made-init : goal.loop-made-init
loop-made-init c =
    let all : c.args.count - 0 ≡ c.args.count = omega arith in
    (ap (λ (n : ℕ). steps_of n (arrays c.args.rows.now c.args.state.now)) all, λ h. c.reach_from-reach.ensures (omega arith))

pub check_step-requires : goal.check_step-requires
check_step-requires c = c.loop-made.invariant.1

pub returns-in-Some : goal.returns-in-Some
returns-in-Some c =
    runs-replied _ _ _ c.check_step.ensures (c.args.count - c.loop-made._made) (omega arith) _ c.in-Some.is
    ∙ c.loop-made.invariant.0

pub loop-made-preserved : goal.loop-made-preserved
loop-made-preserved c =
    let left = c.args.count - c.loop-made._made in
    let fewer : c.args.count - (c.loop-made._made + 1) ≡ left - 1 = omega arith in (
      rw fewer (runs-more _ _ _ c.check_step.ensures left (omega arith) c.in_default.is ∙ c.loop-made.invariant.0),
      λ h. c.loop-made.invariant.1 (column-still _ _ _ c.check_step.ensures c.in_default.is h),
    )

pub returns : goal.returns
returns c = runs_none _ _ (omega arith) ∙ c.loop-made.invariant.0
