-- The tests are those of the definition, in its order.
use native.Mathlib.Omega.{arith}
use Rattle.pile_calls.proofs.StepCases.{step-dent, step-more, step-last}
use mathlib.Core.Path.{sym, ◌∙◌}
use borrow.Author.Rules.{rules}
use Rattle.pile_calls.proofs.check_step.Goals as goal

pub clear_at-requires : goal.clear_at-requires
clear_at-requires c =
    (search rules, λ h. c.requires (omega (arith, c.tested_at-k.ensures.0)))

pub pass_last-requires : goal.pass_last-requires
pass_last-requires c =
    (omega arith, sym c.clear_at.ensures ∙ c.if-not-clear_at.false)

pub returns-then-not-clear_at : goal.returns-then-not-clear_at
returns-then-not-clear_at c =
    step-dent _ _ c.tested_at-k.ensures.0 _ c.clear_at.ensures (rw c.if-not-clear_at.true) _ c.dent_at.ensures _
    (c.end.ensures _)

pub returns-then-k : goal.returns-then-k
returns-then-k c =
    step-more _ _ c.tested_at-k.ensures.0 _ c.clear_at.ensures (rw c.if-not-clear_at.false)
    (omega (arith, c.if-k.true)) _ c.go_on.ensures

pub returns : goal.returns
returns c =
    step-last _ _ c.tested_at-k.ensures.0 _ c.clear_at.ensures (rw c.if-not-clear_at.false)
    (omega (arith, c.if-k.false)) _ c.pass_last.ensures
