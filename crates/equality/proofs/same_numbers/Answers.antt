-- Lists of one length are equal if all their pairs are. Both tests pass exactly if the lists are equal.
use Rattle.std.proofs.Common.{rules, tests, ap, length}
use Rattle.std.proofs.lemmas.Bool.{eqb-true, eq-eqb}
use Rattle.std.proofs.lemmas.Iterator.{YieldsList-from_slice, YieldsList-from_zip, same_from_all}
use Rattle.base.proofs.Same.{same-ℤs-iff}
use Rattle.base.proofs.BelowLaws.{same_test}
use Rattle.equality.proofs.same_numbers.Goals as goal

pub returns-then-a-b : goal.returns-then-a-b
returns-then-a-b c =
    same_test _ _
    (same_from_all c.all.new.self _ _ _ _ c.all.ensures.ran
    (YieldsList-from_zip (YieldsList-from_slice c.args.a.now cc) (YieldsList-from_slice c.args.b.now cc)) (search rules)
    (λ x q k. search (rules, tests)) (λ x q k. search (rules, tests)))
    (same-ℤs-iff _ _)

pub returns-else-a-b : goal.returns-else-a-b
returns-else-a-b c =
    same_test _ _ (λ e. absurd (c.if-a-b.false (eqb-true _ _ e)), λ h. eq-eqb _ _ (ap length h)) (same-ℤs-iff _ _)
