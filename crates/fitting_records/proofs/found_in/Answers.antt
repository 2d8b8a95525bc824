-- No bytes, a single byte, a whole mark, or another first or second byte.
use native.Mathlib.Omega.{arith}
use mathlib.Core.Path.{sym, ap, ◌∙◌}
use Rattle.fitting_records.specs.Found.{after_mark}
use Rattle.fitting_records.proofs.FoundLaws.{found-none, found-lone, from-third, found-marked, found-first, found-second}
use Rattle.fitting_records.proofs.found_in.Goals as goal

pub returns-in-empty : goal.returns-in-empty
returns-in-empty c = sym (found-none c.args.bytes.now (omega arith))

pub returns-in-75 : goal.returns-in-75
returns-in-75 c =
    c.after_mark.ensures ∙ ap after_mark (from-third c.args.bytes.now)
    ∙ sym (found-marked c.args.bytes.now (omega arith) (omega arith) (omega arith))

pub returns-in_default : goal.returns-in_default
returns-in_default c = sym (found-lone c.args.bytes.now (omega arith) (omega arith))

pub returns-in_default-2 : goal.returns-in_default-2
returns-in_default-2 c = sym (found-second c.args.bytes.now (omega arith) (omega arith) (λ e. omega (arith, e)))

pub returns-in_default-3 : goal.returns-in_default-3
returns-in_default-3 c = sym (found-first c.args.bytes.now (omega arith) (λ e. omega (arith, e)))
