-- Each step over a whole record adds its line to the listing. The end or a fault finishes it.
use native.Mathlib.Omega.{arith}
use mathlib.Core.Path.{◌≡◌, sym, ap, subst, ◌∙◌}
use Rattle.std.specs.Prelude.{Option, Result, Ok}
use Rattle.fitting_records.specs.declared.Record.{Record}
use Rattle.fitting_records.specs.declared.Fault.{Fault}
use Rattle.fitting_records.specs.declared.Step.{Step}
use Rattle.fitting_records.proofs.RecordLaws.{passed}
use Rattle.fitting_listing.proofs.ListingLaws.{going-begins, going_end, going-fault, going-record, letters-between}
use Rattle.fitting_listing.proofs.list_records.Goals as goal

ok_is : {x : Result (Option Record) Fault} {a b : Option Record} → x ≡ Ok a → a ≡ b → x ≡ Ok b
ok_is {x} e d = subst (λ (r : Option Record). x ≡ Ok r) d e

found_of : {s t : Step} → s ≡ t → t.found ≡ s.found
found_of e = ap (λ (s : Step). s.found) (sym e)

pub loop-record-init : goal.loop-record-init
loop-record-init c = going-begins _ _

pub overflow_add-letters : goal.overflow_add-letters
overflow_add-letters c = omega (arith, c.requires, c.loop-record.invariant.within)

pub shape_of-text-in-Ok-None : goal.shape_of-text-in-Ok-None
shape_of-text-in-Ok-None c = c.loop-record.invariant.same

pub returns-in-Ok-None : goal.returns-in-Ok-None
returns-in-Ok-None c = going_end c.loop-record.invariant c.requires (found_of c.next_at-step.ensures ∙ ok_is c.in-Ok-None.is (rw c.in-Ok-None.is at c.in-Ok-None.field-0-is))

pub shape_of-text-in-Err : goal.shape_of-text-in-Err
shape_of-text-in-Err c = c.put_line.auto.text ∙ c.loop-record.invariant.same

pub returns-in-Err : goal.returns-in-Err
returns-in-Err c =
    let found = found_of c.next_at-step.ensures ∙ c.in-Err.is in
    let wrote = rw (c.fault.ensures, c.fault_number.ensures) at c.put_line.ensures in
    going-fault c.loop-record.invariant c.requires _ found wrote

pub slice_bounds-tested-count : goal.slice_bounds-tested-count
slice_bounds-tested-count c =
    let over = passed {file = c.args.file.now} {at = c.loop-record.at} c.next_at-step.ensures (ok_is c.in-Ok-Some.is (rw c.in-Ok-Some.is at c.in-Ok-Some.field-0-is)) in
    omega (arith, over.behind)

pub slice_bounds-tested-start : goal.slice_bounds-tested-start
slice_bounds-tested-start c =
    let over = passed {file = c.args.file.now} {at = c.loop-record.at} c.next_at-step.ensures (ok_is c.in-Ok-Some.is (rw c.in-Ok-Some.is at c.in-Ok-Some.field-0-is)) in
    omega (arith, over.behind, over.within)

pub slice_bounds-tested-end : goal.slice_bounds-tested-end
slice_bounds-tested-end c =
    let over = passed {file = c.args.file.now} {at = c.loop-record.at} c.next_at-step.ensures (ok_is c.in-Ok-Some.is (rw c.in-Ok-Some.is at c.in-Ok-Some.field-0-is)) in
    omega (arith, over.within)

pub overflow_add-number : goal.overflow_add-number
overflow_add-number c = omega (arith, c.loop-record.invariant.records, c.loop-record.invariant.within, c.requires)

pub loop-record-smaller : goal.loop-record-smaller
loop-record-smaller c =
    let over = passed {file = c.args.file.now} {at = c.loop-record.at} c.next_at-step.ensures (ok_is c.in-Ok-Some.is (rw c.in-Ok-Some.is at c.in-Ok-Some.field-0-is)) in
    omega (arith, over.behind, over.within)

pub loop-record-preserved : goal.loop-record-preserved
loop-record-preserved c =
    let over = passed {file = c.args.file.now} {at = c.loop-record.at} c.next_at-step.ensures (ok_is c.in-Ok-Some.is (rw c.in-Ok-Some.is at c.in-Ok-Some.field-0-is)) in
    going-record c.loop-record.invariant c.requires over
    (c.tested-line.ensures.line ∙ letters-between c.loop-record.number over)
    c.tested-line.ensures.small
    c.put_line-end.ensures
