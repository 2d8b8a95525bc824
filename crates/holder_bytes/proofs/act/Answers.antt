-- Each arm is the call of its number, and its reply is written. After 0 to 8 only larger numbers are left, which are not a call.
use native.Mathlib.Omega.{arith}
use mathlib.Core.Path.{sym}
use Rattle.wire.proofs.CallLaws.{call_of-none}
use Rattle.holder_bytes.proofs.ByteLaws.{responded-done, responded-none, halves-done}
use Rattle.holder_bytes.proofs.ByteLaws.{is-begin, is-add, is-drop, is-clear, is-close, is-query, is_row, is-reading, is-piece}
use Rattle.holder_bytes.proofs.act.Goals as goal

pub returns-in-0 : goal.returns-in-0
returns-in-0 c = responded-done _ _ _ _ (is-begin _ _ _ _ _ _ c.in-0.is c.point.ensures) _ _ (c.begin.ensures _ _ _)

pub returns-in-1 : goal.returns-in-1
returns-in-1 c = responded-done _ _ _ _ (is-add _ _ _ _ _ _ c.in-1.is c.letter.ensures) _ _ (c.add.ensures _ _)

pub returns-in-2 : goal.returns-in-2
returns-in-2 c = responded-done _ _ _ _ (is-drop _ _ _ _ _ c.in-2.is) _ _ (c.drop.ensures _ _ _)

pub returns-in-3 : goal.returns-in-3
returns-in-3 c = responded-done _ _ _ _ (is-clear _ _ _ _ _ c.in-3.is) _ _ (c.clear.ensures _ _ _)

pub returns-in-4 : goal.returns-in-4
returns-in-4 c =
    responded-done _ _ _ _ (is-close _ _ _ _ _ c.in-4.is) _ _
    (halves-done _ _ _ _ _ _ c.prepare-word.ensures.half _ c.commit.ensures)

pub returns-in-5 : goal.returns-in-5
returns-in-5 c =
    responded-done _ _ _ _ (is-query _ _ _ _ _ _ c.in-5.is c.point-in-5.ensures) _ _ (c.query.ensures _ _)

pub returns-in-6 : goal.returns-in-6
returns-in-6 c = responded-done _ _ _ _ (is_row _ _ _ _ _ _ c.in-6.is c.short.ensures) _ _ (c.row.ensures _ _)

pub returns-in-7 : goal.returns-in-7
returns-in-7 c =
    responded-done _ _ _ _ (is-reading _ _ _ _ _ _ c.in-7.is c.from_bits.ensures) _ _ (c.reading.ensures.call _ _)

pub returns-in-8 : goal.returns-in-8
returns-in-8 c =
    responded-done _ _ _ _ (is-piece _ _ _ _ _ _ c.in-8.is c.short-in-8.ensures) _ _ (c.piece.ensures.call _ _)

pub returns-in_default : goal.returns-in_default
returns-in_default c =
    responded-none _ _
    (sym (call_of-none c.args.number _ _ _ _ (λ e. omega arith) (λ e. omega arith) (λ e. omega arith) (λ e. omega arith)
    (λ e. omega arith) (λ e. omega arith) (λ e. omega arith) (λ e. omega arith) (λ e. omega arith))) _
