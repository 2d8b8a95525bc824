-- Each arm is the call of its number, and after 0 to 8 only larger numbers are left.
use Prim.Native.Nat.{◌≤◌}
use native.Mathlib.Omega.{arith}
use Rattle.wire.specs.Wire.{call_of}
use Rattle.wire.proofs.CallLaws.{call_of-none}
use Rattle.wire.proofs.call_of.Goals as goal

pub returns-in-0 : goal.returns-in-0
unfolding call_of
returns-in-0 c = rw (c.call_by.ensures, c.point.ensures, c.in-0.is)

pub returns-in-1 : goal.returns-in-1
unfolding call_of
returns-in-1 c = rw (c.call_by-in-1.ensures, c.letter.ensures, c.in-1.is)

pub returns-in-2 : goal.returns-in-2
unfolding call_of
returns-in-2 c = rw (c.call_by-in-2.ensures, c.in-2.is)

pub returns-in-3 : goal.returns-in-3
unfolding call_of
returns-in-3 c = rw (c.call_by-in-3.ensures, c.in-3.is)

pub returns-in-4 : goal.returns-in-4
unfolding call_of
returns-in-4 c = rw (c.call_by-in-4.ensures, c.in-4.is)

pub returns-in-5 : goal.returns-in-5
unfolding call_of
returns-in-5 c = rw (c.ask.ensures, c.point-in-5.ensures, c.in-5.is)

pub returns-in-6 : goal.returns-in-6
unfolding call_of
returns-in-6 c = rw (c.ask-in-6.ensures, c.short.ensures, c.in-6.is)

pub returns-in-7 : goal.returns-in-7
unfolding call_of
returns-in-7 c = rw (c.ask-in-7.ensures, c.from_bits.ensures, c.in-7.is)

pub returns-in-8 : goal.returns-in-8
unfolding call_of
returns-in-8 c = rw (c.ask-in-8.ensures, c.short-in-8.ensures, c.in-8.is)

pub returns-in_default : goal.returns-in_default
returns-in_default c =
    let above : 9 ≤ c.args.number = omega arith in
    call_of-none _ _ _ _ _ (λ e. omega arith) (λ e. omega arith) (λ e. omega arith) (λ e. omega arith) (λ e. omega arith)
    (λ e. omega arith) (λ e. omega arith) (λ e. omega arith) (λ e. omega arith)
