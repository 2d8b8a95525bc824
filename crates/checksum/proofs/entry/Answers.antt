-- `checksum::entry` meets its contract: each arm is an entry of the table.
use native.Mathlib.Omega.{arith}
use mathlib.Core.Path.{◌≡◌}
use lib.Dec.{lit<}
use Rattle.checksum.proofs.Nibbles.{at_entry}
use Rattle.checksum.proofs.entry.Goals as goal

pub returns-in-0 : goal.returns-in-0
returns-in-0 c = at_entry 0 _ (lit< tt) c.in-0.is

pub returns-in-1 : goal.returns-in-1
returns-in-1 c = at_entry 1 _ (lit< tt) c.in-1.is

pub returns-in-2 : goal.returns-in-2
returns-in-2 c = at_entry 2 _ (lit< tt) c.in-2.is

pub returns-in-3 : goal.returns-in-3
returns-in-3 c = at_entry 3 _ (lit< tt) c.in-3.is

pub returns-in-4 : goal.returns-in-4
returns-in-4 c = at_entry 4 _ (lit< tt) c.in-4.is

pub returns-in-5 : goal.returns-in-5
returns-in-5 c = at_entry 5 _ (lit< tt) c.in-5.is

pub returns-in-6 : goal.returns-in-6
returns-in-6 c = at_entry 6 _ (lit< tt) c.in-6.is

pub returns-in-7 : goal.returns-in-7
returns-in-7 c = at_entry 7 _ (lit< tt) c.in-7.is

pub returns-in-8 : goal.returns-in-8
returns-in-8 c = at_entry 8 _ (lit< tt) c.in-8.is

pub returns-in-9 : goal.returns-in-9
returns-in-9 c = at_entry 9 _ (lit< tt) c.in-9.is

pub returns-in-10 : goal.returns-in-10
returns-in-10 c = at_entry 10 _ (lit< tt) c.in-10.is

pub returns-in-11 : goal.returns-in-11
returns-in-11 c = at_entry 11 _ (lit< tt) c.in-11.is

pub returns-in-12 : goal.returns-in-12
returns-in-12 c = at_entry 12 _ (lit< tt) c.in-12.is

pub returns-in-13 : goal.returns-in-13
returns-in-13 c = at_entry 13 _ (lit< tt) c.in-13.is

pub returns-in-14 : goal.returns-in-14
returns-in-14 c = at_entry 14 _ (lit< tt) c.in-14.is

pub returns-in_default : goal.returns-in_default
returns-in_default c =
    let e : c.args.low ≡ 15 = omega arith in
    at_entry 15 c.args.low (lit< tt) e
