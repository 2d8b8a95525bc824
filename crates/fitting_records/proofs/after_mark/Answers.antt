-- With fewer than four bytes the record is truncated. Otherwise the count of letters is compared with the bytes behind it.
use native.Mathlib.Omega.{arith}
use mathlib.Core.Path.{◌≡◌, sym}
use lib.ListN.{length-drop}
use Rattle.fitting_records.proofs.FoundLaws.{count_in, after-short, after-whole, after-cut}
use Rattle.fitting_records.proofs.after_mark.Goals as goal

pub returns-in_default : goal.returns-in_default
returns-in_default c = sym (after-short c.args.bytes.now (omega arith))

pub returns-then-letters-count : goal.returns-then-letters-count
returns-then-letters-count c =
    let count : c.from-count.result ≡ count_in c.args.bytes.now = omega (arith, c.from-count.ensures, c.from_le_bytes.ensures) in
    sym (after-cut c.args.bytes.now c.from-count.result count (omega (arith, length-drop 4 c.args.bytes.now, c.if-letters-count.true)))

pub returns-else-letters-count : goal.returns-else-letters-count
returns-else-letters-count c =
    let count : c.from-count.result ≡ count_in c.args.bytes.now = omega (arith, c.from-count.ensures, c.from_le_bytes.ensures) in
    sym (after-whole c.args.bytes.now c.from-count.result count (omega (arith, length-drop 4 c.args.bytes.now, c.if-letters-count.false)))
