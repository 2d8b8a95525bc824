-- The length is checked first. A file that is not too long is read.
use native.Mathlib.Omega.{arith}
use Rattle.fitting_listing.proofs.LinesLaws.{lines_long, lines-read}
use Rattle.fitting_listing.proofs.ListingLaws.{long-listed}
use Rattle.fitting_listing.proofs.list.Goals as goal

pub returns-then-file-gt-MOST : goal.returns-then-file-gt-MOST
returns-then-file-gt-MOST c =
    let wrote = rw c.fault.ensures at c.put_line.ensures in
    rw (lines_long c.args.file.now (omega arith)) (long-listed wrote)

pub returns : goal.returns
returns c = rw (lines-read c.args.file.now (omega arith)) c.list_records.ensures
