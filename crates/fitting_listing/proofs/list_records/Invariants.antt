-- What is written so far and the remaining lines together are the whole listing.
use Prim.Native.Nat.{◌-◌}
use lib.ListN.{length}
use Rattle.fitting_listing.proofs.ListingLaws.{Going}
use Rattle.fitting_listing.proofs.list_records.Given as goal

abbrev pub invariant-loop-record : goal.invariant-loop-record
invariant-loop-record l = Going l.file l.initial.text l.text l.at l.number l.end

abbrev pub decreases-loop-record : goal.decreases-loop-record
decreases-loop-record l = length l.file - l.at
