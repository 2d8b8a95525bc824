-- The place of the work that an action is given is always below four.
use Prim.Native.Nat.{ℕ, ◌<◌}
use mathlib.Core.Path.{◌≡◌, refl}
use mathlib.Core.Bool.{Bool, true, false, cond}
use lib.Dec.{lit<}
use borrow.Author.Tests.{leb-false}
use Rattle.calls.specs.Calls.{places, bad_place}
use Rattle.calls.specs.declared.Action.{Action}
use Rattle.calls.specs.declared.Action.TheVariants.{Begin, Add, Drop, Clear, Close, Ask}
use Rattle.holder_records.specs.Acts.{kept_place, reached_by}

kept-below : (k : ℕ) → kept_place k < places
unfolding kept_place
kept-below k = go (bad_place k) refl
  where
    go : (t : Bool) → bad_place k ≡ t → cond t 0 k < places
    go true e = lit< tt
    go false e = leb-false places k e

pub reached-below : (a : Action) → reached_by a < places
unfolding reached_by
reached-below (Begin s) = lit< tt
reached-below (Add a) = lit< tt
reached-below Drop = lit< tt
reached-below (Clear k) = kept-below k
reached-below (Close k) = kept-below k
reached-below (Ask k q) = kept-below k
