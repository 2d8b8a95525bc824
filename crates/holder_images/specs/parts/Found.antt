-- What is found at a place.
use Rattle.std.specs.Prelude.{ℕ, ◌≤◌, ◌<◌, ◌≡◌, true, false, List, take, Result, Ok, Err}
use Rattle.chart.specs.Limits.{side, longest}
use Rattle.chart.specs.Outline.{outline}
use Rattle.chart.specs.declared.Point.{Point}
use Rattle.chart.specs.declared.Refusal.{Refusal}
use Rattle.chart.specs.declared.Refusal.TheVariants.{Damaged}
use Rattle.calls.specs.Calls.{parties, places}
use Rattle.holder_memory.specs.Layout.{Holder}
use Rattle.holder_images.specs.declared.Held.{Held}
use Rattle.holder_images.specs.Whole.{whole_at, border_in}
use Rattle.holder_images.specs.Arrays.{check_of, saved, save_of}

-- A whole place whose border has this start and this count of letters
abbrev pub whole_with : Point → ℕ → Result Held Refusal
whole_with s n = Ok (record { start = s; count = n })

-- A whole place, with the letters of its border first in a list, or not
unfoldable pub Holds : Holder → ℕ → ℕ → List ℕ → Result Held Refusal → Type 0
Holds h p k l (Err why) = (why ≡ Damaged) × (whole_at h p k ≡ false)
Holds h p k l (Ok x) =
    (whole_at h p k ≡ true) × (outline x.start (take x.count l) ≡ border_in h p k) × (x.count ≤ longest) × (x.start.col < side)
    × (x.start.row < side)

-- The same at any place of any party, whose refusal a check and a save reply
unfoldable pub HeldAt : Holder → ℕ → ℕ → List ℕ → Result Held Refusal → Type 0
HeldAt h p k l (Err why) = (Err why ≡ check_of h p k) × ((b : List ℕ) → saved (Err why) b ≡ save_of h p k b)
HeldAt h p k l (Ok x) = (p < parties) × (k < places) × Holds h p k l (Ok x)
