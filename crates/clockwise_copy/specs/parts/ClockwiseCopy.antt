-- The letters of the border as they are copied, and the places of letters as sent (contract 2.2, 3.2).
use Rattle.std.specs.Prelude.{ℕ, ◌-◌, ◌*◌, ◌≤◌, ◌<◌, ◌≡◌, Bool, cond, List, length, take, eqb}
use Rattle.chart.specs.Limits.{longest}
use Rattle.lattice.specs.Chart.{rotation}
use Rattle.convexity.specs.Clockwise.{backward, sent_from}

-- The letters read cyclically from a place on; or the same walk backward, from that place's corner round to it
unfoldable pub read_round : Bool → ℕ → List ℕ → List ℕ
read_round forward from w = cond forward (rotation from w) (backward (rotation from w))

-- The buffer begins with the letters of w, so read
abbrev pub Turned : Bool → List ℕ → ℕ → List ℕ → List ℕ → Type 0
Turned forward w from before after = from ≤ length w → length w ≤ length before → take (length w) after ≡ read_round forward from w

-- Where the letter that leaves a corner stands in the clockwise form of n letters, if the one that leaves it as sent stands at w
unfoldable pub read_place : Bool → ℕ → ℕ → ℕ
read_place forward n w = cond forward w (cond (eqb w 0) 0 (n - w))

-- r is letter i of the border as a place of the list as sent, for numbers that an outline can have; for others it is only below the bound
pub record SentTo (forward : Bool) (n w i r : ℕ) : Type 0 where
  pub within : r < longest
  pub place : 0 < n → n ≤ longest → w < n → i ≤ 4 * longest → r ≡ sent_from forward n w i
