-- A section is a plane of layers. The marked cells of layer l are one interval, from lo l up to but not including past l, or none. Whether
-- a cell is missing is computed from the lines through the ends of two intervals (proofs/Decides.antt proves it).
use Rattle.std.specs.Prelude.{ℕ, zero, suc, ◌+◌, ◌-◌, ◌*◌, ◌/◌, ◌≤◌, min, max, Bool, cond, ◌&&◌, ◌||◌, List, get_or, leb, ltb}
use Rattle.base.specs.Below.{every}
use Rattle.chart.specs.Limits.{side}
use Rattle.sections.specs.declared.Reach.{Reach}

-- How many layers a pile has, and the last of them
abbrev pub layers : ℕ
layers = 16

abbrev pub last_layer : ℕ
last_layer = 15

-- The number kept for layer l, and 0 past the last
abbrev pub numbers : List ℕ → ℕ → ℕ
numbers list l = get_or list l 0

-- Both bounds are within the chart
abbrev pub Bounded : Reach → Type 0
Bounded r = (r.low ≤ side) × (r.high ≤ side)

-- Applies f 0, then f 1, up to f (n - 1), starting from a
unfoldable pub fold : {A : Type 0} → (ℕ → A → A) → ℕ → A → A
fold f zero a = a
fold f (suc n) a = f n (fold f n a)

-- a / d rounded up; one more than a / d rounded down
unfoldable pub ceiling : ℕ → ℕ → ℕ
ceiling a d = (a + (d - 1)) / d

unfoldable pub above : ℕ → ℕ → ℕ
above a d = suc (a / d)

-- k - i times the height at which the line through the low ends of layers i and k meets layer j; the same for the high ends
unfoldable pub low_line : (ℕ → ℕ) → ℕ → ℕ → ℕ → ℕ
low_line lo i j k = (k - j) * lo i + (j - i) * lo k

unfoldable pub high_line : (ℕ → ℕ) → ℕ → ℕ → ℕ → ℕ
high_line past i j k = (k - j) * (past i - 1) + (j - i) * (past k - 1)

module _ (lo past : ℕ → ℕ) where
  -- Layer l has a marked cell
  unfoldable pub full : ℕ → Bool
  full l = ltb (lo l) (past l)

  -- The bounds of layer j without any line: its own interval
  unfoldable pub alone : ℕ → Reach
  alone j = cond (full j) (record { low = lo j; high = past j }) (record { low = side; high = 0 })

  -- The same with the lines between layers i and k
  unfoldable pub joined : ℕ → ℕ → ℕ → Reach → Reach
  joined i j k r =
      cond (full k)
      (record { low = min r.low (ceiling (low_line lo i j k) (k - i)); high = max r.high (above (high_line past i j k) (k - i)) })
      r

  -- The same with the lines between layer i and every layer after j
  unfoldable pub joined_from : ℕ → ℕ → Reach → Reach
  joined_from i j r = cond (full i) (fold (λ k. joined i j (suc j + k)) (layers - suc j) r) r

  -- The hull's cells in layer j are those from low up to but not including high
  unfoldable pub reached : ℕ → Reach
  reached j = fold (λ i. joined_from i j) j (alone j)

  -- The hull has no cells there, or all of them are in the layer's interval
  unfoldable pub whole_in : ℕ → Reach → Bool
  whole_in j r = leb r.high r.low || (leb (lo j) r.low && leb r.high (past j))

  unfoldable pub whole : ℕ → Bool
  whole j = whole_in j (reached j)

  -- No cell is missing
  unfoldable pub clear : Bool
  clear = every whole layers
