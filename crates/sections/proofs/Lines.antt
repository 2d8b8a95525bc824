-- A section whose layers each have one interval of marked rows or none, and the lines through the intervals' ends.
use Prim.Native.Nat.{ℕ, ◌+◌, ◌-◌, ◌*◌, ◌≤◌, ◌<◌}
use mathlib.Core.Path.{◌≡◌}
use mathlib.Core.Bool.{Bool, true}

-- The marked rows of layer l are lo l to hi l if the layer is full, and none if it is not
pub record Runs (marked : ℕ → ℕ → Bool) (full : ℕ → Bool) (lo hi : ℕ → ℕ) : Type 0 where
  pub ordered : (l : ℕ) → full l ≡ true → lo l ≤ hi l
  pub is-full : (l r : ℕ) → marked l r ≡ true → full l ≡ true
  pub from-lo : (l r : ℕ) → marked l r ≡ true → lo l ≤ r
  pub to-hi : (l r : ℕ) → marked l r ≡ true → r ≤ hi l
  pub in-run : (l r : ℕ) → full l ≡ true → lo l ≤ r → r ≤ hi l → marked l r ≡ true

-- A line through the ends of two full layers i <= j <= k compares with row r of layer j by R, which is "at most" for the low ends and "at
-- least" for the high ends. If i = k = j, the line is the end of layer j itself.
pub data Line (R : ℕ → ℕ → Type 0) (full : ℕ → Bool) (end : ℕ → ℕ) (j r : ℕ) : Type 0 where
  own : full j ≡ true → R (end j) r → Line R full end j r
  line :
      (i k : ℕ) →
      full i ≡ true →
      full k ≡ true →
      i ≤ j →
      j ≤ k →
      i < k →
      R ((k - j) * end i + (j - i) * end k) ((k - i) * r) →
      Line R full end j r

-- Some lower line is at or below row r
abbrev pub Lower : (ℕ → Bool) → (ℕ → ℕ) → ℕ → ℕ → Type 0
Lower full lo j r = Line (λ e s. e ≤ s) full lo j r

-- Some upper line is at or above row r
abbrev pub Upper : (ℕ → Bool) → (ℕ → ℕ) → ℕ → ℕ → Type 0
Upper full hi j r = Line (λ e s. s ≤ e) full hi j r
