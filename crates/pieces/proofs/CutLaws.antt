-- The cut places rise, each by at most once round; so the pieces lie one after the other in the letters read four times round.
use Prim.Native.Nat.{ℕ, zero, suc, ◌+◌, ◌-◌, ◌*◌, ◌≤◌}
use native.Mathlib.Nat.{suc-mul}
use native.Mathlib.Decide.{dec_le}
use native.Mathlib.Omega.{arith}
use mathlib.Core.Path.{◌≡◌}
use mathlib.Core.Bool.{Bool, true, false, cond}
use lib.Dec.{ltb}
use Rattle.chart.specs.Outline.{Outline}
use Rattle.lattice.specs.Chart.{corner_at, size}
use Rattle.convexity.specs.Frame.{frame_of}
use Rattle.convexity.specs.Cut.{before, least, corner_place, cut_corner, cut}
use Rattle.convexity.proofs.Extreme.{least_lt}
use Rattle.cut_places.proofs.CutLaws.{ahead-le}

least-le : (lt : ℕ → ℕ → Bool) (n : ℕ) → least lt n ≤ n - 1
unfolding least
least-le lt zero = omega arith
least-le lt (suc n) = omega (arith, least_lt lt (suc n) (omega arith))

module _ (o : Outline) where
  pub corner_place-le : (k : ℕ) → corner_place o k ≤ size o - 1
  unfolding corner_place
  corner_place-le k = least-le (λ i j. before (frame_of k) (corner_at o i) (corner_at o j)) (size o)

  pub cut_corner-le : (k : ℕ) → cut_corner o k ≤ size o - 1
  unfolding cut_corner
  cut_corner-le zero = omega arith
  cut_corner-le (suc k) = go (ltb k 3)
    where
      go : (b : Bool) → cond b (corner_place o (suc k)) 0 ≤ size o - 1
      go true = corner_place-le (suc k)
      go false = omega arith

  pub cut-le-suc : (k : ℕ) → cut o k ≤ cut o (suc k)
  unfolding cut
  cut-le-suc k = omega arith

  pub cut-suc-le : (k : ℕ) → cut o (suc k) ≤ cut o k + size o
  unfolding cut
  cut-suc-le k =
      omega (
        arith,
        ahead-le (size o) (cut_corner o k) (cut_corner o (suc k)) (omega (arith, cut_corner-le k)) (omega (arith, cut_corner-le (suc k))),
      )

  pub cut-le-cut : (i j : ℕ) → i ≤ j → cut o i ≤ cut o j
  cut-le-cut i zero h = let e : i ≡ 0 = omega arith in rw e (omega arith)
  cut-le-cut i (suc j) h =
      elim (dec_le i j) [
        | yes l ↦ omega (arith, cut-le-cut i j l, cut-le-suc j)
        | no l ↦ let e : i ≡ suc j = omega arith in rw e (omega arith)
      ]

  pub cut-le : (k : ℕ) → cut o k ≤ k * size o
  unfolding cut
  cut-le zero = omega arith
  cut-le (suc k) = rw suc-mul (omega (arith, cut-le k, cut-suc-le k))
