-- Each cut place is the one before it and how far the next corner is ahead; so they rise, each by at most once round.
use Prim.Native.Nat.{ℕ, zero, suc, ◌+◌, ◌-◌, ◌≤◌, ◌<◌}
use native.Mathlib.Decide.{dec_le}
use native.Mathlib.Omega.{arith}
use mathlib.Core.Path.{◌≡◌, refl}
use lib.ListN.{get_or}
use Rattle.chart.specs.Outline.{Outline}
use Rattle.lattice.specs.Chart.{size}
use Rattle.convexity.specs.Cut.{ahead, corner_place, cut_corner, cut}
use Rattle.convexity.proofs.Cuts.{ahead-on, ahead-round as Ahead-past}
use Rattle.cut_places.specs.parts.Cuts.{cuts_along}

-- Past the end of the list, as the code adds it up
pub ahead-round : (n a b : ℕ) → b < a → a ≤ n → ahead n a b ≡ n - a + b
ahead-round n a b h l = omega (arith, Ahead-past n a b h)

pub ahead-le : (n a b : ℕ) → a ≤ n → b ≤ n → ahead n a b ≤ n
ahead-le n a b h l = elim (dec_le a b) [ yes m ↦ omega (arith, ahead-on n a b m) | no m ↦ omega (arith, ahead-round n a b (omega arith) h) ]

-- The four distances that the cut places are sums of
pub steps-le : {n north east south : ℕ} → north ≤ n → east ≤ n → south ≤ n
    → (ahead n 0 north ≤ n) × (ahead n north east ≤ n) × (ahead n east south ≤ n) × (ahead n south 0 ≤ n)
steps-le {n} {north} {east} {south} ln le ls =
    (ahead-le n 0 north (omega arith) ln, ahead-le n north east ln le, ahead-le n east south le ls, ahead-le n south 0 ls (omega arith))

-- They are the cut places of a border v whose N, E and S stand there
pub cuts-along : (v : Outline) → (k : ℕ) → k ≤ 4
    → get_or (cuts_along (size v) (corner_place v 1) (corner_place v 2) (corner_place v 3)) k 0 ≡ cut v k
unfolding cuts_along cut cut_corner
cuts-along v zero l = refl
cuts-along v (suc zero) l = omega arith
cuts-along v (suc (suc zero)) l = omega arith
cuts-along v (suc (suc (suc zero))) l = omega arith
cuts-along v (suc (suc (suc (suc zero)))) l = omega arith
cuts-along v (suc (suc (suc (suc (suc k))))) l = absurd (omega arith)
