-- A corner cell is not far from the anchor: each edge moves it by at most 2^15 columns and rows, so it fits 32 bits after 65,534 edges
-- and one more step.
use Prim.Native.Nat.{ℕ, ◌+◌, ◌*◌, ◌^◌, ◌≤◌, ◌<◌}
use native.Mathlib.Omega.{arith}
use mathlib.Core.Path.{◌≡◌}
use mathlib.Core.Bool.{true}
use lib.IntN.{ℤ, pos, negsuc, ◌+ℤ◌}
use mir.Syntax.{w16, w32}
use mir.Val.{SFits}
use Rattle.base.proofs.IntegerOrder.{up, down}
use Rattle.base.proofs.Differences.{is-self, is-add}
use Rattle.directions.specs.CornerHull.{chart_number, is_on_chart}
use Rattle.directions.proofs.OnChart.{number, on-parts}
use Rattle.chart.specs.declared.Point.{Point}
use Rattle.edge_walk.specs.declared.Corner.{Corner}
use Rattle.edge_walk.specs.parts.Walk.{started, stepped}

-- ---- one number

-- z lies between -lo and hi
pub record Between (lo hi : ℕ) (z : ℤ) : Type 0 where
  pub above : down z ≤ up z + lo
  pub below : up z ≤ down z + hi

step-between : (d : ℤ) → SFits w16 d → Between 32768 32767 d
step-between (pos n) f = record { above = omega arith; below = omega (arith, f.sfits) }
step-between (negsuc n) f = record { above = omega (arith, f.sfits); below = omega arith }

between_step : {lo hi : ℕ} {z : ℤ} (d : ℤ) → SFits w16 d → Between lo hi z → Between (lo + 32768) (hi + 32767) (z +ℤ d)
between_step {z = z} d f b =
    let s = (is-add (is-self z) (is-self d)).eq in
    let t = step-between d f in
    record { above = omega (arith, b.above, t.above, s); below = omega (arith, b.below, t.below, s) }

between-fits : {lo hi : ℕ} (z : ℤ) → lo ≤ 2 ^ 31 → hi < 2 ^ 31 → Between lo hi z → SFits w32 z
between-fits (pos n) l h b = record { sfits = omega (arith, b.below) }
between-fits (negsuc n) l h b = record { sfits = omega (arith, b.above) }

-- ---- a corner cell

-- The corner cell after at most k edges
pub record After (k : ℕ) (c : Corner) : Type 0 where
  pub col : Between (32768 * k) (65535 + 32767 * k) c.col
  pub row : Between (32768 * k) (65535 + 32767 * k) c.row

pub after-start : (a : Point) → a.col < 65536 → a.row < 65536 → (k : ℕ) → After k (started a)
after-start a c r k =
    record { col = record { above = omega arith; below = omega arith }; row = record { above = omega arith; below = omega arith } }

module _ {k : ℕ} {c : Corner} (a : After k c) {dx dy : ℤ} (fx : SFits w16 dx) (fy : SFits w16 dy) where
  -- After one more edge
  pub after-step : {n : ℕ} → k < n → After n (stepped c dx dy)
  after-step h =
      let x = between_step dx fx a.col in
      let y = between_step dy fy a.row in
      record {
        col = record { above = omega (arith, x.above); below = omega (arith, x.below) };
        row = record { above = omega (arith, y.above); below = omega (arith, y.below) };
      }

  -- It fits
  pub after-fits : k < 65535 → SFits w32 (c.col +ℤ dx) × SFits w32 (c.row +ℤ dy)
  after-fits h = (
    between-fits _ (omega arith) (omega arith) (between_step dx fx a.col),
    between-fits _ (omega arith) (omega arith) (between_step dy fy a.row),
  )

-- A step from a cell of the chart fits
pub on-chart-fits :
    (c : Corner) {dx dy : ℤ} → is_on_chart c.col c.row ≡ true → SFits w16 dx → SFits w16 dy
    → SFits w32 (c.col +ℤ dx) × SFits w32 (c.row +ℤ dy)
on-chart-fits c e fx fy = after-fits {k = 0} (record { col = near (on-parts _ _ e).0; row = near (on-parts _ _ e).1 }) fx fy (omega arith)
  where
    near : {z : ℤ} → chart_number z ≡ true → Between (32768 * 0) (65535 + 32767 * 0) z
    near {z} h = let n = number z h in rw n.1 (record { above = omega arith; below = omega (arith, n.2) })
