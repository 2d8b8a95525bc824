-- A cell between two segments that share an end is in the triangle of the shared end and the two others. It does not matter whether the
-- shared end is in an earlier or a later layer: the proof uses only the weights that put each segment's point into the cell's layer.
use Prim.Native.Nat.{ℕ, zero, suc, ◌+◌, ◌-◌, ◌*◌, ◌≤◌, ◌<◌}
use native.Mathlib.Nat.{mul-le-mul_left}
use native.Mathlib.Omega.{arith}
use mathlib.Core.Path.{◌≡◌, ap}
use Rattle.chart.specs.declared.Point.{Point}
use Rattle.lattice.specs.Hull.{InTriangle}

-- x is g / (e + d) rows above the segment from z to q and h / (f + d) rows below the segment from z to t
fan-by :
    (x z q t : Point) (d e f g h : ℕ) →
    0 < d →
    (e + d) * x.col ≡ e * z.col + d * q.col →
    (f + d) * x.col ≡ f * z.col + d * t.col →
    (e + d) * x.row ≡ e * z.row + d * q.row + g →
    f * z.row + d * t.row ≡ (f + d) * x.row + h →
    InTriangle x z q t
fan-by x z q t d e f zero h p i j k l =
    record { a = e; b = d; c = 0; above_zero = omega arith; cols = omega arith; rows = omega arith }
fan-by x z q t d e f (suc g) h p i j k l =
    record {
      a = h * e + suc g * f;
      b = h * d;
      c = suc g * d;
      above_zero = omega (arith, mul-le-mul_left (suc g) p);
      cols = omega (arith, ap (λ n. h * n) i, ap (λ n. suc g * n) j);
      rows = omega (arith, ap (λ n. h * n) k, ap (λ n. suc g * n) l);
    }

pub fan :
    (x z q t : Point) (d e f : ℕ) →
    0 < d →
    (e + d) * x.col ≡ e * z.col + d * q.col →
    (f + d) * x.col ≡ f * z.col + d * t.col →
    e * z.row + d * q.row ≤ (e + d) * x.row →
    (f + d) * x.row ≤ f * z.row + d * t.row →
    InTriangle x z q t
fan x z q t d e f p i j k l =
    fan-by x z q t d e f ((e + d) * x.row - (e * z.row + d * q.row)) (f * z.row + d * t.row - (f + d) * x.row) p i j (omega arith)
    (omega arith)
