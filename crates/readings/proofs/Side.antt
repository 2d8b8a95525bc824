-- Rounding moves a side value by less than 1/64. In units of 2 ^ -149, let E be 2 ^ 132 and U be 2 ^ 149, which is 1. Each difference,
-- below 256 U, has an error of at most E. Its product, below 65536 U, has 254 E from that and 256 E of its own. The last difference, below
-- 131072 U, adds 512 E. In all 2 * (254 + 256) + 512 = 1532, and 1/64 is 2048 E.
use Prim.Native.Nat.{ℕ, ◌+◌, ◌*◌, ◌^◌, ◌≤◌, ◌<◌}
use native.Mathlib.Nat.{mul-le-mul, mul-le-mul_right}
use native.Mathlib.Omega.{arith}
use mathlib.Core.Path.{◌≡◌, refl}
use lib.IntN.{ℤ, pos, nat_abs, ◌-ℤ◌, ◌*ℤ◌}
use lib.Dec.{lit≤}
use lib.Ieee.{Float, binary32, sub, mul, of_int}
use Rattle.base.proofs.Differences.{is-self, is-minus}
use Rattle.base.proofs.Sizes.{size-at-most, size-triangle, size_back, size-difference, size-differences, size-product-le, size-products}
use Rattle.rounding.specs.Units.{value, in_units}
use Rattle.rounding.proofs.Values.{Exact}
use Rattle.rounding.proofs.Near.{Near, sub-near, mul-near}
use Rattle.convexity.specs.Inside.{side_value}
use Rattle.calls.specs.declared.Reading.{Reading}
use Rattle.readings.specs.Sides.{PlacedEdge, exact_side, computed_side}
use Rattle.readings.proofs.Numbers.{Good, Cell, few-digits, cell-size, small-exact, small_is}

-- ---- a reading's number minus a cell's

-- The exact difference
apart : (X : Float) (x : ℤ) → Good X → Cell x → nat_abs (value binary32 X -ℤ in_units binary32 x) ≤ 254 * 2 ^ 149
unfolding in_units
apart X x p q =
    rw (p.is, q.is)
    (size-at-most (254 * 2 ^ 149) (is-minus (is-self (pos p.n)) (is-self (pos (q.n * 2 ^ 149))))
    (first p.n (q.n * 2 ^ 149) (254 * 2 ^ 149) p.high)
    (second p.n (q.n * 2 ^ 149) (254 * 2 ^ 149) (mul-le-mul_right (2 ^ 149) q.small)))
  where
    first : (a b k : ℕ) → a ≤ k → a + 0 ≤ 0 + b + k
    first a b k h = omega arith

    second : (a b k : ℕ) → b ≤ k → 0 + b ≤ a + 0 + k
    second a b k h = omega arith

difference : (X : Float) (x : ℤ) → Good X → Cell x
    → Near binary32 (sub binary32 X (of_int binary32 x)) (value binary32 X -ℤ in_units binary32 x) (2 ^ 132)
difference X x p q =
    let s = cell-size q in
    rw (small_is x s) at (sub-near binary32 X (of_int binary32 x) 132 p.exact (small-exact x s) (lit≤ tt)
    (rw (small_is x s) (below (nat_abs (value binary32 X -ℤ in_units binary32 x)) (2 ^ 149) (2 ^ 157) (apart X x p q) refl (lit≤ tt))))
  where
    below : (n U P : ℕ) → n ≤ 254 * U → P ≡ 256 * U → 0 < U → n < P
    below n U P h p u = omega arith

-- ---- the product with an edge's step

-- y is the computed difference, and z its exact value
product : (d : ℤ) (y : Float) (z : ℤ) → nat_abs d ≤ 254 → nat_abs z ≤ 254 * 2 ^ 149 → Near binary32 y z (2 ^ 132)
    → Near binary32 (mul binary32 (of_int binary32 d) y) (d *ℤ z) (510 * 2 ^ 132)
product d y z small high h =
    let v = value binary32 y in
    let size : nat_abs v ≤ 254 * 2 ^ 149 + 2 ^ 132 =
    whole (nat_abs v) (nat_abs (v -ℤ z)) (nat_abs z) (2 ^ 132) (254 * 2 ^ 149) (size_back v z) h.near high in
    let r =
    mul-near binary32 d y 140 (few-digits d small) h.exact (lit≤ tt)
    (below (nat_abs (d *ℤ v)) (2 ^ 132) (2 ^ 149) (2 ^ 165) (size-product-le d v small size) refl refl (lit≤ tt)) in
    let p = value binary32 (mul binary32 (of_int binary32 d) y) in
    record {
      exact = r.exact;
      near =
          sum (nat_abs (p -ℤ d *ℤ z)) (nat_abs (p -ℤ d *ℤ v)) (nat_abs (d *ℤ v -ℤ d *ℤ z)) (2 ^ 132) (2 ^ 140)
          (size-triangle p (d *ℤ v) (d *ℤ z)) r.near refl (rw size-products (mul-le-mul small h.near));
    }
  where
    whole : (n a b E K : ℕ) → n ≤ a + b → a ≤ E → b ≤ K → n ≤ K + E
    whole n a b E K h k l = omega arith

    below : (n E U P : ℕ) → n ≤ 254 * (254 * U + E) → U ≡ 131072 * E → P ≡ 65536 * U → 0 < E → n < P
    below n E U P h u p e = omega arith

    sum : (n a b E D : ℕ) → n ≤ a + b → a ≤ D → D ≡ 256 * E → b ≤ 254 * E → n ≤ 510 * E
    sum n a b E D h k d l = omega arith

-- ---- the side value

-- An edge from one cell of the chart to another
pub record Small (e : PlacedEdge) : Type 0 where
  pub col : Cell e.col
  pub row : Cell e.row
  pub cols : nat_abs e.cols ≤ 254
  pub rows : nat_abs e.rows ≤ 254

-- What is proved of a computed side value. 1/64 is 2 ^ 143 units
pub record Close (x : Float) (z : ℤ) : Type 0 where
  pub exact : Exact binary32 x
  pub near : nat_abs (value binary32 x -ℤ z) < 2 ^ 143

last :
    (u v : Float) (P Q : ℤ) → nat_abs P ≤ 254 * (254 * 2 ^ 149) → nat_abs Q ≤ 254 * (254 * 2 ^ 149) → Near binary32 u P (510 * 2 ^ 132)
    → Near binary32 v Q (510 * 2 ^ 132)
    → Close (sub binary32 u v) (P -ℤ Q)
last u v P Q p q h k =
    let a = value binary32 u in
    let b = value binary32 v in
    let r =
    sub-near binary32 u v 141 h.exact k.exact (lit≤ tt)
    (below (nat_abs (a -ℤ b)) (nat_abs a) (nat_abs b) (nat_abs (a -ℤ P)) (nat_abs (b -ℤ Q)) (nat_abs P) (nat_abs Q) (2 ^ 132) (2 ^ 149) (2 ^ 166)
    (size-difference a b) (size_back a P) (size_back b Q) h.near k.near p q refl refl (lit≤ tt)) in
    let s = value binary32 (sub binary32 u v) in
    record {
      exact = r.exact;
      near =
          sum (nat_abs (s -ℤ (P -ℤ Q))) (nat_abs (s -ℤ (a -ℤ b))) (nat_abs (a -ℤ b -ℤ (P -ℤ Q))) (nat_abs (a -ℤ P)) (nat_abs (b -ℤ Q)) (2 ^ 132)
          (2 ^ 141) (2 ^ 143)
          (size-triangle s (a -ℤ b) (P -ℤ Q)) (size-differences a b P Q) r.near h.near k.near refl refl (lit≤ tt);
    }
  where
    below :
        (n a b x y p q E U R : ℕ) → n ≤ a + b → a ≤ x + p → b ≤ y + q → x ≤ 510 * E → y ≤ 510 * E → p ≤ 254 * (254 * U)
        → q ≤ 254 * (254 * U) → U ≡ 131072 * E
        → R ≡ 131072 * U → 0 < E → n < R
    below n a b x y p q E U R h k l m o i j u r e = omega arith

    sum :
        (n a b x y E D F : ℕ) → n ≤ a + b → b ≤ x + y → a ≤ D → x ≤ 510 * E → y ≤ 510 * E → D ≡ 512 * E → F ≡ 2048 * E → 0 < E → n < F
    sum n a b x y E D F h k l m o d f e = omega arith

-- The computed side value is finite, and rounding has moved it by less than 1/64
pub side-close : (r : Reading) (e : PlacedEdge) → Good r.angle → Good r.load → Small e → Close (computed_side r e) (exact_side r e)
unfolding computed_side exact_side side_value
side-close r e p q h =
    let X = r.angle in
    let Y = r.load in
    let P = value binary32 X -ℤ in_units binary32 e.col in
    let Q = value binary32 Y -ℤ in_units binary32 e.row in
    let a = apart X e.col p h.col in
    let b = apart Y e.row q h.row in
    last (mul binary32 (of_int binary32 e.rows) (sub binary32 X (of_int binary32 e.col)))
    (mul binary32 (of_int binary32 e.cols) (sub binary32 Y (of_int binary32 e.row)))
    (e.rows *ℤ P) (e.cols *ℤ Q) (size-product-le e.rows P h.rows a) (size-product-le e.cols Q h.cols b)
    (product e.rows (sub binary32 X (of_int binary32 e.col)) P h.rows a (difference X e.col p h.col))
    (product e.cols (sub binary32 Y (of_int binary32 e.row)) Q h.cols b (difference Y e.row q h.row))
