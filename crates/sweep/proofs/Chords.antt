-- If two points pass a linear test, so does their mean, and so does a point beside it on the side where the test grows.
-- A side value is such a test of cells.
use Prim.Native.Nat.{ℕ, ◌+◌, ◌-◌, ◌*◌, ◌≤◌, ◌<◌}
use native.Mathlib.Nat.{mul-add, add-mul, mul-suc, suc-mul, mul_assoc, mul_comm, mul_left_comm, mul-le-mul_left, le_of_mul-le-mul_left}
use native.Mathlib.Omega.{arith}
use mathlib.Core.Path.{◌≡◌, ap}
use mathlib.Core.Logic.{◌↔◌}
use lib.IntN.{ℤ, pos, ◌+ℤ◌, ◌-ℤ◌}
use Rattle.base.proofs.IntegerOrder.{up, down}
use Rattle.base.proofs.Differences.{Is, is-self, is-add, is-minus}
use Rattle.convexity.specs.Inside.{side_value}
use Rattle.directions.proofs.Cross.{is-cross, side-cross}
use Rattle.directions.proofs.Directions.{Least0}

-- ---- numbers

pub ruleset ring = (mul-add, add-mul, mul-suc, suc-mul, mul_assoc, mul_comm, mul_left_comm)

abbrev pub Passes : ℕ → ℕ → ℕ → ℕ → ℕ → ℕ → ℕ → ℕ → Type 0
Passes a a' b b' g g' x y = a' * x + b' * y + g' ≤ a * x + b * y + g

module _ (a a' b b' g g' x y u v m t n r z : ℕ) (n-is : m + t ≡ n) (rows : m * y + t * v ≡ n * r) (cols : m * x + t * u ≡ z) where
  -- n times the mean
  mean : Passes a a' b b' g g' x y → Passes a a' b b' g g' u v → a' * z + b' * (n * r) + g' * n ≤ a * z + b * (n * r) + g * n
  mean h k =
      rw (← rows, ← cols, ← n-is) (simp ring (omega (arith, simp ring at (mul-le-mul_left m h), simp ring at (mul-le-mul_left t k))))

  -- The test grows with the column, and the column is at least the mean's; or it falls, and the column is at most the mean's
  pub grows : (c : ℕ) → 0 < n → a' ≤ a → z ≤ n * c → Passes a a' b b' g g' x y → Passes a a' b b' g g' u v → Passes a a' b b' g g' c r
  grows c some up l h k =
      let d = a - a' in
      let e : a ≡ a' + d = omega arith in
      let s = mean h k in
      le_of_mul-le-mul_left {k = n} (rw e (simp ring (omega (arith, simp ring at (rw e at s), simp ring at (mul-le-mul_left d l))))) some

  pub falls : (c : ℕ) → 0 < n → a ≤ a' → n * c ≤ z → Passes a a' b b' g g' x y → Passes a a' b b' g g' u v → Passes a a' b b' g g' c r
  falls c some down l h k =
      let d = a' - a in
      let e : a' ≡ a + d = omega arith in
      let s = mean h k in
      le_of_mul-le-mul_left {k = n} (rw e (simp ring (omega (arith, simp ring at (rw e at s), simp ring at (mul-le-mul_left d l))))) some

-- ---- an edge between cells of the chart

-- The edge (ex, ey) from (p, q) leads from one cell of the chart to another
pub record Natural (ex ey p q : ℤ) : Type 0 where
  pub x : ℕ
  pub y : ℕ
  pub u : ℕ
  pub v : ℕ
  pub is_x : p ≡ pos x
  pub is_y : q ≡ pos y
  pub is_u : p +ℤ ex ≡ pos u
  pub is_v : q +ℤ ey ≡ pos v

module _ {ex ey p q : ℤ} (n : Natural ex ey p q) where
  pub is-ex : Is ex n.u n.x
  is-ex =
      record { eq = omega (arith, (is-add (is-self p) (is-self ex)).eq, ap up n.is_x, ap down n.is_x, ap up n.is_u, ap down n.is_u) }

  pub is-ey : Is ey n.v n.y
  is-ey =
      record { eq = omega (arith, (is-add (is-self q) (is-self ey)).eq, ap up n.is_y, ap down n.is_y, ap up n.is_v, ap down n.is_v) }

  way : (c : ℕ) (z : ℤ) (k : ℕ) → z ≡ pos k → Is (pos c -ℤ z) c k
  way c z k e = record { eq = omega (arith, (is-minus (is-self (pos c)) (is-self z)).eq, ap up e, ap down e) }

  side-is : (c r : ℕ) → Is (side_value ex ey p q (pos c) (pos r)) (n.v * c + n.x * r + n.u * n.y) (n.y * c + n.u * r + n.v * n.x)
  side-is c r =
      let s = is-cross is-ex is-ey (way c p n.x n.is_x) (way r q n.y n.is_y) in
      rw (side-cross ex ey p q (pos c) (pos r)) (record { eq = omega (arith, s.eq) })

  -- A cell is on its inner side exactly if it passes a linear test
  pub side-passes : (c r : ℕ)
      → Least0 (side_value ex ey p q (pos c) (pos r)) ↔ Passes n.v n.y n.x n.u (n.u * n.y) (n.v * n.x) c r
  side-passes c r = ((λ h. omega (arith, (side-is c r).eq)), λ h. omega (arith, (side-is c r).eq))
