-- The laws of lines hold because slopes compare transitively. A point x is on or right of the line from p up to q exactly if the
-- determinant of the three is not negative, and the determinant compares the slopes of any two of their segments. The numbers are natural,
-- so each term stands on the side where it is positive.
use Rattle.std.proofs.Common.{◌≡◌, ℕ, suc, ◌+◌, ◌-◌, ◌*◌, ◌<◌, ◌≤◌, ◌↔◌, ap, mul-le-mul_right, le_of_mul-le-mul_right, arith}
use Rattle.chart.specs.declared.Point.{Point}
use Rattle.lattice.specs.Hull.{InTriangle}
use Rattle.base.proofs.Mean.{Mean, mean-times, mean-line, mean-add, mean-le, mean-at-most, mean-at-least}

-- x is on or right of the line from p up to q
pub record Right (p q x : Point) : Type 0 where
  pub holds : p.row * x.col + q.row * p.col + q.col * x.row ≤ q.row * x.col + p.row * q.col + p.col * x.row

-- The segment from p up to q has at most the slope, in columns per row, of the segment from u up to v
pub record SlopeLe (p q u v : Point) : Type 0 where
  pub le : q.col * (v.row - u.row) + u.col * (q.row - p.row) ≤ v.col * (q.row - p.row) + p.col * (v.row - u.row)

slope-trans : {p q u v x y : Point} → u.row < v.row → SlopeLe p q u v → SlopeLe u v x y → SlopeLe p q x y
slope-trans {p} {q} {u} {v} {x} {y} l i j =
    record {
      le =
          le_of_mul-le-mul_right {k = v.row - u.row}
          (omega (arith, mul-le-mul_right (y.row - x.row) i.le, mul-le-mul_right (q.row - p.row) j.le))
          (omega arith);
    }

-- The rows of the ends of a segment, times a number
height : (p q : Point) → p.row ≤ q.row → (n : ℕ) → q.row * n ≡ p.row * n + (q.row - p.row) * n
height p q l n =
    let e : q.row ≡ p.row + (q.row - p.row) = omega arith in
    omega (arith, ap (λ m. m * n) e)

-- The test of three points compares the slopes of two segments that share an end
module _ {p q x : Point} where
  -- Both go up from p
  pub right-from : p.row ≤ q.row → p.row ≤ x.row → Right p q x ↔ SlopeLe p q p x
  right-from l m =
      let f = height p q l in
      let g = height p x m in (
        λ h. omega (arith, f p.col, f x.col, g p.col, g q.col),
        λ h. omega (arith, f p.col, f x.col, g p.col, g q.col),
      )

  -- Both go up to q
  pub right-to : p.row ≤ q.row → x.row ≤ q.row → Right p q x ↔ SlopeLe x q p q
  right-to l m =
      let f = height p q l in
      let g = height x q m in (
        λ h. omega (arith, f q.col, f x.col, g q.col, g p.col),
        λ h. omega (arith, f q.col, f x.col, g q.col, g p.col),
      )

  -- One goes from p up to x, the other from x up to q
  pub right-between : p.row ≤ x.row → x.row ≤ q.row → Right p q x ↔ SlopeLe x q p x
  right-between l m =
      let f = height p x l in
      let g = height x q m in (
        λ h. omega (arith, f p.col, f q.col, f x.col, g p.col, g x.col),
        λ h. omega (arith, f p.col, f q.col, f x.col, g p.col, g x.col),
      )

  -- One goes from p up to q, the other from q up to x
  pub right-on : p.row ≤ q.row → q.row ≤ x.row → Right p q x ↔ SlopeLe p q q x
  right-on l m =
      let f = height p q l in
      let g = height q x m in (
        λ h. omega (arith, f p.col, f q.col, f x.col, g p.col, g q.col),
        λ h. omega (arith, f p.col, f q.col, f x.col, g p.col, g q.col),
      )

-- Four points: each law is `slope-trans`, with the segments in another place

module _ {p q u v : Point} where
  -- Seen from p: if v is right of q and q is right of u, then v is right of u
  pub right-trans : p.row < q.row → p.row ≤ u.row → p.row ≤ v.row → Right p u q → Right p q v → Right p u v
  right-trans l m n h k =
      let l' : p.row ≤ q.row = omega arith in
      (right-from m n).1 (slope-trans l ((right-from m l').0 h) ((right-from l' n).0 k))

  -- If u below q and v above q are both right of the line from p up to q, then v is right of the line from u to q
  pub right-turn : p.row < q.row → u.row ≤ q.row → q.row ≤ v.row → Right p q u → Right p q v → Right u q v
  right-turn l m n h k =
      let l' : p.row ≤ q.row = omega arith in
      (right-on m n).1 (slope-trans l ((right-to l' m).0 h) ((right-on l' n).0 k))

  -- If u is right of the line from p up to q and v, below q, is right of the line from u up to q, then v is right of the line from p up to
  -- q
  pub right-below : p.row ≤ q.row → u.row < q.row → v.row ≤ q.row → Right p q u → Right u q v → Right p q v
  right-below l m n h k =
      let m' : u.row ≤ q.row = omega arith in
      (right-to l n).1 (slope-trans m ((right-to m' n).0 k) ((right-to l m').0 h))

  -- If q is right of the line from p to u, and u is right of the line from q to v, then q is right of the line from p to v
  pub right-over : p.row ≤ q.row → q.row < u.row → q.row ≤ v.row → Right p u q → Right q v u → Right p v q
  right-over l m n h k =
      let m' : q.row ≤ u.row = omega arith in
      (right-between l n).1 (slope-trans m ((right-from n m').0 k) ((right-between l m').0 h))

pub right-start : {p q : Point} → Right p q p
right-start = omega arith

pub right_end : {p q : Point} → Right p q q
right_end = omega arith

-- The test does not depend on which of the three points comes first
pub right-cycle : {p q x : Point} → Right x p q → Right p q x
right-cycle h = omega arith

-- Every point further right in the same row is right of the line too
beyond-offsets : (p q : Point) (r c y z : ℕ) → q.row ≡ p.row + z → Right p q (record { col = c; row = r })
    → Right p q (record { col = c + y; row = r })
beyond-offsets p q r c y z i h = omega (arith, ap (λ n. n * y) i, h.holds)

pub right-beyond : {p q x : Point} (c : ℕ) → p.row ≤ q.row → c ≤ x.col → Right p q (record { col = c; row = x.row }) → Right p q x
right-beyond {p} {q} {x} c l m h =
    let e : x.col ≡ c + (x.col - c) = omega arith in
    rw e (beyond-offsets p q x.row c (x.col - c) (q.row - p.row) (omega arith) h)

-- In the row of an end of the line, a point right of the line is right of that end
pub right-of-start : {p q x : Point} → p.row < q.row → x.row ≡ p.row → Right p q x → p.col ≤ x.col
right-of-start {p} {q} {x} l e h =
    let d : x.row - p.row ≡ 0 = omega arith in
    let k = ((right-from {p = p} {q = q} {x = x} (omega arith) (omega arith)).0 h).le in
    le_of_mul-le-mul_right {k = q.row - p.row} (omega (arith, rw d at k)) (omega arith)

pub right-of-end : {p q x : Point} → p.row < q.row → x.row ≡ q.row → Right p q x → q.col ≤ x.col
right-of-end {p} {q} {x} l e h =
    let d : q.row - x.row ≡ 0 = omega arith in
    let k = ((right-to {p = p} {q = q} {x = x} (omega arith) (omega arith)).0 h).le in
    le_of_mul-le-mul_right {k = q.row - p.row} (omega (arith, rw d at k)) (omega arith)

-- The mean of a linear function of the coordinates
mean-sum :
    (i k j : ℕ) {x u v w : Point} (h : InTriangle x u v w) →
    Mean h.a h.b h.c (i * x.col + k + j * x.row) (i * u.col + k + j * u.row) (i * v.col + k + j * v.row)
    (i * w.col + k + j * w.row)
mean-sum i k j h =
    mean-add h.a h.b h.c _ _ _ _ _ _ _ _ (mean-line i k h.a h.b h.c _ _ _ _ h.cols)
    (mean-times j h.a h.b h.c _ _ _ _ h.rows)

-- A triangle is right of a line if its three corners are
pub right-mean : {p q x u v w : Point} → InTriangle x u v w → Right p q u → Right p q v → Right p q w → Right p q x
right-mean {p} {q} {x} {u} {v} {w} h k l m =
    record {
      holds =
          mean-le h.a h.b h.c _ _ _ _ _ _ _ _ h.above_zero
          (mean-sum p.row (q.row * p.col) q.col h)
          (mean-sum q.row (p.row * q.col) p.col h)
          k.holds
          l.holds
          m.holds;
    }

-- A point x between the rows of p and q, right of their line and left of u in its row, is in the triangle of p, q and u. Here x is y rows
-- above p, z rows below q and g + 1 columns left of u, and w is its determinant with p and q
triangle-offsets :
    (p q u x : Point) (y z g w : ℕ) →
    x.row ≡ p.row + y →
    q.row ≡ x.row + z →
    u.row ≡ x.row →
    u.col ≡ x.col + suc g →
    (y + z) * x.col ≡ z * p.col + y * q.col + w →
    0 < y + z →
    InTriangle x p q u
triangle-offsets p q u x y z g w i j k l e h =
    record {
      a = suc g * z;
      b = suc g * y;
      c = w;
      above_zero = omega arith;
      cols = omega (arith, ap (λ n. g * n) e, ap (λ n. w * n) l);
      rows = omega (arith, ap (λ n. suc g * z * n) i, ap (λ n. suc g * y * n) j, ap (λ n. w * n) k);
    }

pub right-in-triangle : {p q u x : Point} → p.row < q.row → p.row ≤ x.row → x.row ≤ q.row → u.row ≡ x.row → x.col < u.col
    → Right p q x → InTriangle x p q u
right-in-triangle {p} {q} {u} {x} l m n e k h =
    let d = ((right-between m n).0 h).le in
    let y = x.row - p.row in
    let z = q.row - x.row in
    triangle-offsets p q u x y z (u.col - suc x.col) ((y + z) * x.col - (z * p.col + y * q.col)) (omega arith) (omega arith) e
    (omega arith) (omega arith) (omega arith)

-- A triangle lies within the rows and columns of its corners
pub triangle-above : {x p q u : Point} (k : ℕ) → InTriangle x p q u → k ≤ p.row → k ≤ q.row → k ≤ u.row → k ≤ x.row
triangle-above k h = mean-at-least h.a h.b h.c _ _ _ _ k h.above_zero h.rows

pub triangle-below : {x p q u : Point} (k : ℕ) → InTriangle x p q u → p.row ≤ k → q.row ≤ k → u.row ≤ k → x.row ≤ k
triangle-below k h = mean-at-most h.a h.b h.c _ _ _ _ k h.above_zero h.rows

pub triangle-cols : {x p q u : Point} (k : ℕ) → InTriangle x p q u → p.col ≤ k → q.col ≤ k → u.col ≤ k → x.col ≤ k
triangle-cols k h = mean-at-most h.a h.b h.c _ _ _ _ k h.above_zero h.cols
