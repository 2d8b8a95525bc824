-- Fewer than three edges are the anchor alone or a segment, and there the extremes of columns and rows bound the cell along the line.
use Prim.Native.Nat.{ℕ, zero, suc, ◌+◌, ◌-◌, ◌*◌, ◌≤◌, ◌<◌}
use native.Mathlib.Omega.{arith}
use mathlib.Core.Path.{◌≡◌, refl, ap}
use mathlib.Core.Bool.{true}
use mathlib.Core.List.{List, [], ◌∷◌}
use lib.IntN.{ℤ, pos, ◌+ℤ◌, ◌-ℤ◌}
use Rattle.convexity.specs.Edges.{Edge}
use Rattle.convexity.specs.Inside.{side_value, within}
use Rattle.directions.specs.Round.{cross}
use Rattle.directions.specs.CornerHull.{Met, Corner, InCornerHull}
use Rattle.base.proofs.IntegerOrder.{up, down, AtMost}
use Rattle.base.proofs.Differences.{Is, is-self, is-unique, is-add, is-minus}
use Rattle.directions.proofs.Cross.{is-cross, side-cross}
use Rattle.directions.proofs.Directions.{Above, Least0, Forward, Sooner, halves, forwards, backwards}
use Rattle.directions.proofs.Means.{Meanℤ, mean-of, Reach, between}
use Rattle.directions.proofs.Fan.{Seen, seen_step, seen-anchor, shift_back, least-down}
use Rattle.directions.proofs.InsideHull.{last}

-- ---- the anchor alone

alone : {es : List Edge} (x y c r : ℤ) → AtMost x c × AtMost c x → AtMost y r × AtMost r y → InCornerHull es x y c r
alone {es} x y c r h k =
    let a : Corner es x y = record { col = x; row = y; met = Met.start } in
    record {
      p = a;
      q = a;
      t = a;
      i = 1;
      j = 0;
      k = 0;
      above_zero = omega arith;
      cols = (mean-of {w = 1} {i = 1} {j = 0} {k = 0} {z = c} {p = x} {q = x} {t = x} (omega arith)).is;
      rows = (mean-of {w = 1} {i = 1} {j = 0} {k = 0} {z = r} {p = y} {q = y} {t = y} (omega arith)).is;
    }

low-refl : (x u : ℤ) → u ≡ x → AtMost x u × AtMost u x
low-refl x u e = omega (arith, ap up e, ap down e)

none-reached : {x u : ℤ} → Reach [] x u → u ≡ x
none-reached Reach.start = refl

one-reached : {d x u : ℤ} → x +ℤ d ≡ x → Reach (d ∷ []) x u → u ≡ x
one-reached e Reach.start = refl
one-reached e (Reach.after Reach.start) = e

pub inside-none : {es : List Edge} (x y c r : ℤ) → within [] x c ≡ true → within [] y r ≡ true → InCornerHull es x y c r
inside-none x y c r h k =
    alone x y c r (between [] x x x c (λ u m. low-refl x u (none-reached m)) h)
    (between [] y y y r (λ u m. low-refl y u (none-reached m)) k)

pub inside_one :
    {es : List Edge} (x y c r dx dy : ℤ) → x +ℤ dx ≡ x → y +ℤ dy ≡ y → within (dx ∷ []) x c ≡ true → within (dy ∷ []) y r ≡ true
    → InCornerHull es x y c r
inside_one x y c r dx dy p q h k =
    alone x y c r (between (dx ∷ []) x x x c (λ u m. low-refl x u (one-reached p m)) h)
    (between (dy ∷ []) y y y r (λ u m. low-refl y u (one-reached q m)) k)

-- ---- a segment

-- The vector to the cell is k/w of the vector to the next corner cell
segment :
    {es : List Edge} (x y c r dx dy : ℤ) (w i k : ℕ) → 0 < w → w ≡ i + 0 + k
    → w * up (c -ℤ x) + k * down dx ≡ k * up dx + w * down (c -ℤ x) → w * up (r -ℤ y) + k * down dy ≡ k * up dy + w * down (r -ℤ y)
    → InCornerHull ((dx, dy) ∷ es) x y c r
segment {es} x y c r dx dy w i k g e h l =
    record {
      p = record { col = x; row = y; met = Met.start };
      q = record { col = x; row = y; met = Met.start };
      t = record { col = x +ℤ dx; row = y +ℤ dy; met = Met.after Met.start };
      i = i;
      j = 0;
      k = k;
      above_zero = omega arith;
      cols = rw e at (shift_back x c x dx e (mean x c dx h)).is;
      rows = rw e at (shift_back y r y dy e (mean y r dy l)).is;
    }
  where
    mean : (x c d : ℤ) → w * up (c -ℤ x) + k * down d ≡ k * up d + w * down (c -ℤ x)
        → Meanℤ w i 0 k (c -ℤ x) (pos 0) (x -ℤ x) ((x -ℤ x) +ℤ d)
    mean x c d h =
        let z : (x -ℤ x) +ℤ d ≡ d = is-unique (is-add (is-minus (is-self x) (is-self x)) (is-self d)) (is-self d) (omega arith) in
        rw z (mean-of (omega arith))

-- The second edge is the opposite of the first
way_back : (x d e : ℤ) → x +ℤ d +ℤ e ≡ x → Is e (down d) (up d)
way_back x d e p = record { eq = omega (arith, (is-add (is-add (is-self x) (is-self d)) (is-self e)).eq, ap up p, ap down p) }

two-reached : {d e x u : ℤ} → x +ℤ d +ℤ e ≡ x → AtMost x (x +ℤ d) → Reach (d ∷ e ∷ []) x u → AtMost x u × AtMost u (x +ℤ d)
two-reached p l Reach.start = omega arith
two-reached p l (Reach.after Reach.start) = omega arith
two-reached p l (Reach.after (Reach.after Reach.start)) = omega (arith, ap up p, ap down p)

-- In a coordinate in which the edge does not decrease, the cell's distance is from 0 to that of the whole edge
far : (x c d e : ℤ) → x +ℤ d +ℤ e ≡ x → Least0 d → within (d ∷ e ∷ []) x c ≡ true
    → Least0 (c -ℤ x) × (up (c -ℤ x) + down d ≤ up d + down (c -ℤ x))
far x c d e p l h =
    let s = (is-add (is-self x) (is-self d)).eq in
    let m = (is-minus (is-self c) (is-self x)).eq in
    omega (arith, between (d ∷ e ∷ []) x (x +ℤ d) x c (λ u k. two-reached p (omega arith) k) h)

module _
    (x y c r dx dy ex ey : ℤ) (p : x +ℤ dx +ℤ ex ≡ x) (q : y +ℤ dy +ℤ ey ≡ y)
    (s : Least0 (side_value dx dy x y c r)) (t : Least0 (side_value ex ey (x +ℤ dx) (y +ℤ dy) c r)) where
  -- The cell is on the line
  on_line : Is (cross dx dy (c -ℤ x) (r -ℤ y)) 0 0
  on_line =
      let n : ¬ (Above (Seen x y c r (x +ℤ dx) (y +ℤ dy))) = last x y c r ex ey (x +ℤ dx) (y +ℤ dy) p q t in
      let m : Least0 (cross dx dy (c -ℤ x) (r -ℤ y)) = rw (side-cross dx dy x y c r) at s in
      record { eq = omega (arith, (seen_step x y c r x y dx dy).eq, (seen-anchor x y c r).eq) }

  -- The two edges cannot be in one half
  not-turned : Above (cross dx dy ex ey) → ⊥
  not-turned a = omega (arith, (is-cross (is-self dx) (is-self dy) (way_back x dx ex p) (way_back y dy ey q)).eq)

-- An edge to the right of the anchor: count its columns
across-segment :
    {es : List Edge} (x y c r dy : ℤ) (n : ℕ) → Least0 (c -ℤ x) → up (c -ℤ x) ≤ suc n + down (c -ℤ x)
    → Is (cross (pos (suc n)) dy (c -ℤ x) (r -ℤ y)) 0 0
    → InCornerHull ((pos (suc n), dy) ∷ es) x y c r
across-segment x y c r dy n l h o =
    let k : ℕ = up (c -ℤ x) in
    let z : down (c -ℤ x) ≡ 0 = least-down (c -ℤ x) l in
    let f : Is (c -ℤ x) k 0 = record { eq = omega arith } in
    let g = (is-cross (is-self (pos (suc n))) (is-self dy) f (is-self (r -ℤ y))).eq in
    segment x y c r (pos (suc n)) dy (suc n) (suc n - k) k (omega arith) (omega arith) (omega (arith, ap (λ (m : ℕ). n * m) z))
    (omega (arith, g, o.eq))

-- An edge straight up: count its rows
upward-segment :
    {es : List Edge} (x y c r : ℤ) (n : ℕ) → Is (c -ℤ x) 0 0 → Least0 (r -ℤ y) → up (r -ℤ y) ≤ suc n + down (r -ℤ y)
    → InCornerHull ((pos zero, pos (suc n)) ∷ es) x y c r
upward-segment x y c r n o l h =
    let k : ℕ = up (r -ℤ y) in
    let z : down (r -ℤ y) ≡ 0 = least-down (r -ℤ y) l in
    segment x y c r (pos zero) (pos (suc n)) (suc n) (suc n - k) k (omega arith) (omega arith)
    (omega (arith, ap (λ (m : ℕ). n * m) o.eq)) (omega (arith, ap (λ (m : ℕ). n * m) z))

forward-two :
    {es : List Edge} {dx dy : ℤ} (x y c r ex ey : ℤ) → Forward dx dy → x +ℤ dx +ℤ ex ≡ x → y +ℤ dy +ℤ ey ≡ y
    → Is (cross dx dy (c -ℤ x) (r -ℤ y)) 0 0
    → within (dx ∷ ex ∷ []) x c ≡ true → within (dy ∷ ey ∷ []) y r ≡ true → InCornerHull ((dx, dy) ∷ es) x y c r
forward-two x y c r ex ey (Forward.across {n = n} {dy = dy}) p q o h k =
    let a = far x c (pos (suc n)) ex p (omega arith) h in
    across-segment x y c r dy n a.0 (omega arith) o
forward-two x y c r ex ey (Forward.upward {n = n}) p q o h k =
    let a = far x c (pos zero) ex p (omega arith) h in
    let b = far y r (pos (suc n)) ey q (omega arith) k in
    upward-segment x y c r n (record { eq = omega arith }) b.0 (omega arith)

pub inside-two :
    {es : List Edge} (x y c r dx dy ex ey : ℤ) → x +ℤ dx +ℤ ex ≡ x → y +ℤ dy +ℤ ey ≡ y → Sooner dx dy ex ey
    → Least0 (side_value dx dy x y c r) → Least0 (side_value ex ey (x +ℤ dx) (y +ℤ dy) c r)
    → within (dx ∷ ex ∷ []) x c ≡ true → within (dy ∷ ey ∷ []) y r ≡ true → InCornerHull ((dx, dy) ∷ es) x y c r
inside-two x y c r dx dy ex ey p q (halves d e) s t h k = forward-two x y c r ex ey d p q (on_line x y c r dx dy ex ey p q s t) h k
inside-two x y c r dx dy ex ey p q (forwards d e a) s t h k = absurd (not-turned x y c r dx dy ex ey p q s t a)
inside-two x y c r dx dy ex ey p q (backwards d e a) s t h k = absurd (not-turned x y c r dx dy ex ey p q s t a)
