-- The search finds the lowest missing cell, leftmost in its row, because on each side it stops at the first row with a missing cell there
-- (proofs/Side.antt). The right side is the left side of the mirror image (proofs/Mirror.antt).
use Rattle.std.proofs.Common.{◌≡◌, ℕ, suc, ◌-◌, ◌<◌, ◌≤◌, Bool, true, false, cond, leb, ◌⊎◌, refl, ap, inl, inr, arith, leb-false, leb-true}
use native.Mathlib.Decide.{dec_lt}
use Rattle.chart.specs.Limits.{side}
use Rattle.chart.specs.declared.Point.{Point}
use Rattle.lattice.specs.Hull.{InHull, Missing, After, LowestMissing}
use Rattle.rows.specs.parts.Rows.{in_rows}
use Rattle.rows.specs.Search.{chain, lowest_gap}
use Rattle.lattice.proofs.WalkLaws.{point-eq}
use Rattle.rows.proofs.Rows.{Rows, Within, open-outside, outside-open, hull-above, hull-below, hull-cols}
use Rattle.rows.proofs.Side.{Left, chain-bottom}
use Rattle.rows.proofs.Mirror.{Mirrored, mirror, mirrored-back, mirrored-rows, mirrored-hull}

-- Below row r, no hull cell is right of its row. The cell just right of row r is in the hull
record RightRow (lo hi : ℕ → ℕ) (b t r : ℕ) : Type 0 where
  clear : (y : Point) → InHull (in_rows lo hi b t) y → y.row < r → y.col < hi y.row
  reach : r < t → InHull (in_rows lo hi b t) (record { col = hi r; row = r })

-- If y is in a higher row than g, or in the same row and no further left, then y is g or comes after g
same-or-after : (g y : Point) → g.row ≤ y.row → (y.row ≡ g.row → g.col ≤ y.col) → (y ≡ g) ⊎ After g y
unfolding After
same-or-after g y h k =
    elim (dec_lt g.row y.row) [
      | yes l ↦ inr (inl l)
      | no l ↦
          let e : y.row ≡ g.row = omega arith in
          let m : g.col ≤ y.col = k e in
          elim (dec_lt g.col y.col) [ yes n ↦ inr (inr (omega arith, n)) | no n ↦ inl (point-eq y g (omega arith) e) ]
    ]

same-or-after-row : (g y : Point) → (y ≡ g) ⊎ After g y → g.row ≤ y.row
unfolding After
same-or-after-row g y (inl e) = omega (arith, ap (λ (x : Point). x.row) e)
same-or-after-row g y (inr (inl l)) = omega arith
same-or-after-row g y (inr (inr p)) = omega arith

module _ (lo hi : ℕ → ℕ) (b t : ℕ) (rows : Rows lo hi b t) where
  mirrored : Mirrored lo hi (λ r. side - hi r) (λ r. side - lo r) b t
  mirrored =
      record { begins = λ r h l. omega (arith, rows.nonempty r h l, rows.fits r h l); ends = λ r h l. omega (arith, rows.fits r h l) }

  -- A gap on the left of the mirror image is a gap on the right of the block
  left-right : (g : Point) → Left (λ r. side - hi r) (λ r. side - lo r) b t b g → RightRow lo hi b t g.row
  left-right g l =
      let k = mirrored-rows mirrored rows in
      record {
        clear =
            λ y h m.
            omega (
              arith,
              l.clear (mirror y) (mirrored-hull mirrored rows h) (hull-above rows h) m,
              hull-cols rows h,
              rows.fits y.row (hull-above rows h) (hull-below rows h),
            );
        reach =
            λ m.
            let n = l.left m in
            let e : side - suc (side - suc (hi g.row)) ≡ hi g.row = omega arith in
            let h = l.reach m (side - suc (hi g.row)) (omega arith) (omega arith) in
            rw e at (mirrored-hull (mirrored-back mirrored) k h);
      }

  chain-right : RightRow lo hi b t (chain (λ r. side - hi r) t b (t - b)).row
  chain-right = left-right _ (chain-bottom _ _ b t (mirrored-rows mirrored rows))

  module _ (g : Point) (r : ℕ) (left : Left lo hi b t b g) (right : RightRow lo hi b t r) where
    -- A hull cell below both gaps is in the block
    below-within : (y : Point) → InHull (in_rows lo hi b t) y → y.row < g.row → y.row < r → Within lo hi b t y
    below-within y h l m =
        record {
          above = hull-above rows h;
          below = hull-below rows h;
          begun = left.clear y h (hull-above rows h) l;
          before = right.clear y h m;
        }

    -- The lower gap is missing; in the same row, the left one
    lower-gap : (a : Bool) → leb g.row r ≡ a → (cond a g (record { col = hi r; row = r })).row < t
        → Missing (in_rows lo hi b t) (cond a g (record { col = hi r; row = r }))
    lower-gap true e l =
        record {
          hull = left.reach l g.col (omega arith) (left.left l);
          open_cell = outside-open g (λ w. omega (arith, left.left l, w.begun));
        }
    lower-gap false e l = record { hull = right.reach l; open_cell = outside-open _ (λ w. omega (arith, w.before)) }

    lower-first : (a : Bool) → leb g.row r ≡ a → (y : Point) → Missing (in_rows lo hi b t) y →
        (y ≡ cond a g (record { col = hi r; row = r })) ⊎ After (cond a g (record { col = hi r; row = r })) y
    lower-first true e y k =
        let h = k.hull in
        let l : g.row ≤ r = leb-true _ _ e in
        same-or-after g y
        (elim (dec_lt y.row g.row)
        [ yes m ↦ absurd (open-outside y k.open_cell (below-within y h m (omega arith))) | no m ↦ omega arith ])
        (λ d. left.furthest (omega (arith, hull-below rows h)) y h d)
    lower-first false e y k =
        let h = k.hull in
        let l : r < g.row = leb-false _ _ e in
        same-or-after (record { col = hi r; row = r }) y
        (elim (dec_lt y.row r) [ yes m ↦ absurd (open-outside y k.open_cell (below-within y h (omega arith) m)) | no m ↦ omega arith ])
        (λ d.
        elim (dec_lt y.col (hi r)) [
          | yes m ↦
              absurd (open-outside y k.open_cell
              (record {
                above = hull-above rows h;
                below = hull-below rows h;
                begun = left.clear y h (hull-above rows h) (omega arith);
                before = rw d m;
              }))
          | no m ↦ omega arith
        ])

-- If the search stops below row t, it has found a missing cell
pub search-sound : {lo hi : ℕ → ℕ} {b t : ℕ} → Rows lo hi b t → (lowest_gap lo hi b t).row < t
    → Missing (in_rows lo hi b t) (lowest_gap lo hi b t)
unfolding lowest_gap
search-sound {lo} {hi} {b} {t} rows = lower-gap lo hi b t rows _ _ (chain-bottom lo hi b t rows) (chain-right lo hi b t rows) _ refl

-- Every missing cell is the one found or comes after it
pub search-first :
    {lo hi : ℕ → ℕ} {b t : ℕ} → Rows lo hi b t → (y : Point) → Missing (in_rows lo hi b t) y
    → (y ≡ lowest_gap lo hi b t) ⊎ After (lowest_gap lo hi b t) y
unfolding lowest_gap
search-first {lo} {hi} {b} {t} rows = lower-first lo hi b t rows _ _ (chain-bottom lo hi b t rows) (chain-right lo hi b t rows) _ refl

-- If a cell is missing, the search finds the lowest one, leftmost in its row
pub search-lowest :
    {lo hi : ℕ → ℕ} {b t : ℕ} → Rows lo hi b t → (x : Point) → Missing (in_rows lo hi b t) x
    → LowestMissing (in_rows lo hi b t) (lowest_gap lo hi b t)
search-lowest rows x m =
    let l = search-first rows in
    record { missing = search-sound rows (omega (arith, same-or-after-row _ _ (l x m), hull-below rows m.hull)); lowest = l }
