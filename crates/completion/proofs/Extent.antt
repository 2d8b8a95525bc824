-- The outline round the hull of a block has twice as many letters as the block has rows and columns, and no outline of the block has fewer.
use Prim.Native.Nat.{ℕ, zero, suc, pred, ◌+◌, ◌-◌, ◌*◌, ◌≤◌, ◌<◌}
use mathlib.Core.Path.{◌≡◌, refl, sym, ap, ◌∙◌}
use mathlib.Core.Bool.{Bool, true, false, true≢false}
use mathlib.Core.Logic.{inl, inr}
use native.Mathlib.Decide.{dec_le}
use native.Mathlib.Omega.{arith}
use Rattle.base.proofs.Mean.{mean-at-least, mean-at-most}
use Rattle.chart.specs.Limits.{side}
use Rattle.chart.specs.declared.Point.{Point}
use Rattle.chart.specs.Outline.{Outline, at}
use Rattle.lattice.specs.Chart.{step, corner_at, size, letter_at}
use Rattle.lattice.specs.Enclosed.{encloses}
use Rattle.lattice.specs.Hull.{InHull}
use Rattle.lattice.specs.Refusals.{Simple}
use Rattle.lattice.proofs.WalkLaws.{walked, corner-zero, corner-suc, length-rotation}
use Rattle.lattice.proofs.Jumps.{downs_at, ups-jump-vertical, downs-jump-vertical, downs-found}
use Rattle.lattice.proofs.RightHand.{level}
use Rattle.rows.proofs.Rows.{Rows}
use Rattle.convexity.specs.Cut.{from_w, west_place}
use Rattle.convexity.specs.Clockwise.{clockwise_form, border, block}
use Rattle.convexity.specs.Shape.{WalkFromW}
use Rattle.convexity.proofs.Extreme.{from-w-of}
use Rattle.convexity.proofs.Clockwise.{simple-form, clockwise-form, length-form, west-first}
use Rattle.convexity.proofs.AsSent.{block-from-w}
use Rattle.convexity.proofs.SameBlock.{open-right}
use Rattle.convexity.proofs.Levels.{enclosed-level, level-enclosed, up-counted, from-w-lowest, leaves-upwards, left-of-anchor}
use Rattle.completion.specs.RowsOutline.{outline_of}
use Rattle.completion.specs.HullRows.{hull_left, hull_right}
use Rattle.completion.proofs.HullRows.{left-hull, beyond-lines, left-at-most, hull-rows, Ends, hull-iff}
use Rattle.completion.proofs.Perimeter.{perimeter}
use Rattle.completion.proofs.Count.{travel, length-outline, Hollow, Least, least-of, travel-hollow}

-- ---- the hull's left ends fall and then rise

straddle : (i j k d e : ℕ) → j ≡ i + d → k ≡ j + e → (e + d + 0) * j ≡ e * i + d * k + 0 * k
straddle i j k d e h l = omega (arith, ap (λ n. e * n) h, ap (λ n. d * n) l)

pub left-hollow : (lo : ℕ → ℕ) (b t : ℕ) → Hollow (hull_left lo b t) b t
left-hollow lo b t i j k c h l m n f g =
    left-hull lo b t (at c j) (at c i) (at c k) (at c k)
    (record {
      a = k - j;
      b = j - i;
      c = 0;
      above_zero = omega arith;
      cols = omega arith;
      rows = straddle i j k (j - i) (k - j) (omega arith) (omega arith);
    })
    (omega arith) (omega arith)
    (beyond-lines lo b t (at c i) h (omega arith) f)
    (beyond-lines lo b t (at c k) (omega arith) n g)
    (beyond-lines lo b t (at c k) (omega arith) n g)

travel-mirror : (f : ℕ → ℕ) (y k : ℕ) → ((r : ℕ) → y ≤ r → r ≤ y + k → f r ≤ side) → travel (λ r. side - f r) y k ≡ travel f y k
unfolding travel
travel-mirror f y zero h = refl
travel-mirror f y (suc k) h =
    sums _ _ _ _ (turned (f y) (f (suc y)) (h y (omega arith) (omega arith)) (h (suc y) (omega arith) (omega arith)))
    (travel-mirror f (suc y) k (λ r l m. h r (omega arith) (omega arith)))
  where
    turned : (p q : ℕ) → p ≤ side → q ≤ side → ((side - q) - (side - p)) + ((side - p) - (side - q)) ≡ (q - p) + (p - q)
    turned p q a b = omega arith

    sums : (a b c d : ℕ) → a ≡ b → c ≡ d → a + c ≡ b + d
    sums a b c d e f = omega arith

module _ (lo hi : ℕ → ℕ) (b t : ℕ) (rows : Rows lo hi b t) where
  abbrev mirror_left : ℕ → ℕ
  mirror_left = hull_left (λ s. side - hi s) b t

  mirror-fits : (r : ℕ) → b ≤ r → r < t → hull_left (λ s. side - hi s) b t r ≤ side
  mirror-fits r h l = omega (arith, left-at-most (λ s. side - hi s) b t r h l)

  -- Twice the rows and twice the columns
  pub hull-letters :
      (m : Least (hull_left lo b t) b t) (n : Least (hull_left (λ s. side - hi s) b t) b t)
      → size (outline_of (hull_left lo b t) (hull_right hi b t) b t) + 2 * hull_left lo b t m.at ≡ 2 * (t - b) + 2 * hull_right hi b t n.at
  unfolding hull_right
  hull-letters m n =
      let l : b < t = rows.below in
      let nonempty = (hull-rows lo hi b t rows).nonempty in
      sums (size (outline_of (hull_left lo b t) (hull_right hi b t) b t)) (2 * (t - b)) (hull_left lo b t b) (hull_left lo b t (pred t))
      (hull_left lo b t m.at)
      (mirror_left b) (mirror_left (pred t)) (mirror_left n.at)
      (travel (hull_left lo b t) b (t - suc b)) (travel (hull_right hi b t) b (t - suc b)) (travel mirror_left b (t - suc b))
      (mirror-fits b (omega arith) l)
      (mirror-fits (pred t) (omega arith) (omega arith))
      (mirror-fits n.at n.low n.high)
      (length-outline (hull_left lo b t) (hull_right hi b t) b t l (nonempty b (omega arith) l)
      (nonempty (pred t) (omega arith) (omega arith)))
      (travel-hollow (hull_left lo b t) b t l (left-hollow lo b t) m)
      (travel-mirror (hull_left (λ s. side - hi s) b t) b (t - suc b) (λ r h k. mirror-fits r h (omega arith)))
      (travel-hollow (hull_left (λ s. side - hi s) b t) b t l (left-hollow (λ s. side - hi s) b t) n)
    where
      sums :
          (s h lb lt lm mb mt mn tl tr tm : ℕ) → mb ≤ side → mt ≤ side → mn ≤ side
          → s + lb + lt ≡ h + tl + tr + (side - mb) + (side - mt)
          → tl + 2 * lm ≡ lb + lt → tr ≡ tm → tm + 2 * mn ≡ mb + mt
          → s + 2 * lm ≡ h + 2 * (side - mn)
      sums s h lb lt lm mb mt mn tl tr tm a c d e f g i = omega arith

-- ---- a walk has corners on all sides of the cells that it encloses

module _ (o : Outline) (h : WalkFromW o) (up : letter_at o 0 ≡ 1) where
  -- Right of an enclosed cell
  right-from : (d c r : ℕ) → c + d ≡ side → encloses o c r ≡ true → (i : ℕ) × (i < size o) × (c < (corner_at o i).col)
  right-from zero c r e m = absurd (true≢false (sym m ∙ open-right o h.walked c r (omega arith)))
  right-from (suc d) c r e m = go (encloses o (suc c) r) refl (right-from d (suc c) r (omega arith))
    where
      go :
          (f : Bool) → encloses o (suc c) r ≡ f
          → (encloses o (suc c) r ≡ true → (i : ℕ) × (i < size o) × (suc c < (corner_at o i).col))
          → (i : ℕ) × (i < size o) × (c < (corner_at o i).col)
      go true f more = let (i, l, k) = more f in (i, l, omega arith)
      go false f more =
          let a = enclosed-level o (at c r) m in
          let u = ups-jump-vertical o (suc c) (suc r) in
          let v = downs-jump-vertical o (suc c) (suc r) in
          elim (dec_le 1 (downs_at o (suc c) (suc r))) [
            | yes k ↦
                let (i, l, _, q) = downs-found o (suc c) (suc r) k in
                (i, l, omega (arith, ap (λ (p : Point). p.col) q))
            | no k ↦
                elim (level o h.walked 0 (from-w-lowest o h) up (suc (suc c)) (suc r)) [
                  | inl z ↦ absurd (omega arith)
                  | inr z ↦ absurd (true≢false (sym (level-enclosed o (at (suc c) r) z) ∙ f))
                ]
          ]

  pub right-of-cell : (c r : ℕ) → encloses o c r ≡ true → (i : ℕ) × (i < size o) × (c < (corner_at o i).col)
  right-of-cell c r m =
      elim (dec_le side c) [
        | yes l ↦ absurd (true≢false (sym m ∙ open-right o h.walked c r l))
        | no l ↦ right-from (side - c) c r (omega arith) m
      ]

  pub above-cell : (c r : ℕ) → encloses o c r ≡ true → (i : ℕ) × (i ≤ size o) × ((corner_at o i).row ≡ suc r)
  unfolding step
  above-cell c r m =
      let (i, (l, e), _, d) = up-counted o c r m in
      let q = ap (λ (p : Point). p.row) (corner-suc o i l ∙ ap (step (corner_at o i)) e) in
      (suc i, l, omega arith)

  pub below-cell : (c r : ℕ) → encloses o c r ≡ true → (i : ℕ) × (i ≤ size o) × ((corner_at o i).row ≡ r)
  below-cell c r m = let (i, (l, _), _, d) = up-counted o c r m in (i, omega arith, d)

pub length-border : (o : Outline) → Simple o → size (border o) ≡ size o
unfolding from_w
length-border o h =
    let v = clockwise_form o in
    let k = west_place v in
    let l = (west-first v (walked v (simple-form o h))).below in
    length-rotation v k (omega arith) ∙ length-form o

-- ---- an outline and the outline round its hull

-- Some marked cell is at least as far right
furthest-right : (marked : ℕ → ℕ → Bool) (x : Point) → InHull marked x → (y : Point) × (marked y.col y.row ≡ true) × (x.col ≤ y.col)
furthest-right marked x h =
    let p = h.p in
    let q = h.q in
    let t = h.t in
    elim (dec_le x.col p.col) [
      | yes a ↦ (p, h.p_marked, a)
      | no a ↦
          elim (dec_le x.col q.col) [
            | yes b ↦ (q, h.q_marked, b)
            | no b ↦
                elim (dec_le x.col t.col) [
                  | yes c ↦ (t, h.t_marked, c)
                  | no c ↦
                      let k = h.triangle in
                      absurd (omega (
                        arith,
                        mean-at-most k.a k.b k.c x.col p.col q.col t.col (pred x.col) k.above_zero k.cols
                            (omega arith) (omega arith) (omega arith),
                      ))
                ]
          ]
    ]

module _ (o : Outline) (h : Simple o) (lo hi : ℕ → ℕ) (b t : ℕ) (e : Ends (block o) lo hi b t) where
  abbrev v : Outline
  v = border o

  is-from-w : WalkFromW (border o)
  is-from-w = from-w-of (clockwise_form o) (simple-form o h)

  is_up : letter_at (border o) 0 ≡ 1
  is_up = leaves-upwards (border o) (clockwise-form o h)

  encl : (c r : ℕ) → block o c r ≡ true → encloses (border o) c r ≡ true
  encl c r m = block-from-w o h c r ∙ m

  abbrev wide : Rows (hull_left lo b t) (hull_right hi b t) b t
  wide = hull-rows lo hi b t e.rows

  -- No cell of the hull is left of W
  not_left : (x : Point) → InHull (block o) x → (border o).start.col ≤ x.col
  not_left x k =
      let g = k.triangle in
      mean-at-least g.a g.b g.c x.col k.p.col k.q.col k.t.col (border o).start.col g.above_zero g.cols
      (cell k.p k.p_marked) (cell k.q k.q_marked) (cell k.t k.t_marked)
    where
      cell : (y : Point) → block o y.col y.row ≡ true → (border o).start.col ≤ y.col
      cell y m =
          elim (dec_le (border o).start.col y.col) [
            | yes l ↦ l
            | no l ↦
                absurd (true≢false (sym (encl y.col y.row m) ∙ left-of-anchor (border o) is-from-w y.col y.row (omega arith)))
          ]

  hull-at : (c r : ℕ) → b ≤ r → r < t → hull_left lo b t r ≤ c → c < hull_right hi b t r → InHull (block o) (at c r)
  hull-at c r k l m n = (hull-iff (block o) lo hi b t e (at c r)).1 (record { above = k; below = l; begun = m; before = n })

  -- The border has corners on all sides of the hull's cells
  corner-right : (c r : ℕ) → InHull (block o) (at c r) → (i : ℕ) × (i ≤ size (border o)) × (suc c ≤ (corner_at (border o) i).col)
  corner-right c r k =
      let (y, m, far) = furthest-right (block o) (at c r) k in
      let (i, l, right) = right-of-cell (border o) is-from-w is_up y.col y.row (encl y.col y.row m) in
      (i, omega arith, omega arith)

  corner-left : (c r : ℕ) → InHull (block o) (at c r) → (corner_at (border o) 0).col ≤ c
  corner-left c r k = rw corner-zero (not_left (at c r) k)

  corner-low : b < t → (i : ℕ) × (i ≤ size (border o)) × ((corner_at (border o) i).row ≡ b)
  corner-low l = below-cell (border o) is-from-w is_up (lo b) b (encl (lo b) b (e.first b (omega arith) l))

  corner-high : b < t → (i : ℕ) × (i ≤ size (border o)) × ((corner_at (border o) i).row ≡ suc (pred t))
  corner-high l =
      above-cell (border o) is-from-w is_up (lo (pred t)) (pred t)
      (encl (lo (pred t)) (pred t) (e.first (pred t) (omega arith) (omega arith)))

  pub hull-shorter : size (outline_of (hull_left lo b t) (hull_right hi b t) b t) ≤ size o
  hull-shorter =
      let l : b < t = e.rows.below in
      let m = least-of (hull_left lo b t) b t l in
      let n = least-of (hull_left (λ s. side - hi s) b t) b t l in
      let nonempty = wide.nonempty n.at n.low n.high in
      let (j, j-le, right) =
      corner-right (pred (hull_right hi b t n.at)) n.at (hull-at _ n.at n.low n.high (omega arith) (omega arith)) in
      let (k, k-le, low) = corner-low l in
      let (i, i-le, high) = corner-high l in
      sums l (omega arith) (hull-letters lo hi b t e.rows m n)
      (corner-left (hull_left lo b t m.at) m.at
      (hull-at _ m.at m.low m.high (omega arith) (wide.nonempty m.at m.low m.high)))
      right low high
      (perimeter (border o) is-from-w.walked.closed 0 j k i (omega arith) j-le k-le i-le)
      (length-border o h)
    where
      sums :
          {s s' s'' lm rn c₀ c₁ r₀ r₁ : ℕ} → b < t → 0 < rn → s + 2 * lm ≡ 2 * (t - b) + 2 * rn → c₀ ≤ lm → suc (pred rn) ≤ c₁ → r₀ ≡ b
          → r₁ ≡ suc (pred t)
          → 2 * c₁ + 2 * r₁ ≤ 2 * c₀ + 2 * r₀ + s'' → s'' ≡ s' → s ≤ s'
      sums a z d f g i j k l = omega arith
