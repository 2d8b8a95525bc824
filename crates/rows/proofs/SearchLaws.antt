-- The search up one side ends because each edge ends in a higher row. It reads only rows below the top, so rows that agree there give the
-- same result.
use Rattle.std.proofs.Common.{◌≡◌, ℕ, zero, suc, ◌+◌, ◌-◌, ◌*◌, ◌/◌, ◌<◌, ◌≤◌, Bool, true, false, cond, ltb, sym, refl, ap, ◌∙◌, inl, inr, div-lt_iff_lt-mul, mul-le-mul, mul-le-mul_left, arith, le-ltb, lt-ltb, le-leb}
use native.Mathlib.Decide.{dec_lt}
use borrow.Author.Tests.{lt-leb}
use Rattle.base.proofs.BelowLaws.{below_suc, first-same, first-none, first-is}
use Rattle.chart.specs.declared.Point.{Point}
use Rattle.rows.specs.Search.{as_far_left, furthest, crossing, gap_row, chain, lowest_gap}
use Rattle.chart.specs.Limits.{side}
use Rattle.chart.specs.Outline.{at}

-- A 16-bit number times a count of rows
pub product_small : (a d : ℕ) → a < 65536 → d < 256 → a * d ≤ 16711425
product_small a d h k =
    let x : a ≤ 65535 = omega arith in
    let y : d ≤ side = omega arith in
    mul-le-mul x y

-- A mean of two numbers below b, rounded up, is below b
mean-small : (u v x y b : ℕ) → 0 < u + v → x < b → y < b → (u * x + v * y + (u + v - 1)) / (u + v) < b
mean-small u v x y b pos h k = (div-lt_iff_lt-mul pos).1 (omega (arith, mul-le-mul_left u h, mul-le-mul_left v k))

pub crossing-small : (lo : ℕ → ℕ) (i j r b : ℕ) → i < j → i ≤ r → r ≤ j → lo i < b → lo j < b → crossing lo i j r < b
unfolding crossing
crossing-small lo i j r b l m n h k =
    let d : j - i ≡ (j - r) + (r - i) = omega arith in rw d (mean-small (j - r) (r - i) (lo i) (lo j) b (omega arith) h k)

module _ (lo : ℕ → ℕ) (i : ℕ) where
  pub furthest-above : (j k n : ℕ) → i < j → i < k → i < furthest lo i j k n
  unfolding furthest
  furthest-above j k zero h l = h
  furthest-above j k (suc n) h l = go (as_far_left lo i j k) (λ m. λ (g : i < m). furthest-above m (suc k) n g (omega arith))
    where
      go : (b : Bool) → ((m : ℕ) → i < m → i < furthest lo i m (suc k) n) → i < furthest lo i (cond b k j) (suc k) n
      go true rest = rest k l
      go false rest = rest j h

  pub furthest-below : (t j k n : ℕ) → j < t → k + n ≤ t → furthest lo i j k n < t
  unfolding furthest
  furthest-below t j k zero h l = h
  furthest-below t j k (suc n) h l = go (as_far_left lo i j k) (λ m. λ (g : m < t). furthest-below t m (suc k) n g (omega arith))
    where
      go : (b : Bool) → ((m : ℕ) → m < t → furthest lo i m (suc k) n < t) → furthest lo i (cond b k j) (suc k) n < t
      go true rest = rest k (omega arith)
      go false rest = rest j h

  -- If no row is left, and if row k is the next
  pub furthest-end : (t j k : ℕ) → t ≤ k → furthest lo i j k (t - k) ≡ j
  unfolding furthest
  furthest-end t j k h = let e : t - k ≡ 0 = omega arith in rw e

  pub furthest-next :
      (t j k : ℕ) (b : Bool) → k < t → as_far_left lo i j k ≡ b → furthest lo i j k (t - k) ≡ furthest lo i (cond b k j) (k + 1) (t - (k + 1))
  unfolding furthest
  furthest-next t j k b h l =
      let n = t - (k + 1) in
      let e : t - k ≡ suc n = omega arith in
      let d : suc k ≡ k + 1 = omega arith in
      let s : furthest lo i j k (suc n) ≡ furthest lo i (cond (as_far_left lo i j k) k j) (suc k) n = refl in
      cc

-- The upper end of the hull edge that starts at row i
abbrev pub edge_end : (ℕ → ℕ) → ℕ → ℕ → ℕ
edge_end lo t i = furthest lo i (suc i) (suc (suc i)) (t - suc (suc i))

pub edge-above : (lo : ℕ → ℕ) (t i : ℕ) → i < edge_end lo t i
edge-above lo t i = furthest-above lo i (suc i) (suc (suc i)) (t - suc (suc i)) (omega arith) (omega arith)

pub edge-below : (lo : ℕ → ℕ) (t i : ℕ) → suc i < t → edge_end lo t i < t
edge-below lo t i h = furthest-below lo i t (suc i) (suc (suc i)) (t - suc (suc i)) h (omega arith)

-- No row after i and before r begins right of the line from row i to row j
pub NoGap : (ℕ → ℕ) → ℕ → ℕ → ℕ → Type 0
NoGap lo i j r = (k : ℕ) → i < k → k < r → lo k ≤ crossing lo i j k

module _ (lo : ℕ → ℕ) (i j : ℕ) where
  pub no-gap-start : NoGap lo i j (i + 1)
  unfolding NoGap
  no-gap-start k h l = absurd (omega arith)

  pub no-gap-next : (r : ℕ) → NoGap lo i j r → lo r ≤ crossing lo i j r → NoGap lo i j (r + 1)
  unfolding NoGap
  no-gap-next r g h k l m = elim (below_suc k r (omega arith)) [ inl e ↦ rw e h | inr n ↦ g k l n ]

  pub gap_row-none : i < j → NoGap lo i j j → gap_row lo i j ≡ j
  unfolding NoGap gap_row
  gap_row-none h g =
      omega (
        arith,
        first-none (λ k. ltb (crossing lo i j (suc i + k)) (lo (suc i + k))) (j - suc i)
            (λ k l. le-ltb (crossing lo i j (suc i + k)) (lo (suc i + k)) (g (suc i + k) (omega arith) (omega arith))),
      )

  pub gap_row-found : (r : ℕ) → i < r → r < j → NoGap lo i j r → crossing lo i j r < lo r → gap_row lo i j ≡ r
  unfolding NoGap gap_row
  gap_row-found r h l g f =
      let e : suc i + (r - suc i) ≡ r = omega arith in
      ap (λ (n : ℕ). suc i + n)
      (first-is (λ k. ltb (crossing lo i j (suc i + k)) (lo (suc i + k)))
      (j - suc i)
      (r - suc i)
      (omega arith)
      (λ k m. le-ltb (crossing lo i j (suc i + k)) (lo (suc i + k)) (g (suc i + k) (omega arith) (omega arith)))
      (rw e (lt-ltb (crossing lo i j r) (lo r) f)))
      ∙ e

-- The first row across that edge that begins right of it, or the edge's upper end
abbrev pub edge_gap : (ℕ → ℕ) → ℕ → ℕ → ℕ
edge_gap lo t i = gap_row lo i (edge_end lo t i)

-- One step of the search: there is no row above, a gap is found, or the search goes on from the edge's upper end
data Edge (lo : ℕ → ℕ) (t i : ℕ) : Type 0 where
  done : t ≤ suc i → Edge lo t i
  gap : suc i < t → edge_gap lo t i < edge_end lo t i → Edge lo t i
  on : suc i < t → edge_end lo t i ≤ edge_gap lo t i → Edge lo t i

module _ (lo : ℕ → ℕ) (t i : ℕ) where
  edge : Edge lo t i
  edge =
      elim (dec_lt (suc i) t) [
        | no l ↦ done (omega arith)
        | yes l ↦ elim (dec_lt (edge_gap lo t i) (edge_end lo t i)) [ yes g ↦ gap l g | no g ↦ on l (omega arith) ]
      ]

  chain-zero : chain lo t i 0 ≡ at 0 t
  unfolding chain
  chain-zero = refl

  pub chain-done : (n : ℕ) → t ≤ suc i → chain lo t i n ≡ at 0 t
  unfolding chain
  chain-done zero h = refl
  chain-done (suc n) h = simp (le-leb t (suc i) h)

  pub chain-gap :
      (n : ℕ) → suc i < t → edge_gap lo t i < edge_end lo t i →
      chain lo t i (suc n) ≡ at (crossing lo i (edge_end lo t i) (edge_gap lo t i)) (edge_gap lo t i)
  unfolding chain
  chain-gap n h g = simp (lt-leb t (suc i) h, lt-ltb (edge_gap lo t i) (edge_end lo t i) g)

  pub chain-on : (n : ℕ) → suc i < t → edge_end lo t i ≤ edge_gap lo t i → chain lo t i (suc n) ≡ chain lo t (edge_end lo t i) n
  unfolding chain
  chain-on n h g = simp (lt-leb t (suc i) h, le-ltb (edge_gap lo t i) (edge_end lo t i) g)

-- Any bound on the number of edges gives the same result if it is at least the number of rows above
pub chain-fuel : (lo : ℕ → ℕ) (t i m n : ℕ) → t ≤ i + m → t ≤ i + n → chain lo t i m ≡ chain lo t i n
chain-fuel lo t i zero n h k = chain-done lo t i 0 (omega arith) ∙ sym (chain-done lo t i n (omega arith))
chain-fuel lo t i (suc m) zero h k = chain-done lo t i (suc m) (omega arith) ∙ sym (chain-done lo t i 0 (omega arith))
chain-fuel lo t i (suc m) (suc n) h k =
    elim (edge lo t i) [
      | done l ↦ chain-done lo t i (suc m) l ∙ sym (chain-done lo t i (suc n) l)
      | gap l g ↦ chain-gap lo t i m l g ∙ sym (chain-gap lo t i n l g)
      | on l g ↦
          chain-on lo t i m l g
          ∙ chain-fuel lo t (edge_end lo t i) m n (omega (arith, edge-above lo t i)) (omega (arith, edge-above lo t i))
          ∙ sym (chain-on lo t i n l g)
    ]

-- An edge from row i to row j, and the first row r that begins right of it
module _ (lo : ℕ → ℕ) (t i j r : ℕ) (above : suc i < t) (end : j ≡ edge_end lo t i) (next : r ≡ gap_row lo i j) where
  at_edge : r ≡ edge_gap lo t i
  at_edge = next ∙ ap (gap_row lo i) end

  pub chain-stops : r < j → chain lo t i (t - i) ≡ at (crossing lo i j r) r
  chain-stops h =
      let d : t - i ≡ suc (t - suc i) = omega arith in
      let e = at_edge in
      let f = chain-gap lo t i (t - suc i) above (omega arith) in
      cc

  pub chain-goes-on : j ≤ r → chain lo t i (t - i) ≡ chain lo t j (t - j)
  chain-goes-on h =
      let d : t - i ≡ suc (t - suc i) = omega arith in
      let e = at_edge in
      let f = chain-on lo t i (t - suc i) above (omega arith) in
      let g = chain-fuel lo t j (t - suc i) (t - j) (omega (arith, edge-above lo t i)) (omega arith) in
      cc

-- The search ends at row t or below
pub chain-row-le : (lo : ℕ → ℕ) (t i n : ℕ) → (chain lo t i n).row ≤ t
chain-row-le lo t i zero = rw chain-zero (omega arith)
chain-row-le lo t i (suc n) =
    elim (edge lo t i) [
      | done l ↦ rw (chain-done lo t i (suc n) l) (omega arith)
      | gap l g ↦ rw (chain-gap lo t i n l g) (omega (arith, edge-below lo t i l))
      | on l g ↦ rw (chain-on lo t i n l g) (chain-row-le lo t (edge_end lo t i) n)
    ]

-- Rows with the same first columns below the top give the same result
module _ (f g : ℕ → ℕ) (t : ℕ) (same : (r : ℕ) → r < t → f r ≡ g r) where
  as-far-left-same : (i j k : ℕ) → i < t → j < t → k < t → as_far_left f i j k ≡ as_far_left g i j k
  unfolding as_far_left
  as-far-left-same i j k a b c = rw (same i a, same j b, same k c)

  furthest-same : (i j k n : ℕ) → i < t → j < t → k + n ≤ t → furthest f i j k n ≡ furthest g i j k n
  unfolding furthest
  furthest-same i j k zero a b c = refl
  furthest-same i j k (suc n) a b c =
      rw (as-far-left-same i j k a b (omega arith))
      (go (as_far_left g i j k) (λ m. λ (l : m < t). furthest-same i m (suc k) n a l (omega arith)))
    where
      go :
          (b : Bool) → ((m : ℕ) → m < t → furthest f i m (suc k) n ≡ furthest g i m (suc k) n) →
          furthest f i (cond b k j) (suc k) n ≡ furthest g i (cond b k j) (suc k) n
      go true rest = rest k (omega arith)
      go false rest = rest j b

  pub edge_end-same : (i : ℕ) → suc i < t → edge_end f t i ≡ edge_end g t i
  edge_end-same i h = furthest-same i (suc i) (suc (suc i)) (t - suc (suc i)) (omega arith) h (omega arith)

  pub crossing-same : (i j r : ℕ) → i < t → j < t → crossing f i j r ≡ crossing g i j r
  unfolding crossing
  crossing-same i j r a b = rw (same i a, same j b)

  gap_row-same : (i j : ℕ) → i < t → j < t → gap_row f i j ≡ gap_row g i j
  unfolding gap_row
  gap_row-same i j a b =
      ap (λ (n : ℕ). suc i + n)
      (first-same
      (λ k. ltb (crossing f i j (suc i + k)) (f (suc i + k)))
      (λ k. ltb (crossing g i j (suc i + k)) (g (suc i + k)))
      (j - suc i)
      (λ k l. cc (crossing-same i j (suc i + k) a b, same (suc i + k) (omega arith))))

  edge_gap-same : (i : ℕ) → suc i < t → edge_gap f t i ≡ edge_gap g t i
  edge_gap-same i h = gap_row-same i (edge_end f t i) (omega arith) (edge-below f t i h) ∙ ap (gap_row g i) (edge_end-same i h)

  pub chain_same : (i n : ℕ) → chain f t i n ≡ chain g t i n
  chain_same i zero = chain-zero f t i ∙ sym (chain-zero g t i)
  chain_same i (suc n) =
      elim (edge f t i) [
        | done l ↦ chain-done f t i (suc n) l ∙ sym (chain-done g t i (suc n) l)
        | gap l h ↦
            let d = edge_end-same i l in
            let e = edge_gap-same i l in
            let x = chain-gap f t i n l h in
            let y = chain-gap g t i n l (omega arith) in
            cc (crossing-same i (edge_end f t i) (edge_gap f t i) (omega arith) (edge-below f t i l))
        | on l h ↦
            let d = edge_end-same i l in
            let e = edge_gap-same i l in
            chain-on f t i n l h
            ∙ chain_same (edge_end f t i) n
            ∙ ap (λ (j : ℕ). chain g t j n) d
            ∙ sym (chain-on g t i n l (omega arith))
      ]

-- The lower gap, from the result p of the search up the left side and the result q of the search up the mirror image m of the right side
module _ (lo hi m : ℕ → ℕ) (b t : ℕ) (p q : Point) (mirror : (r : ℕ) → r < t
    → m r ≡ side - hi r) (left : p ≡ chain lo t b (t - b)) (right : q ≡ chain m t b (t - b)) where
  right-row : q ≡ chain (λ r. side - hi r) t b (t - b)
  right-row = right ∙ chain_same m (λ r. side - hi r) t mirror b (t - b)

  pub lowest_gap-left : p.row ≤ q.row → p ≡ lowest_gap lo hi b t
  unfolding lowest_gap
  lowest_gap-left h = rw (← left, ← right-row, le-leb p.row q.row h)

  pub lowest_gap-right : q.row < p.row → at (hi q.row) q.row ≡ lowest_gap lo hi b t
  unfolding lowest_gap
  lowest_gap-right h = rw (← left, ← right-row, lt-leb p.row q.row h)

-- Rows with the same ends below the top have the same lower gap
pub lowest_gap-same :
    (lo hi lo' hi' : ℕ → ℕ) (b t : ℕ) → ((r : ℕ) → r < t → lo r ≡ lo' r) → ((r : ℕ) → r < t → hi r ≡ hi' r)
    → lowest_gap lo hi b t ≡ lowest_gap lo' hi' b t
lowest_gap-same lo hi lo' hi' b t begin end =
    let m : ℕ → ℕ = λ r. side - hi r in
    let p = chain lo t b (t - b) in
    let q = chain m t b (t - b) in
    let mirror : (r : ℕ) → r < t → m r ≡ side - hi' r = λ r h. ap (λ (x : ℕ). side - x) (end r h) in
    let left : p ≡ chain lo' t b (t - b) = chain_same lo lo' t begin b (t - b) in
    elim (dec_lt q.row p.row) [
      | no h ↦
          sym (lowest_gap-left lo hi m b t p q (λ r l. refl) refl refl (omega arith))
          ∙ lowest_gap-left lo' hi' m b t p q mirror left refl (omega arith)
      | yes h ↦
          sym (lowest_gap-right lo hi m b t p q (λ r l. refl) refl refl h)
          ∙ ap (λ (x : ℕ). at x q.row) (end q.row (omega (arith, chain-row-le lo t b (t - b))))
          ∙ lowest_gap-right lo' hi' m b t p q mirror left refl h
    ]
