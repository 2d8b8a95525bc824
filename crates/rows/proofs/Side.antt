-- The search up the left side finds the lowest row with a hull cell left of it, because the whole hull is right of each edge of that side.
-- An edge goes from row i to the row j that is furthest left, seen from row i. The rows above i are right of this line by the choice of j,
-- and the rows below because row i is a corner of the hull. A cell right of the line and left of its row's first cell is in the hull.
use Rattle.std.proofs.Common.{◌≡◌, ℕ, zero, suc, ◌+◌, ◌-◌, ◌*◌, ◌<◌, ◌≤◌, Bool, true, false, cond, ltb, leb, ◌↔◌, refl, ap, inl, inr, le_trans, le_of_lt, div-lt_iff_lt-mul, arith, ltb-false, ltb-true, leb-false, leb-true}
use native.Mathlib.Decide.{dec_lt}
use Rattle.base.proofs.BelowLaws.{below_suc, first-le, first_found, first-before}
use Rattle.chart.specs.declared.Point.{Point}
use Rattle.lattice.specs.Hull.{InHull}
use Rattle.rows.specs.parts.Rows.{in_rows}
use Rattle.rows.specs.Search.{as_far_left, furthest, crossing, gap_row, chain}
use Rattle.rows.proofs.Line.{Right, right-from, right-between, right-trans, right-turn, right-start, right_end, right-cycle}
use Rattle.rows.proofs.Line.{right-of-start, right-of-end, right-in-triangle}
use Rattle.rows.proofs.Rows.{Rows, begin, begin-marked, hull-right}

-- Of rows i + 1 to k - 1, row j is the furthest left, seen from row i
pub record Furthest (lo : ℕ → ℕ) (i j k : ℕ) : Type 0 where
  pub above : i < j
  pub below : j < k
  pub right : (r : ℕ) → i < r → r < k → Right (begin lo i) (begin lo j) (begin lo r)

pub as-far-left-true : (lo : ℕ → ℕ) (i j k : ℕ) → i ≤ j → i ≤ k → as_far_left lo i j k ≡ true → Right (begin lo i) (begin lo k) (begin lo j)
unfolding as_far_left
as-far-left-true lo i j k l m e = (right-from m l).1 (record { le = leb-true _ _ e })

as-far-left-false : (lo : ℕ → ℕ) (i j k : ℕ) → i ≤ j → i ≤ k → as_far_left lo i j k ≡ false → Right (begin lo i) (begin lo j) (begin lo k)
unfolding as_far_left
as-far-left-false lo i j k l m e = (right-from l m).1 (record { le = le_of_lt (leb-false _ _ e) })

furthest-step : (lo : ℕ → ℕ) (i j k : ℕ) → Furthest lo i j k → Furthest lo i (cond (as_far_left lo i j k) k j) (suc k)
furthest-step lo i j k f = go (as_far_left lo i j k) refl
  where
    go : (b : Bool) → as_far_left lo i j k ≡ b → Furthest lo i (cond b k j) (suc k)
    go true e =
        record {
          above = omega arith;
          below = omega arith;
          right = λ r l m. elim (below_suc r k m) [
            | inl d ↦ rw d right_end
            | inr m' ↦
                right-trans f.above (omega arith) (omega arith) (as-far-left-true lo i j k (omega arith) (omega arith) e)
                (f.right r l m')
          ];
        }
    go false e =
        record {
          above = f.above;
          below = omega arith;
          right = λ r l m. elim (below_suc r k m) [
            | inl d ↦ rw d (as-far-left-false lo i j k (omega arith) (omega arith) e)
            | inr m' ↦ f.right r l m'
          ];
        }

furthest-more : (lo : ℕ → ℕ) (i j k n t : ℕ) → k + n ≡ t → Furthest lo i j k → Furthest lo i (furthest lo i j k n) t
unfolding furthest
furthest-more lo i j k zero t e f =
    let e' : k ≡ t = omega arith in
    rw e' at f
furthest-more lo i j k (suc n) t e f =
    furthest-more lo i (cond (as_far_left lo i j k) k j) (suc k) n t (omega arith) (furthest-step lo i j k f)

pub furthest-start : (lo : ℕ → ℕ) (i : ℕ) → Furthest lo i (suc i) (suc (suc i))
furthest-start lo i =
    record { above = omega arith; below = omega arith; right = λ r l m. let e : r ≡ suc i = omega arith in rw e right_end }

pub furthest-furthest : (lo : ℕ → ℕ) (i t : ℕ) → suc i < t → Furthest lo i (furthest lo i (suc i) (suc (suc i)) (t - suc (suc i))) t
furthest-furthest lo i t h = furthest-more lo i (suc i) (suc (suc i)) (t - suc (suc i)) t (omega arith) (furthest-start lo i)

-- A cell of row r is right of the line from row i to row j exactly if its column is at least the crossing
pub crossing-le : (lo : ℕ → ℕ) (i j r c : ℕ) → i < j → i ≤ r → r ≤ j
    → (crossing lo i j r ≤ c) ↔ Right (begin lo i) (begin lo j) (record { col = c; row = r })
unfolding crossing
crossing-le lo i j r c l m n =
    let e = right-between {p = begin lo i} {q = begin lo j} {x = record { col = c; row = r }} m n in
    let d = div-lt_iff_lt-mul {k = j - i} {x = (j - r) * lo i + (r - i) * lo j + (j - i - 1)} {y = suc c} (omega arith) in
    let s : j - i ≡ r - i + (j - r) = omega arith in
    let f = ap (λ n. c * n) s in
    (λ h. e.1 (record { le = omega (arith, f, d.0 (omega arith)) }), λ h. omega (arith, d.1 (omega (arith, f, e.0 h))))

-- Row i is a corner of the left side: no line from a row below it to a row above it passes left of its first cell
abbrev pub Corner : (ℕ → ℕ) → ℕ → ℕ → ℕ → Type 0
Corner lo b t i = (r k : ℕ) → b ≤ r → r < i → i < k → k < t → Right (begin lo r) (begin lo i) (begin lo k)

-- Every row is right of the line from row i to row j
abbrev pub Edge : (ℕ → ℕ) → ℕ → ℕ → ℕ → ℕ → Type 0
Edge lo b t i j = (r : ℕ) → b ≤ r → r < t → Right (begin lo i) (begin lo j) (begin lo r)

pub furthest-edge : (lo : ℕ → ℕ) (b t i j : ℕ) → Corner lo b t i → Furthest lo i j t → Edge lo b t i j
furthest-edge lo b t i j c f r h l =
    elim (dec_lt r i) [
      | yes m ↦ right-cycle (c r j h m f.above f.below)
      | no m ↦ elim (dec_lt i r) [
        | yes m' ↦ f.right r m' l
        | no m' ↦ let e : r ≡ i = omega arith in rw e right-start
      ]
    ]

pub edge-corner : (lo : ℕ → ℕ) (b t i j : ℕ) → i < j → Edge lo b t i j → Corner lo b t j
edge-corner lo b t i j l e r k h m n o =
    right-turn {p = begin lo i} l (omega arith) (omega arith) (e r h (omega arith)) (e k (omega arith) o)

-- r is the first row after i and before j that begins right of the line, or j if there is none
record GapRow (lo : ℕ → ℕ) (i j r : ℕ) : Type 0 where
  above : i < r
  below : r ≤ j
  found : r < j → crossing lo i j r < lo r
  before : (s : ℕ) → i < s → s < r → lo s ≤ crossing lo i j s

gap_row-gap : (lo : ℕ → ℕ) (i j : ℕ) → i < j → GapRow lo i j (gap_row lo i j)
unfolding gap_row
gap_row-gap lo i j l =
    let f : ℕ → Bool = λ k. ltb (crossing lo i j (suc i + k)) (lo (suc i + k)) in
    let m = first-le f (j - suc i) in
    record {
      above = omega arith;
      below = omega arith;
      found = λ h. ltb-true _ _ (first_found f (j - suc i) (omega arith));
      before = λ s h k.
          let e : s ≡ suc i + (s - suc i) = omega arith in
          rw e (ltb-false _ _ (first-before f (j - suc i) (s - suc i) (omega arith)));
    }

-- What the search from row i finds: in the first row that has hull cells left of it, the leftmost of these. If there is no such row, a cell
-- of row t
pub record Left (lo hi : ℕ → ℕ) (b t i : ℕ) (g : Point) : Type 0 where
  pub clear : (y : Point) → InHull (in_rows lo hi b t) y → i ≤ y.row → y.row < g.row → lo y.row ≤ y.col
  pub left : g.row < t → g.col < lo g.row
  pub reach : g.row < t → (c : ℕ) → g.col ≤ c → c < lo g.row → InHull (in_rows lo hi b t) (record { col = c; row = g.row })
  pub furthest : g.row < t → (y : Point) → InHull (in_rows lo hi b t) y → y.row ≡ g.row → g.col ≤ y.col

module _ (lo hi : ℕ → ℕ) (b t : ℕ) (rows : Rows lo hi b t) where
  -- No hull cell is left of row i
  abbrev Clear : ℕ → Type 0
  Clear i = (y : Point) → InHull (in_rows lo hi b t) y → y.row ≡ i → lo i ≤ y.col

  -- No hull cell is left of the crossing in its row
  edge-crossing : (i j : ℕ) → i < j → Edge lo b t i j → (y : Point) → InHull (in_rows lo hi b t) y → i ≤ y.row → y.row ≤ j
      → crossing lo i j y.row ≤ y.col
  edge-crossing i j l e y h m n = (crossing-le lo i j y.row y.col l m n).1 (hull-right rows h (omega arith) e)

  -- A cell at or right of the crossing and left of its row is in the hull
  crossing-reach : (i j r : ℕ) → i < r → r < j → b ≤ i → j < t → (c : ℕ) → crossing lo i j r ≤ c → c < lo r
      → InHull (in_rows lo hi b t) (record { col = c; row = r })
  crossing-reach i j r l m h k c n o =
      record {
        p = begin lo i;
        q = begin lo j;
        t = begin lo r;
        p_marked = begin-marked rows i (omega arith) (omega arith);
        q_marked = begin-marked rows j (omega arith) (omega arith);
        t_marked = begin-marked rows r (omega arith) (omega arith);
        triangle =
            right-in-triangle (omega arith) (omega arith) (omega arith) refl o
            ((crossing-le lo i j r c (omega arith) (omega arith) (omega arith)).0 n);
      }

  bottom-corner : Corner lo b t b
  bottom-corner r k h l m n = absurd (omega arith)

  -- An edge starts at the bottom row, or it is the only row
  bottom-clear : Clear b
  bottom-clear y h e =
      elim (dec_lt (suc b) t) [
        | yes l ↦
            let f = furthest-furthest lo b t l in
            right-of-start f.above e (hull-right rows h (omega arith) (furthest-edge lo b t b _ bottom-corner f))
        | no l ↦
            let right : (r : ℕ) → b ≤ r → r < t → Right (begin lo b) (record { col = lo b; row = suc b }) (begin lo r)
            = λ r m n. let d : r ≡ b = omega arith in rw d right-start in
            right-of-start {q = record { col = lo b; row = suc b }} (omega arith) e (hull-right rows h (omega arith) right)
      ]

  -- The search stops at row r of the edge from row i to row j, or goes on from row j
  chain-edge : (i j r : ℕ) (g : Point) → b ≤ i → j < t → Edge lo b t i j → GapRow lo i j r → Clear i →
      (Corner lo b t j → Clear j → Left lo hi b t j g) →
      Left lo hi b t i (cond (ltb r j) (record { col = crossing lo i j r; row = r }) g)
  chain-edge i j r g h l e p c rest = go (ltb r j) refl
    where
      clear : (y : Point) → InHull (in_rows lo hi b t) y → i ≤ y.row → y.row < r → lo y.row ≤ y.col
      clear y k m n =
          elim (dec_lt i y.row) [
            | yes o ↦ le_trans (p.before y.row o n) (edge-crossing i j (omega arith) e y k m (omega arith))
            | no o ↦ let d : y.row ≡ i = omega arith in rw d (c y k d)
          ]

      go : (a : Bool) → ltb r j ≡ a → Left lo hi b t i (cond a (record { col = crossing lo i j r; row = r }) g)
      go true d =
          let m : r < j = ltb-true r j d in
          record {
            clear = clear;
            left = λ n. p.found m;
            reach = λ n. crossing-reach i j r p.above m h l;
            furthest = λ n y k f. rw f at (edge-crossing i j (omega arith) e y k (omega arith) (omega arith));
          }
      go false d =
          let m : r ≡ j = omega (arith, ltb-false r j d) in
          let n =
          rest (edge-corner lo b t i j (omega arith) e)
          (λ y k f. right-of-end {p = begin lo i} {q = begin lo j} (omega arith) f (hull-right rows k (omega arith) e)) in
          record {
            clear =
                λ y k o q. elim (dec_lt y.row j) [ yes s ↦ clear y k o (omega arith) | no s ↦ n.clear y k (omega arith) q ];
            left = n.left;
            reach = n.reach;
            furthest = n.furthest;
          }

  chain_left : (n i : ℕ) → t ≤ i + n → b ≤ i → i < t → Corner lo b t i → Clear i → Left lo hi b t i (chain lo t i n)
  unfolding chain
  chain_left zero i e h l c k = absurd (omega arith)
  chain_left (suc n) i e h l c k =
      go (leb t (suc i)) refl _ λ m.
      let f = furthest-furthest lo i t m in
      chain-edge i _ _ _ h f.below (furthest-edge lo b t i _ c f) (gap_row-gap lo i _ f.above) k
      (chain_left n _ (omega arith) (omega arith) f.below)
    where
      go : (a : Bool) → leb t (suc i) ≡ a → (g : Point) → (suc i < t → Left lo hi b t i g)
          → Left lo hi b t i (cond a (record { col = 0; row = t }) g)
      go true d g rest =
          record {
            clear = λ y h m o. let f : y.row ≡ i = omega (arith, leb-true t (suc i) d) in rw f (k y h f);
            left = λ m. absurd (omega arith);
            reach = λ m. absurd (omega arith);
            furthest = λ m. absurd (omega arith);
          }
      go false d g rest = rest (leb-false t (suc i) d)

  pub chain-bottom : Left lo hi b t b (chain lo t b (t - b))
  chain-bottom = chain_left (t - b) b (omega (arith, rows.below)) (omega arith) rows.below bottom-corner bottom-clear
