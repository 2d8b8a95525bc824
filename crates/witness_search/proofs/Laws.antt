-- The pass over the rows: the current edges go across the current row, and no earlier row has a gap.
use Prim.Native.Nat.{ℕ, suc, pred, ◌+◌, ◌-◌, ◌≤◌, ◌<◌}
use mathlib.Core.Path.{◌≡◌, refl, sym, ap, ◌∙◌, subst}
use mathlib.Core.Bool.{Bool, true, false, cond}
use mathlib.Core.Logic.{inl, inr}
use native.Mathlib.Omega.{arith}
use lib.Dec.{leb, ltb}
use borrow.Author.Tests.{le-leb, lt-ltb, le-ltb}
use Rattle.base.proofs.BelowLaws.{below_suc, first-is, first-none}
use Rattle.chart.specs.Limits.{side}
use Rattle.chart.specs.declared.Point.{Point}
use Rattle.chart.specs.Outline.{at}
use Rattle.lattice.proofs.WalkLaws.{point-eq}
use Rattle.rows.specs.Search.{crossing}
use Rattle.rows.specs.parts.Rows.{Tangents}
use Rattle.rows.proofs.Side.{furthest-furthest}
use Rattle.completion.specs.HullRows.{next_row, hull_left, hull_right}
use Rattle.witness.specs.Three.{Three, lower_end, upper_end, first_in, last_in, from_left, from_right, from_row, three_for}
use Rattle.witness.specs.Gap.{open_column, has_gap, lowest_row, lowest_open}
use Rattle.witness.proofs.Steps.{row-spans, row_first, row_next, lower-same, upper-same, left-same}
use Rattle.witness_search.specs.declared.Shown.{Shown}
use Rattle.witness_search.specs.parts.Answers.{three_by, Shows, Lowest}

-- ---- the three cells

abbrev pub At : Point → ℕ → ℕ → Type 0
At p c r = (p.col ≡ c) × (p.row ≡ r)

is_at : (p : Point) (c r : ℕ) → At p c r → p ≡ at c r
is_at p c r h = point-eq p (at c r) h.0 h.1

cells : {a b d p q u : Point} → a ≡ p → b ≡ q → d ≡ u → ◌≡◌ {A = Three} (record { a = p; b = q; d = u }) (record { a = a; b = b; d = d })
cells e f g z = record { a = sym e z; b = sym f z; d = sym g z }

module _ {lo hi : ℕ → ℕ} {i j k n c r : ℕ} {x a b d : Point} where
  pub shows_left : c < lo r → At x c r → At a (lo i) i → At b (lo j) j → At d (lo r) r → Shows lo hi i j k n c r x a b d
  unfolding three_by first_in last_in
  shows_left l e f g h =
      record {
        is_cell = is_at x c r e;
        three = rw (lt-ltb c (lo r) l) (cells (is_at a (lo i) i f) (is_at b (lo j) j g) (is_at d (lo r) r h));
      }

  pub shows-row : lo r ≤ c → c < hi r → {p : ℕ} → p ≡ pred (hi r) → At x c r → At a (lo r) r → At b p r → At d p r
      → Shows lo hi i j k n c r x a b d
  unfolding three_by first_in last_in
  shows-row l m q e f g h =
      record {
        is_cell = is_at x c r e;
        three =
            rw (le-ltb c (lo r) l, lt-ltb c (hi r) m)
            (cells (is_at a (lo r) r f) (is_at b (pred (hi r)) r (g.0 ∙ q, g.1)) (is_at d (pred (hi r)) r (h.0 ∙ q, h.1)));
      }

  pub shows-right : lo r ≤ c → hi r ≤ c → {p q u : ℕ} → p ≡ pred (hi k) → q ≡ pred (hi n) → u ≡ pred (hi r) → At x c r → At a p k → At b q n
      → At d u r → Shows lo hi i j k n c r x a b d
  unfolding three_by first_in last_in
  shows-right l m s t v e f g h =
      record {
        is_cell = is_at x c r e;
        three =
            rw (le-ltb c (lo r) l, le-ltb c (hi r) m)
            (cells (is_at a (pred (hi k)) k (f.0 ∙ s, f.1)) (is_at b (pred (hi n)) n (g.0 ∙ t, g.1))
            (is_at d (pred (hi r)) r (h.0 ∙ v, h.1)));
      }

-- ---- a current edge

module _ (f : ℕ → ℕ) (b t : ℕ) (two : suc b < t) where
  -- The edge of row r is found from row i, where the edge of the row below starts
  pub record On (i r : ℕ) : Type 0 where
    pub low : b ≤ i
    pub high : suc i < t
    pub row : r < t → cond (leb r (next_row f t i)) i (next_row f t i) ≡ lower_end f b t r

  on-start : On b b
  on-start =
      record {
        low = omega arith;
        high = two;
        row = λ l. rw (le-leb b (next_row f t b) (omega (arith, (furthest-furthest f b t two).above))) (sym (row_first f b t two));
      }

  on-next : (r i : ℕ) → b ≤ r → r < t → i ≡ lower_end f b t r → On i (r + 1)
  on-next r i h l e =
      let s = row-spans f b t two r h l in
      let d : r + 1 ≡ suc r = omega arith in
      subst (λ (z : ℕ). On z (r + 1)) (sym e)
      (record { low = s.from; high = omega (arith, s.rises, s.below); row = λ k. rw d (sym (row_next f b t two r h (omega arith))) })

  -- It goes across the row, and crosses it where the hull begins
  pub record Edge (r i j : ℕ) : Type 0 where
    pub is-low : i ≡ lower_end f b t r
    pub is-high : j ≡ next_row f t (lower_end f b t r)
    pub rises : i < j
    pub above : i ≤ r
    pub under : r ≤ j
    pub below : j < t
    pub starts : b ≤ i

  -- The next row of the table leads to it
  module _ {next : ℕ → ℕ} {i r e : ℕ} (known : Tangents f next b t) (o : On i r) (h : b ≤ r) (l : r < t)
      (g : e ≡ cond (leb r (next i)) i (next i)) where
    is-lower : e ≡ lower_end f b t r
    is-lower = g ∙ ap (λ (z : ℕ). cond (leb r z) i z) (known.furthest_left i o.low o.high) ∙ o.row l

    pub edge-within : (b ≤ e) × (suc e < t)
    edge-within = let s = row-spans f b t two r h l in (omega (arith, is-lower, s.from), omega (arith, is-lower, s.rises, s.below))

    pub edge_of : (j : ℕ) → j ≡ next e → Edge r e j
    edge_of j q =
        let s = row-spans f b t two r h l in
        let d : j ≡ next_row f t (lower_end f b t r) = q ∙ known.furthest_left e edge-within.0 edge-within.1
        ∙ ap (next_row f t) is-lower in
        record {
          is-low = is-lower;
          is-high = d;
          rises = omega (arith, is-lower, s.rises);
          above = omega (arith, is-lower, s.above);
          under = omega (arith, s.under);
          below = omega (arith, s.below);
          starts = omega (arith, is-lower, s.from);
        }

  pub edge-crosses : (r i j x : ℕ) → b ≤ r → r < t → Edge r i j → x ≡ crossing f i j r → x ≡ hull_left f b t r
  edge-crosses r i j x h l g e = e ∙ (λ z. crossing f (g.is-low z) (g.is-high z) r) ∙ sym (row-spans f b t two r h l).crosses

-- ---- the search

module _ (lo en hi m : ℕ → ℕ) (b t : ℕ) (two : suc b < t) (mirrors : (s : ℕ) → s < t → m s ≡ side - hi s) where
  pub record Searching (i k r : ℕ) : Type 0 where
    pub low : b ≤ r
    pub high : r ≤ t
    pub left : On lo b t two i r
    pub right : On m b t two k r
    pub clear : (s : ℕ) → b ≤ s → s < r → has_gap lo en hi b t s ≡ false

  pub searching-start : Searching b b b
  searching-start =
      record {
        low = omega arith;
        high = omega arith;
        left = on-start lo b t two;
        right = on-start m b t two;
        clear = λ s h l. absurd (omega arith);
      }

  -- The edges across row r, the columns u and x where they cross it, and the column c to test
  pub record Across (r i j k n u x c : ℕ) : Type 0 where
    pub low : b ≤ r
    pub high : r < t
    pub left : Edge lo b t two r i j
    pub right : Edge m b t two r k n
    pub crosses-left : u ≡ crossing lo i j r
    pub crosses-right : x ≡ crossing m k n r
    pub is-column : c ≡ cond (ltb u (lo r)) u (en r)

  module _ {r i j k n u x c : ℕ} (a : Across r i j k n u x c) where
    abbrev mirrored : ℕ → ℕ
    mirrored s = side - hi s

    opened : c ≡ open_column lo en hi b t r
    unfolding open_column
    opened = a.is-column
        ∙ ap (λ (z : ℕ). cond (ltb z (lo r)) z (en r)) (edge-crosses lo b t two r i j u a.low a.high a.left a.crosses-left)

    gap_is : (g : Bool) → g ≡ ltb c (side - x) → g ≡ has_gap lo en hi b t r
    unfolding has_gap hull_right
    gap_is g e =
        e ∙ (λ z. ltb (opened z)
        (side - (edge-crosses m b t two r k n x a.low a.high a.right a.crosses-right
        ∙ left-same m mirrored b t mirrors two r a.low a.high) z))

    pub searching-next : ((s : ℕ) → b ≤ s → s < r → has_gap lo en hi b t s ≡ false) → ltb c (side - x) ≡ false → Searching i k (r + 1)
    searching-next clear g =
        record {
          low = omega (arith, a.low);
          high = omega (arith, a.high);
          left = on-next lo b t two r i a.low a.high a.left.is-low;
          right = on-next m b t two r k a.low a.high a.right.is-low;
          clear = λ s h z. elim (below_suc s r (omega arith)) [ inl e ↦ rw e (sym (gap_is _ refl) ∙ g) | inr q ↦ clear s h q ];
        }

    lowest-row : ((s : ℕ) → b ≤ s → s < r → has_gap lo en hi b t s ≡ false) → ltb c (side - x) ≡ true → lowest_row lo en hi b t ≡ r
    unfolding lowest_row
    lowest-row clear g =
        let d : b + (r - b) ≡ r = omega (arith, a.low) in
        ap (λ (z : ℕ). b + z)
        (first-is (λ z. has_gap lo en hi b t (b + z)) (t - b) (r - b) (omega (arith, a.low, a.high))
        (λ z q. clear (b + z) (omega arith) (omega arith)) (ap (has_gap lo en hi b t) d ∙ sym (gap_is _ refl) ∙ g)) ∙ d

    same-three : three_by lo hi i j k n c r ≡ three_for lo hi b t (at c r)
    unfolding three_by three_for from_left from_right from_row first_in last_in upper_end
    same-three =
        let p = a.right.is-low ∙ lower-same m mirrored b t mirrors two r a.low a.high in
        let q = a.right.is-high ∙ upper-same m mirrored b t mirrors two r a.low a.high in
        λ z. three_by lo hi (a.left.is-low z) (a.left.is-high z) (p z) (q z) c r

    pub answers-found : (s : Shown) → ((q : ℕ) → b ≤ q → q < r → has_gap lo en hi b t q ≡ false) → ltb c (side - x) ≡ true
        → Shows lo hi i j k n c r s.cell s.a s.b s.d → Lowest lo en hi b t s
    unfolding lowest_open
    answers-found s clear g h =
        let e = lowest-row clear g in
        record {
          row = omega (arith, a.high);
          lowest =
              h.is_cell
              ∙ point-eq (at c r) (at (open_column lo en hi b t (lowest_row lo en hi b t)) (lowest_row lo en hi b t)) (opened
              ∙ ap (open_column lo en hi b t) (sym e)) (sym e);
          three = ap (three_for lo hi b t) h.is_cell ∙ sym same-three ∙ h.three;
        }

  -- What the passes over the rows and the two edges give
  module _ {i k r : ℕ} (s : Searching i k r) (l : r < t) {next-left next-right : ℕ → ℕ} (left : Tangents lo next-left b t)
      (right : Tangents m next-right b t) {p q : ℕ} (e : p ≡ cond (leb r (next-left i)) i (next-left i))
      (f : q ≡ cond (leb r (next-right k)) k (next-right k)) where
    pub left-within : (b ≤ p) × (suc p < t)
    left-within = edge-within lo b t two left s.left s.low l e

    pub right-within : (b ≤ q) × (suc q < t)
    right-within = edge-within m b t two right s.right s.low l f

    module _ {j n : ℕ} (g : j ≡ next-left p) (h : n ≡ next-right q) where
      pub left-edge : Edge lo b t two r p j
      left-edge = edge_of lo b t two left s.left s.low l e j g

      pub right-edge : Edge m b t two r q n
      right-edge = edge_of m b t two right s.right s.low l f n h

      pub across-row : {u x c : ℕ} → u ≡ crossing lo p j r → x ≡ crossing m q n r → c ≡ cond (ltb u (lo r)) u (en r)
          → Across r p j q n u x c
      across-row y z w =
          record {
            low = s.low;
            high = l;
            left = left-edge;
            right = right-edge;
            crosses-left = y;
            crosses-right = z;
            is-column = w;
          }

  pub answers-none : (i k r : ℕ) → t ≤ r → Searching i k r → t ≤ lowest_row lo en hi b t
  unfolding lowest_row
  answers-none i k r l s =
      let e = first-none (λ z. has_gap lo en hi b t (b + z)) (t - b) (λ z a. s.clear (b + z) (omega arith) (omega arith)) in omega arith
