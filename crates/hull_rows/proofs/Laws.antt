-- The pass up a side keeps one edge. It goes across the current row, or it ends in the
-- row before and the next edge does. It crosses the row where the hull begins.
use Prim.Native.Nat.{ℕ, suc, pred, ◌+◌, ◌-◌, ◌≤◌, ◌<◌}
use mathlib.Core.Path.{◌≡◌, refl, sym, ap, ◌∙◌, subst}
use mathlib.Core.Bool.{cond}
use mathlib.Core.Logic.{inl, inr}
use native.Mathlib.Decide.{dec_le}
use native.Mathlib.Omega.{arith}
use mathlib.Core.List.{List}
use lib.Dec.{leb}
use lib.ListN.{length, set, length-set}
use lib.Seq.{get_or-set_same, get_or-set_other}
use borrow.Author.Tests.{le-leb, lt-leb}
use Rattle.base.proofs.BelowLaws.{below_suc}
use Rattle.rows.specs.parts.Rows.{rows}
use Rattle.rows.specs.Search.{crossing}
use Rattle.rows.proofs.Line.{right_end, right-of-end}
use Rattle.rows.proofs.Rows.{begin}
use Rattle.rows.proofs.Side.{crossing-le, furthest-furthest}
use Rattle.completion.specs.HullRows.{next_row, hull_left}
use Rattle.completion.proofs.LeftSide.{Climbed, climbed-start, climbed-writes, climbed-next, lowest-row}
use Rattle.hull_rows.specs.parts.Ends.{Lowest}

module _ (lo : ℕ → ℕ) (b t : ℕ) where
  -- The edge from row i goes across the row below row r, and row r is above row i
  pub record Climbing (i r : ℕ) : Type 0 where
    pub left : ℕ
    pub climbed : Climbed lo b t i left
    pub above : i < r
    pub under : suc i < t → r ≤ suc (next_row lo t i)

  pub climbing-start : b < t → Climbing b (b + 1)
  climbing-start l =
      record {
        left = t - b;
        climbed = climbed-start lo b t l;
        above = omega arith;
        under = λ m. omega (arith, (furthest-furthest lo b t m).above);
      }

  -- The edge from row e goes across row r
  pub record Spanning (e r : ℕ) : Type 0 where
    pub left : ℕ
    pub climbed : Climbed lo b t e left
    pub above : e < r
    pub under : r ≤ next_row lo t e

  pub climbing-edge : (i r j e : ℕ) → Climbing i r → r < t → j ≡ next_row lo t i → e ≡ cond (leb r j) i j → Spanning e r
  climbing-edge i r j e c l d g =
      let two : suc i < t = omega (arith, c.above) in
      elim (dec_le r (next_row lo t i)) [
        | yes h ↦
            let q : i ≡ e = sym (g ∙ rw (d, le-leb r (next_row lo t i) h) refl) in
            subst (λ (z : ℕ). Spanning z r) q (record { left = c.left; climbed = c.climbed; above = c.above; under = h })
        | no h ↦
            let q : next_row lo t i ≡ e = sym (g ∙ rw (d, lt-leb r (next_row lo t i) (omega arith)) refl) in
            let f = furthest-furthest lo (next_row lo t i) t (omega (arith, c.under two)) in
            subst (λ (z : ℕ). Spanning z r) q
            (record {
              left = pred c.left;
              climbed = climbed-next lo b t i c.left c.climbed two;
              above = omega arith;
              under = omega (arith, c.under two, f.above);
            })
      ]

  module _ (e r : ℕ) (s : Spanning e r) (l : r < t) where
    pub spanning-two : suc e < t
    spanning-two = omega (arith, s.above)

    pub spanning-low : b ≤ e
    spanning-low = s.climbed.low

    -- The row where it ends
    pub spanning-end : (j : ℕ) → j ≡ next_row lo t e → (e < r) × (r ≤ j) × (j < t)
    spanning-end j d = omega (arith, s.above, s.under, (furthest-furthest lo e t spanning-two).below)

    pub spanning-crosses : (j x : ℕ) → j ≡ next_row lo t e → x ≡ crossing lo e j r → x ≡ hull_left lo b t r
    spanning-crosses j x d g = g ∙ ap (λ (z : ℕ). crossing lo e z r) d
        ∙ sym (climbed-writes lo b t e s.left s.climbed spanning-two r s.above s.under)

    pub spanning-next : Climbing e (r + 1)
    spanning-next = record { left = s.left; climbed = s.climbed; above = omega (arith, s.above); under = λ m. omega (arith, s.under) }

-- ---- in place

-- A line meets the row where it ends at that row's first column
crossing-end : (lo : ℕ → ℕ) (i j : ℕ) → i < j → crossing lo i j j ≡ lo j
crossing-end lo i j l =
    let a = (crossing-le lo i j j (lo j) l (omega arith) (omega arith)).1 right_end in
    let z = (crossing-le lo i j j (crossing lo i j j) l (omega arith) (omega arith)).0 (omega arith) in
    let d = right-of-end {p = begin lo i} {q = begin lo j} {x = record { col = crossing lo i j j; row = j }} l refl z in
    omega arith

crossing-by : (f g : ℕ → ℕ) (i j r : ℕ) → f i ≡ g i → f j ≡ g j → crossing f i j r ≡ crossing g i j r
unfolding crossing
crossing-by f g i j r d e = rw (d, e) refl

module _ (lo : ℕ → ℕ) (b t : ℕ) (fits : t ≤ 256) where
  -- The rows below row r have the hull's first columns. The other rows, and row i, have their own
  pub record Leftward (l : List ℕ) (i r : ℕ) : Type 0 where
    pub sized : length l ≡ 256
    pub low : b < r
    pub high : r ≤ t
    pub climbing : Climbing lo b t i r
    pub passed : (s : ℕ) → b ≤ s → s < r → rows l s ≡ hull_left lo b t s
    pub ahead : (s : ℕ) → r ≤ s → rows l s ≡ lo s
    pub corner : rows l i ≡ lo i

  module _ (l : List ℕ) (i r : ℕ) (w : Leftward l i r) (more : r < t) (e : ℕ) where
    -- The row where the next edge starts still has its own first column
    pub leftward-corner : (j : ℕ) → j ≡ next_row lo t i → e ≡ cond (leb r j) i j → rows l e ≡ lo e
    leftward-corner j d g =
        let c = w.climbing in
        let two : suc i < t = omega (arith, c.above) in
        let above = (furthest-furthest lo i t two).above in
        elim (dec_le r (next_row lo t i)) [
          | yes h ↦
              let q : i ≡ e = sym (g ∙ rw (d, le-leb r (next_row lo t i) h) refl) in
              subst (λ (z : ℕ). rows l z ≡ lo z) q w.corner
          | no h ↦
              let q : next_row lo t i ≡ e = sym (g ∙ rw (d, lt-leb r (next_row lo t i) (omega arith)) refl) in
              subst (λ (z : ℕ). rows l z ≡ lo z) q
              (w.passed (next_row lo t i) (omega (arith, c.climbed.low)) (omega arith)
              ∙ climbed-writes lo b t i c.left c.climbed two (next_row lo t i) above (omega arith)
              ∙ crossing-end lo i (next_row lo t i) above)
        ]

    pub leftward-next : (s : Spanning lo b t e r) (j x : ℕ) → rows l e ≡ lo e → j ≡ next_row lo t e → x ≡ crossing (rows l) e j r
        → Leftward (set l r x) e (r + 1)
    leftward-next s j x c d g =
        let span = spanning-end lo b t e r s more j d in
        let is_x : x ≡ hull_left lo b t r =
        spanning-crosses lo b t e r s more j x d (g ∙ crossing-by (rows l) lo e j r c (w.ahead j span.1)) in
        let other : (z : ℕ) → (z ≡ r → ⊥) → rows (set l r x) z ≡ rows l z = λ z k. get_or-set_other l r z x 0 k in
        record {
          sized = simp length-set w.sized;
          low = omega (arith, w.low);
          high = omega arith;
          climbing = spanning-next lo b t e r s more;
          passed = λ z h k. elim (below_suc z r (omega arith)) [
            | inl q ↦ rw q (get_or-set_same l r x 0 (omega (arith, w.sized, fits)) ∙ is_x)
            | inr q ↦ other z (λ y. omega arith) ∙ w.passed z h q
          ];
          ahead = λ z h. other z (λ y. omega arith) ∙ w.ahead z (omega arith);
          corner = other e (λ y. omega (arith, span)) ∙ c;
        }

  pub leftward-start : (l : List ℕ) → length l ≡ 256 → b < t → ((s : ℕ) → rows l s ≡ lo s) → Leftward l b (b + 1)
  leftward-start l n k same =
      record {
        sized = n;
        low = omega arith;
        high = omega arith;
        climbing = climbing-start lo b t k;
        passed = λ s h m. let e : s ≡ b = omega arith in rw e (same b ∙ sym (lowest-row lo b t k));
        ahead = λ s h. same s;
        corner = same b;
      }

-- ---- the lowest row that begins furthest left

pub lowest_start : (lo : ℕ → ℕ) (b : ℕ) → Lowest lo b (b + 1) b
lowest_start lo b =
    record {
      low = omega arith;
      high = omega arith;
      least = λ r h l. let e : b ≡ r = omega arith in subst (λ (z : ℕ). lo b ≤ lo z) e (omega arith);
      lowest = λ r h l. absurd (omega arith);
    }

module _ (lo : ℕ → ℕ) (b r m : ℕ) (k : Lowest lo b r m) where
  pub lowest-moves : lo r < lo m → Lowest lo b (r + 1) r
  lowest-moves l =
      record {
        low = omega (arith, k.low, k.high);
        high = omega arith;
        least = λ s h n. elim (below_suc s r (omega arith)) [ inl e ↦ rw e (omega arith) | inr q ↦ omega (arith, k.least s h q) ];
        lowest = λ s h n. omega (arith, k.least s h n);
      }

  pub lowest-stays : lo m ≤ lo r → Lowest lo b (r + 1) m
  lowest-stays l =
      record {
        low = k.low;
        high = omega (arith, k.high);
        least = λ s h n. elim (below_suc s r (omega arith)) [ inl e ↦ rw e l | inr q ↦ k.least s h q ];
        lowest = k.lowest;
      }
