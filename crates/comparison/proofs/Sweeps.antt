-- The walk gives the bounds of each row: those in the lists so far, together with those of the rest of the walk, are all of them.
use Prim.Native.Nat.{ℕ, ◌+◌, ◌≤◌, ◌<◌, min, max}
use native.Mathlib.Omega.{arith}
use mathlib.Core.Path.{◌≡◌, refl, sym, ap, ◌∙◌}
use mathlib.Core.List.{List}
use lib.ListN.{length, drop, get_or, replicate, length-replicate, get_or-replicate}
use lib.IntN.{ℤ, pos, ◌+ℤ◌}
use borrow.Author.Tests.{eq-eqb, ne_eqb}
use Rattle.base.specs.Same.{sameℤ}
use Rattle.chart.specs.Limits.{side}
use Rattle.chart.specs.declared.Point.{Point}
use Rattle.convexity.specs.Edges.{pairs}
use Rattle.edge_walk.specs.declared.Corner.{Corner}
use Rattle.edge_walk.specs.parts.Walk.{started, stepped, cell_at}
use Rattle.edge_walk.proofs.Loop.{Chunk, next_edge, no_edge}
use Rattle.nesting.specs.Cells.{polygon, Fit}
use Rattle.nesting.specs.Rows.{start_at, end_after}
use Rattle.sweep.specs.parts.Sweep.{between, corner_from, corner_to, rise_from, fall_to, swept_from, swept_to, row_from, row_to}
use Rattle.sweep.proofs.Items.{swept-from-below}
use Rattle.comparison.specs.parts.Rows.{first_of, end_of, in_rows, met_from, met_to, risen_from, fallen_to, AllBelow, Lowered, Raised, Swept}
use Rattle.comparison.proofs.Columns.{rise-is, side-is}
use Rattle.comparison.proofs.Steps.{Standing, next-cell, standing-next}
use Rattle.comparison.proofs.Lists.{lowered-below}

-- ---- a corner cell

module _ (p : Point) where
  pub met-here : met_from p p.row ≡ min p.col side
  unfolding met_from corner_from sameℤ start_at
  met-here = rw (eq-eqb p.row p.row refl)

  pub met-else : (r : ℕ) → (r ≡ p.row → ⊥) → met_from p r ≡ side
  unfolding met_from corner_from sameℤ
  met-else r h = rw (ne_eqb p.row r (λ e. h (sym e)))

  pub to-here : met_to p p.row ≡ min (p.col + 1) side
  unfolding met_to corner_to sameℤ end_after
  to-here = rw (eq-eqb p.row p.row refl) (omega arith)

  pub to-else : (r : ℕ) → (r ≡ p.row → ⊥) → met_to p r ≡ 0
  unfolding met_to corner_to sameℤ
  to-else r h = rw (ne_eqb p.row r (λ e. h (sym e)))

-- ---- an edge

module _ (dx dy : ℤ) (p q : Point) (e : stepped (started p) dx dy ≡ started q) where
  is-col : pos p.col +ℤ dx ≡ pos q.col
  is-col = ap (λ (k : Corner). k.col) e

  is_row : pos p.row +ℤ dy ≡ pos q.row
  is_row = ap (λ (k : Corner). k.row) e

  rise-told : (r : ℕ) → rise_from dx dy (pos p.col) (pos p.row) r ≡ risen_from p q r
  unfolding rise_from in_rows between first_of
  rise-told r =
      rw (
        is_row,
        side-is dx dy p.col p.row q.col q.row r is-col is_row,
        rise-is dx dy p.col p.row q.col q.row r is-col is_row,
      ) refl

  fall-told : (r : ℕ) → fall_to dx dy (pos p.col) (pos p.row) r ≡ fallen_to p q r
  unfolding fall_to in_rows between end_of
  fall-told r =
      rw (
        is_row,
        side-is dx dy p.col p.row q.col q.row r is-col is_row,
        rise-is dx dy p.col p.row q.col q.row r is-col is_row,
      ) refl

-- At a place of the loop the walk from p is the corner cell p, the edge, and the walk from q
module _ (es : List ℤ) (i : ℕ) (p : Point) (r : ℕ) where
  module _ (q : Point) {dx dy : ℤ} (e : stepped (started p) dx dy ≡ started q) (edge : Chunk es dx dy i) where
    from_next :
        swept_from (pairs (drop i es)) (pos p.col) (pos p.row) r
        ≡ min (min (met_from p r) (risen_from p q r)) (swept_from (pairs (drop (i + 2) es)) (pos q.col) (pos q.row) r)
    unfolding swept_from met_from
    from_next = rw (next_edge es i edge.inside, edge.across, edge.up, rise-told dx dy p q e r, is-col dx dy p q e, is_row dx dy p q e) refl

    to-next :
        swept_to (pairs (drop i es)) (pos p.col) (pos p.row) r
        ≡ max (max (met_to p r) (fallen_to p q r)) (swept_to (pairs (drop (i + 2) es)) (pos q.col) (pos q.row) r)
    unfolding swept_to met_to
    to-next = rw (next_edge es i edge.inside, edge.across, edge.up, fall-told dx dy p q e r, is-col dx dy p q e, is_row dx dy p q e) refl

  -- At its end only a corner cell is left
  module _ (h : length es ≤ i + 1) where
    from_last : swept_from (pairs (drop i es)) (pos p.col) (pos p.row) r ≡ met_from p r
    unfolding swept_from met_from
    from_last = rw (no_edge es i h)

    to_last : swept_to (pairs (drop i es)) (pos p.col) (pos p.row) r ≡ met_to p r
    unfolding swept_to met_to
    to_last = rw (no_edge es i h)

-- ---- the loop over the edges

pub record Sweeping (es : List ℤ) (a : Point) (i : ℕ) (p : Point) (first end : List ℕ) : Type 0 where
  pub stands : Standing es i p
  pub below : AllBelow first
  pub wide : length end ≡ 256
  pub from : (r : ℕ) → r < side
      → min (get_or first r 0) (swept_from (pairs (drop i es)) (pos p.col) (pos p.row) r) ≡ row_from (polygon a es) r
  pub to : (r : ℕ) → r < side → max (get_or end r 0) (swept_to (pairs (drop i es)) (pos p.col) (pos p.row) r) ≡ row_to (polygon a es) r

pub sweeping-start : (es : List ℤ) (a : Point) (first end : List ℕ) → Fit (polygon a es) → first ≡ replicate 256 side
    → end ≡ replicate 256 0 → Sweeping es a 0 a first end
unfolding row_from row_to
sweeping-start es a first end fit e f =
    record {
      stands = record { passed = omega arith; rest = fit.placed };
      below =
          record {
            long = ap length e ∙ length-replicate 256 side;
            at = λ r l. omega (arith, ap (λ (k : List ℕ). get_or k r 0) e, get_or-replicate {A = ℕ} 256 r side 0 (omega arith));
          };
      wide = ap length f ∙ length-replicate {A = ℕ} 256 0;
      from = λ r l.
          omega (
            arith,
            ap (λ (k : List ℕ). get_or k r 0) e,
            get_or-replicate {A = ℕ} 256 r side 0 (omega arith),
            swept-from-below (pairs es) (pos a.col) (pos a.row) r,
          );
      to = λ r l. omega (arith, ap (λ (k : List ℕ). get_or k r 0) f, get_or-replicate {A = ℕ} 256 r 0 0 (omega arith));
    }

module _ {es : List ℤ} {a : Point} {i : ℕ} {p : Point} {first end : List ℕ} (w : Sweeping es a i p first end) where
  pub sweeping-next : {met risen reached fallen : List ℕ} {dx dy : ℤ} → Chunk es dx dy i →
      let q = cell_at (stepped (started p) dx dy) in
      Lowered (met_from p) first met → Raised (met_to p) end reached → Lowered (risen_from p q) met risen
      → Raised (fallen_to p q) reached fallen
      → Sweeping es a (i + 2) q risen fallen
  sweeping-next edge m n s t =
      let e = next-cell w.stands edge in
      record {
        stands = standing-next w.stands edge;
        below = lowered-below (lowered-below w.below m) s;
        wide = t.long ∙ n.long ∙ w.wide;
        from = λ r l. omega (arith, s.at r l, m.at r l, from_next es i p r _ e edge, w.from r l);
        to = λ r l. omega (arith, t.at r l, n.at r l, to-next es i p r _ e edge, w.to r l);
      }

  pub sweeping-end : {met reached : List ℕ} → length es ≤ i + 1 → Lowered (met_from p) first met → Raised (met_to p) end reached
      → Swept (polygon a es) met reached
  sweeping-end h m n =
      record {
        from = λ r l. omega (arith, m.at r l, from_last es i p r h, w.from r l);
        to = λ r l. omega (arith, n.at r l, to_last es i p r h, w.to r l);
      }
