-- At each place of a loop over the edges, the rest of the walk stays on the chart exactly if the current corner cell is on it and the
-- walk after the next edge stays there.
use Prim.Native.Nat.{ℕ, ◌+◌, ◌<◌, ◌≤◌}
use native.Mathlib.Omega.{arith}
use mathlib.Core.Path.{◌≡◌, refl, sym, ap, ◌∙◌, subst}
use mathlib.Core.Bool.{Bool, true, false, ◌&&◌, and-eq-true_iff}
use mathlib.Core.List.{List}
use lib.ListN.{length, drop}
use lib.IntN.{ℤ, pos, nat_abs}
use Rattle.chart.specs.Limits.{side}
use Rattle.chart.specs.declared.Point.{Point}
use Rattle.convexity.specs.Edges.{Edge, pairs}
use Rattle.directions.specs.CornerHull.{chart_number, is_on_chart, Met}
use Rattle.directions.proofs.OnChart.{number, on-parts}
use Rattle.edge_walk.specs.declared.Corner.{Corner}
use Rattle.edge_walk.specs.parts.Walk.{started, stepped, cell_at}
use Rattle.edge_walk.proofs.Loop.{Chunk, next_edge, no_edge}
use Rattle.nesting.specs.Corners.{every_corner, corners_on_chart}
use Rattle.nesting.proofs.CornerTests.{every-met}

-- The corner cell is on the chart
abbrev pub is_on : Corner → Bool
is_on k = is_on_chart k.col k.row

-- So are all corner cells of the edges from it on
abbrev pub stays : List Edge → Corner → Bool
stays es k = corners_on_chart es k.col k.row

stays_here : (es : List Edge) (k : Corner) → stays es k ≡ true → is_on k ≡ true
unfolding corners_on_chart
stays_here es k e = every-met is_on_chart (Met.start {es = es}) e

module _ (es : List ℤ) (i : ℕ) (k : Corner) where
  stays-next : {dx dy : ℤ} → Chunk es dx dy i → stays (pairs (drop i es)) k ≡ (is_on k && stays (pairs (drop (i + 2) es)) (stepped k dx dy))
  unfolding corners_on_chart every_corner
  stays-next e = rw (next_edge es i e.inside, e.across, e.up)

  stays-end : length es ≤ i + 1 → stays (pairs (drop i es)) k ≡ is_on k
  unfolding corners_on_chart every_corner
  stays-end h = rw (no_edge es i h)

-- ---- a walk that may leave the chart

-- The rest of the walk stays on the chart exactly if all of it does
pub record Leaving (es : List ℤ) (k₀ : Corner) (i : ℕ) (k : Corner) : Type 0 where
  pub passed : i ≤ length es
  pub left : stays (pairs es) k₀ ≡ stays (pairs (drop i es)) k

module _ {es : List ℤ} {k₀ : Corner} {i : ℕ} {k : Corner} (l : Leaving es k₀ i k) where
  module _ {dx dy : ℤ} (edge : Chunk es dx dy i) where
    pub leaving-next : is_on k ≡ true → Leaving es k₀ (i + 2) (stepped k dx dy)
    leaving-next e = let inside = edge.inside in record { passed = omega arith; left = l.left ∙ stays-next es i k edge ∙ rw e }

    pub leaving-off : is_on k ≡ false → stays (pairs es) k₀ ≡ false
    leaving-off e = l.left ∙ stays-next es i k edge ∙ rw e

  pub leaving-end : length es ≤ i + 1 → stays (pairs es) k₀ ≡ is_on k
  leaving-end h = l.left ∙ stays-end es i k h

-- ---- a walk on the chart

-- A corner cell on the chart is a cell
on-cell : (k : Corner) → is_on k ≡ true → k ≡ started (cell_at k)
on-cell k e =
    let a = on-parts k.col k.row e in
    λ j. record { col = whole k.col a.0 j; row = whole k.row a.1 j }
  where
    whole : (z : ℤ) → chart_number z ≡ true → z ≡ pos (nat_abs z)
    whole z h = let n = number z h in rw n.1 refl

-- After the numbers before i the walk is at a cell of the chart, and the rest of it stays on the chart
pub record Standing (es : List ℤ) (i : ℕ) (p : Point) : Type 0 where
  pub passed : i ≤ length es
  pub rest : stays (pairs (drop i es)) (started p) ≡ true

module _ {es : List ℤ} {i : ℕ} {p : Point} (s : Standing es i p) where
  -- The current cell is on the chart
  pub standing_on : is_on (started p) ≡ true
  standing_on = stays_here (pairs (drop i es)) (started p) s.rest

  pub standing_here : (p.col < side) × (p.row < side)
  standing_here =
      let a = on-parts (pos p.col) (pos p.row) standing_on in
      (below p.col a.0, below p.row a.1)
    where
      below : (n : ℕ) → chart_number (pos n) ≡ true → n < side
      below n h = let m = number (pos n) h in omega (arith, ap nat_abs m.1, m.2)

  module _ {dx dy : ℤ} (edge : Chunk es dx dy i) where
    next-rest : stays (pairs (drop (i + 2) es)) (stepped (started p) dx dy) ≡ true
    next-rest = ((and-eq-true_iff (is_on (started p)) _).0 (sym (stays-next es i (started p) edge) ∙ s.rest)).1

    -- So is the next one, and the walk stands there after the edge
    pub next-on : is_on (stepped (started p) dx dy) ≡ true
    next-on = stays_here (pairs (drop (i + 2) es)) (stepped (started p) dx dy) next-rest

    pub next-cell : stepped (started p) dx dy ≡ started (cell_at (stepped (started p) dx dy))
    next-cell = on-cell (stepped (started p) dx dy) next-on

    pub standing-next : Standing es (i + 2) (cell_at (stepped (started p) dx dy))
    standing-next = let inside = edge.inside in record { passed = omega arith; rest = subst (λ k. stays (pairs (drop (i + 2) es)) k ≡ true) next-cell next-rest }
