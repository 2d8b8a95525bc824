-- The loop over the edges ends with the rule of the edges: an extreme is at most c if one of the numbers is, so the numbers met so far
-- and those still to come can be tested separately.
use Prim.Native.Nat.{ℕ, ◌+◌, ◌≤◌, ◌<◌}
use native.Mathlib.Omega.{arith}
use mathlib.Core.Path.{◌≡◌, refl, sym, ap, ◌∙◌}
use mathlib.Core.Bool.{Bool, true, false, ◌&&◌, ◌||◌, or-false, or_assoc, and-true, and-false}
use mathlib.Core.List.{List, [], ◌∷◌}
use lib.ListN.{length, drop}
use lib.IntN.{ℤ, pos, ◌+ℤ◌}
use lib.Signed.{le_z}
use Rattle.chart.specs.Limits.{longest_list}
use Rattle.chart.specs.declared.Point.{Point}
use Rattle.convexity.specs.Edges.{Edge, pairs}
use Rattle.convexity.specs.Inside.{not_negative, minℤ, maxℤ, side_value, none_outside, col_steps, row_steps, lowest_met, highest_met, within}
use Rattle.convexity.specs.Inside.{inside_at, inside_edges}
use Rattle.polygon.specs.declared.Span.{Span}
use Rattle.polygon.specs.parts.Span.{begun, met, spans}
use mir.Syntax.{w16}
use mir.Val.{SFits}
use Rattle.edge_walk.specs.declared.Corner.{Corner}
use Rattle.edge_walk.specs.parts.Walk.{started, stepped}
use Rattle.edge_walk.proofs.Loop.{Chunk, next_edge, no_edge}
use Rattle.edge_walk.proofs.Sizes.{After, after-start, after-step}
use Rattle.polygon.specs.Loose.{inside_list}
use Rattle.polygon.proofs.LooseCases.{inside-short}
use Rattle.polygon.proofs.Integers.{min-at-most, max-at-least}

-- ---- one coordinate

-- The test passes for one of the numbers that steps from x lead to
unfoldable pub meets : (ℤ → Bool) → List ℤ → ℤ → Bool
meets f [] x = false
meets f (d ∷ ds) x = f (x +ℤ d) || meets f ds (x +ℤ d)

-- If the smaller of two numbers passes a test whenever one of them does, the lowest number met
-- passes it exactly if some number met does. The same for the highest
pub lowest-meets : (f : ℤ → Bool) → ((a b : ℤ) → f (minℤ a b) ≡ (f a || f b)) → (ds : List ℤ) (x : ℤ)
    → f (lowest_met ds x) ≡ (f x || meets f ds x)
unfolding meets lowest_met
lowest-meets f h [] x = sym (or-false _)
lowest-meets f h (d ∷ ds) x = h x (lowest_met ds (x +ℤ d)) ∙ ap (λ (b : Bool). f x || b) (lowest-meets f h ds (x +ℤ d))

pub highest-meets : (f : ℤ → Bool) → ((a b : ℤ) → f (maxℤ a b) ≡ (f a || f b)) → (ds : List ℤ) (x : ℤ)
    → f (highest_met ds x) ≡ (f x || meets f ds x)
unfolding meets highest_met
highest-meets f h [] x = sym (or-false _)
highest-meets f h (d ∷ ds) x = h x (highest_met ds (x +ℤ d)) ∙ ap (λ (b : Bool). f x || b) (highest-meets f h ds (x +ℤ d))

-- c is between the extremes of the numbers met so far and those that steps from x still lead to
within_from : Span → List ℤ → ℤ → ℤ → Bool
within_from p ds x c = (le_z p.low c || meets (λ z. le_z z c) ds x) && (le_z c p.high || meets (le_z c) ds x)

within-begun : (ds : List ℤ) (x c : ℤ) → within ds x c ≡ within_from (begun x) ds x c
unfolding within within_from begun
within-begun ds x c =
    rw (lowest-meets (λ z. le_z z c) (λ a b. min-at-most a b c) ds x, highest-meets (le_z c) (λ a b. max-at-least a b c) ds x)

within-met : (p : Span) (d : ℤ) (ds : List ℤ) (x c : ℤ) → within_from p (d ∷ ds) x c ≡ within_from (met p (x +ℤ d)) ds (x +ℤ d) c
unfolding within_from met meets
within-met p d ds x c = simp (min-at-most, max-at-least, or_assoc)

within_end : (p : Span) (x c : ℤ) → within_from p [] x c ≡ spans p c
unfolding within_from spans meets
within_end p x c = simp or-false

-- ---- both coordinates

-- The loop's answer for the remaining edges from a corner cell on, with the extremes so far
unfoldable pub inside_from : List Edge → Corner → Span → Span → ℤ → ℤ → Bool
inside_from [] k p q c r = spans p c && spans q r
inside_from ((dx, dy) ∷ es) k p q c r =
    not_negative (side_value dx dy k.col k.row c r) && inside_from es (stepped k dx dy) (met p (k.col +ℤ dx)) (met q (k.row +ℤ dy)) c r

and_last : (s a b n : Bool) → (s && (a && b && n)) ≡ (a && b && (s && n))
and_last true a b n = refl
and_last false a b n = sym (and-false (a && b))

inside-from-is :
    (es : List Edge) (k : Corner) (p q : Span) (c r : ℤ)
    → inside_from es k p q c r
    ≡ (within_from p (col_steps es) k.col c && within_from q (row_steps es) k.row r && none_outside es k.col k.row c r)
unfolding inside_from col_steps row_steps none_outside
inside-from-is [] k p q c r = sym (simp (within_end, and-true))
inside-from-is ((dx, dy) ∷ es) k p q c r =
    let x = k.col +ℤ dx in
    let y = k.row +ℤ dy in
    ap (λ (b : Bool). not_negative (side_value dx dy k.col k.row c r) && b)
    (inside-from-is es (stepped k dx dy) (met p x) (met q y) c r)
    ∙ and_last (not_negative (side_value dx dy k.col k.row c r)) (within_from (met p x) (col_steps es) x c)
    (within_from (met q y) (row_steps es) y r)
    (none_outside es x y c r)
    ∙ rw (within-met p dx (col_steps es) k.col c, within-met q dy (row_steps es) k.row r)

-- The rule of the edges is the loop's answer from the anchor on
pub inside-from-anchor :
    (a : Point) (es : List ℤ) (x : Point)
    → inside_edges a es x ≡ inside_from (pairs es) (started a) (begun (pos a.col)) (begun (pos a.row)) (pos x.col) (pos x.row)
unfolding inside_edges inside_at
inside-from-anchor a es x =
    simp within-begun (sym
    (inside-from-is (pairs es) (started a) (begun (pos a.col)) (begun (pos a.row)) (pos x.col) (pos x.row)))

-- ---- one iteration of the loop

-- The loop over the edges es of an anchor a has passed those before i, and no side value at the cell x was negative
pub record Walked (a : Point) (es : List ℤ) (x : Point) (k : Corner) (p q : Span) (i : ℕ) : Type 0 where
  pub short : length es ≤ longest_list
  pub passed : i ≤ length es
  pub near : After i k
  pub left : inside_list a es x ≡ inside_from (pairs (drop i es)) k p q (pos x.col) (pos x.row)

pub walked-start : (a : Point) (es : List ℤ) (x : Point) → a.col < 65536 → a.row < 65536 → length es ≤ longest_list
    → Walked a es x (started a) (begun (pos a.col)) (begun (pos a.row)) 0
walked-start a es x m n h =
    record {
      short = h;
      passed = omega arith;
      near = after-start a m n 0;
      left = inside-short a es x h ∙ inside-from-anchor a es x;
    }

module _ {a : Point} {es : List ℤ} {x : Point} {k : Corner} {p q : Span} {i : ℕ} (w : Walked a es x k p q i) where
  -- With the edge at i
  module _ {dx dy : ℤ} (e : Chunk es dx dy i) where
    next-from :
        let k' = stepped k dx dy in
        inside_list a es x
        ≡ (not_negative (side_value dx dy k.col k.row (pos x.col) (pos x.row)) && inside_from (pairs (drop (i + 2) es)) k' (met p k'.col) (met q k'.row) (pos x.col) (pos x.row))
    unfolding inside_from
    next-from = w.left ∙ rw (next_edge es i e.inside, e.across, e.up)

    -- One more edge
    pub walked-edge :
        SFits w16 dx → SFits w16 dy → not_negative (side_value dx dy k.col k.row (pos x.col) (pos x.row)) ≡ true
        → let k' = stepped k dx dy in
        Walked a es x k' (met p k'.col) (met q k'.row) (i + 2)
    walked-edge fx fy on =
        let inside = e.inside in
        record { short = w.short; passed = omega arith; near = after-step w.near fx fy (omega arith); left = next-from ∙ rw on }

    -- A side value is negative: the cell is outside
    pub walked-outside : not_negative (side_value dx dy k.col k.row (pos x.col) (pos x.row)) ≡ false → inside_list a es x ≡ false
    walked-outside off = next-from ∙ rw off

  -- No edges remain: the extremes decide
  pub walked_end : length es ≤ i + 1 → inside_list a es x ≡ (spans p (pos x.col) && spans q (pos x.row))
  unfolding inside_from
  walked_end h = w.left ∙ rw (no_edge es i h)
