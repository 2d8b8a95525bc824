-- Refusal 16 in one loop: every edge passed is not zero and comes after the one before it,
-- and the sums so far are completed by the remaining edges.
use Prim.Native.Nat.{ℕ, ◌+◌, ◌≤◌}
use native.Mathlib.Omega.{arith}
use mathlib.Core.Path.{◌≡◌, refl, sym, ap, ◌∙◌}
use mathlib.Core.Bool.{Bool, true, false, not, ◌&&◌, ◌||◌, and-true, and-false}
use mathlib.Core.List.{List, [], ◌∷◌}
use lib.ListN.{length, drop}
use lib.IntN.{ℤ, pos, ◌+ℤ◌, +ℤ_assoc, +ℤ_idl, +ℤ_idr}
use mir.Syntax.{w16}
use mir.Val.{SFits}
use Rattle.std.specs.Prelude.{Option, None, Some}
use Rattle.chart.specs.Limits.{longest_list}
use Rattle.convexity.specs.Edges.{Edge, pairs}
use Rattle.convexity.specs.Inside.{col_steps, row_steps, total}
use Rattle.directions.specs.Round.{is_nil, precedes}
use Rattle.directions.specs.Increasing.{some_zero, sums_to_zero, precedes_first, rising, bad_edges}
use Rattle.polygon.specs.Loose.{bad_directions_list}
use Rattle.polygon.proofs.LooseCases.{turning-short}
use Rattle.polygon.specs.parts.Turns.{comes_after, turns_on}
use Rattle.edge_walk.specs.declared.Corner.{Corner}
use Rattle.edge_walk.specs.parts.Walk.{stepped}
use Rattle.edge_walk.proofs.Loop.{Chunk, next_edge, no_edge}
use Rattle.edge_walk.proofs.Sizes.{After, after-start, after-step}

-- Every remaining edge is not zero and comes before the next, and together with the sums so far they sum to zero
turns_from : List Edge → ℤ → ℤ → Bool
turns_from [] x y = is_nil x && is_nil y
turns_from ((dx, dy) ∷ es) x y = (not (is_nil dx && is_nil dy) && precedes_first dx dy es) && turns_from es (x +ℤ dx) (y +ℤ dy)

-- Zero edges, sums and order tested edge by edge, or each for all edges
regroup : (n s m c r : Bool) → ((not n && s) && ((not m && c) && r)) ≡ ((not (n || m) && c) && (s && r))
regroup true s m c r = refl
regroup false true m c r = refl
regroup false false m c r = sym (and-false (not m && c))

turns-from-is :
    (es : List Edge) (x y : ℤ)
    → turns_from es x y ≡ ((not (some_zero es) && (is_nil (x +ℤ total (col_steps es)) && is_nil (y +ℤ total (row_steps es)))) && rising es)
unfolding turns_from some_zero total col_steps row_steps rising
turns-from-is [] x y = simp (+ℤ_idr, and-true)
turns-from-is ((dx, dy) ∷ es) x y =
    ap (λ (b : Bool). (not (is_nil dx && is_nil dy) && precedes_first dx dy es) && b) (turns-from-is es (x +ℤ dx) (y +ℤ dy))
    ∙ regroup (is_nil dx && is_nil dy) (precedes_first dx dy es) (some_zero es) _ (rising es)
    ∙ rw (+ℤ_assoc x dx (total (col_steps es)), +ℤ_assoc y dy (total (row_steps es)))

not-all : (n s r : Bool) → (n || (not s || not r)) ≡ not ((not n && s) && r)
not-all true s r = refl
not-all false true r = refl
not-all false false r = refl

bad-turns-from : (es : List Edge) → bad_edges es ≡ not (turns_from es (pos 0) (pos 0))
unfolding bad_edges sums_to_zero
bad-turns-from es = not-all (some_zero es) (sums_to_zero es) (rising es) ∙ sym (ap not (turns-from-is es (pos 0) (pos 0)) ∙ simp +ℤ_idl)

-- ---- the same, with each edge compared with the one before it

-- Every remaining edge is not zero and comes after the one before it, and together with the sums so far they sum to zero
pub turns_after : Option Edge → List Edge → ℤ → ℤ → Bool
turns_after last [] x y = is_nil x && is_nil y
turns_after last ((dx, dy) ∷ es) x y = turns_on last dx dy && turns_after (Some (dx, dy)) es (x +ℤ dx) (y +ℤ dy)

-- The order of two edges is asked at the first, or at the second
later : (n p s r : Bool) → ((n && p) && (s && r)) ≡ (p && ((n && s) && r))
later true true s r = refl
later true false s r = refl
later false true s r = refl
later false false s r = refl

turns-after-is : (a b : ℤ) (es : List Edge) (x y : ℤ) → turns_after (Some (a, b)) es x y ≡ (precedes_first a b es && turns_from es x y)
unfolding turns_after turns_from turns_on comes_after precedes_first
turns-after-is a b [] x y = refl
turns-after-is a b ((dx, dy) ∷ es) x y =
    let n = not (is_nil dx && is_nil dy) in
    ap (λ (t : Bool). (n && precedes a b dx dy) && t) (turns-after-is dx dy es (x +ℤ dx) (y +ℤ dy))
    ∙ later n (precedes a b dx dy) (precedes_first dx dy es) (turns_from es (x +ℤ dx) (y +ℤ dy))

-- The first edge of all has none before it
turns-first : (es : List Edge) (x y : ℤ) → turns_after None es x y ≡ turns_from es x y
unfolding turns_after turns_from turns_on comes_after
turns-first [] x y = refl
turns-first ((dx, dy) ∷ es) x y =
    let n = not (is_nil dx && is_nil dy) in
    ap (λ (t : Bool). (n && true) && t) (turns-after-is dx dy es (x +ℤ dx) (y +ℤ dy))
    ∙ later n true (precedes_first dx dy es) (turns_from es (x +ℤ dx) (y +ℤ dy))

-- ---- one iteration of the loop

-- The loop over es has come to place i, after the edge `last`: each edge before it was in order, and they lead from (0, 0) to the corner
-- cell k
pub record Turned (es : List ℤ) (k : Corner) (last : Option Edge) (i : ℕ) : Type 0 where
  pub short : length es ≤ longest_list
  pub passed : i ≤ length es
  pub near : After i k
  pub left : bad_directions_list es ≡ not (turns_after last (pairs (drop i es)) k.col k.row)

pub turned-start : (es : List ℤ) → length es ≤ longest_list → Turned es (record { col = pos 0; row = pos 0 }) None 0
turned-start es h =
    record {
      short = h;
      passed = omega arith;
      near = after-start (record { col = 0; row = 0 }) (omega arith) (omega arith) 0;
      left = turning-short es h ∙ bad-turns-from (pairs es) ∙ ap not (sym (turns-first (pairs es) (pos 0) (pos 0)));
    }

module _ {es : List ℤ} {k : Corner} {last : Option Edge} {i : ℕ} (t : Turned es k last i) where
  module _ {dx dy : ℤ} (e : Chunk es dx dy i) where
    next-turns :
        let k' = stepped k dx dy in
        bad_directions_list es ≡ not (turns_on last dx dy && turns_after (Some (dx, dy)) (pairs (drop (i + 2) es)) k'.col k'.row)
    unfolding turns_after
    next-turns = t.left ∙ rw (next_edge es i e.inside, e.across, e.up)

    pub turned-edge : SFits w16 dx → SFits w16 dy → turns_on last dx dy ≡ true → Turned es (stepped k dx dy) (Some (dx, dy)) (i + 2)
    turned-edge fx fy on =
        let inside = e.inside in
        record { short = t.short; passed = omega arith; near = after-step t.near fx fy (omega arith); left = next-turns ∙ rw on }

    -- An edge that is zero or does not come after the one before it
    pub turned-off : turns_on last dx dy ≡ false → bad_directions_list es ≡ true
    turned-off off = next-turns ∙ rw off

  -- No edges remain: the corner cell decides
  pub turned-end : length es ≤ i + 1 → bad_directions_list es ≡ not (is_nil k.col && is_nil k.row)
  unfolding turns_after
  turned-end h = t.left ∙ rw (no_edge es i h)
