-- The walk to a position, edge by edge: the wanted command is always the one at the remaining position of the remaining edges.
use Prim.Native.Nat.{ℕ, zero, suc, ◌+◌, ◌-◌, ◌≤◌, ◌<◌}
use native.Mathlib.Decide.{dec_lt}
use native.Mathlib.Omega.{arith}
use mathlib.Core.Path.{◌≡◌, refl, sym, ap, ◌∙◌, subst₂}
use mathlib.Core.List.{List, [], ◌∷◌, ◌++◌}
use lib.ListN.{length, drop, get_or}
use lib.IntN.{ℤ, ◌+ℤ◌}
use mir.Syntax.{w16}
use mir.Val.{SFits}
use Rattle.chart.specs.declared.Point.{Point}
use Rattle.convexity.specs.Edges.{Edge, pairs}
use Rattle.edge_walk.specs.declared.Corner.{Corner}
use Rattle.edge_walk.specs.parts.Walk.{started, stepped}
use Rattle.edge_walk.proofs.Loop.{edge_at, next_edge, no_edge}
use Rattle.edge_walk.proofs.Sizes.{After, after-start, after-step}
use Rattle.std.specs.Prelude.{None}
use Rattle.drawing.specs.Drawing.{Command, a_move, a_close, line_to, lines_from, drawing, stroke_at}

-- ---- what is left of a drawing

-- The command at a position of the lines of a walk from a corner cell, followed by a close
unfoldable pub stroke_from : List Edge → Corner → ℕ → Command
stroke_from es k n = get_or (lines_from es k.col k.row ++ (a_close ∷ [])) n None

pub stroke-first : (a : Point) (es : List ℤ) → stroke_at a es 0 ≡ a_move a
unfolding stroke_at drawing
stroke-first a es = refl

pub stroke-later : (a : Point) (es : List ℤ) (n : ℕ) → stroke_at a es (suc n) ≡ stroke_from (pairs es) (started a) n
unfolding stroke_at drawing stroke_from
stroke-later a es n = refl

-- The same, by a position after the move
pub stroke-wanted : (a : Point) (es : List ℤ) (p w : ℕ) → (p ≡ 0 → ⊥) → w ≡ p → stroke_from (pairs es) (started a) (w - 1) ≡ stroke_at a es p
stroke-wanted a es p w n e = let m : p ≡ suc (w - 1) = omega arith in sym (ap (stroke_at a es) m ∙ stroke-later a es (w - 1))

-- After the close there is no command
pub past : (n : ℕ) → (n ≡ 0 → ⊥) → get_or (a_close ∷ []) n None ≡ None
past zero h = absurd (h refl)
past (suc n) h = refl

-- ---- the loop

-- The walk is at k after i numbers of the list, and the command s is n positions further. At most 65,534 - n edges are passed,
-- because each was one position
pub record Walked (es : List ℤ) (s : Command) (k : Corner) (n i : ℕ) : Type 0 where
  pub passed : i ≤ length es
  pub piece : s ≡ stroke_from (pairs (drop i es)) k n
  pub few : n < 65535
  pub near : After (65534 - n) k

pub walked-same : {es : List ℤ} {s : Command} {k : Corner} {n n' i i' : ℕ} → Walked es s k n i → n ≡ n' → i ≡ i' → Walked es s k n' i'
walked-same {es} {s} {k} w e f = subst₂ (λ (n i : ℕ). Walked es s k n i) e f w

pub walked_start : (a : Point) (es : List ℤ) (n : ℕ) → a.col < 65536 → a.row < 65536 → n < 65535
    → Walked es (stroke_from (pairs es) (started a) n) (started a) n 0
walked_start a es n c r h = record { passed = omega arith; piece = refl; few = h; near = after-start a c r (65534 - n) }

module _ {es : List ℤ} {s : Command} {k : Corner} {n i : ℕ} (w : Walked es s k n i) where
  -- There is an edge after the next one, so the next one has a line
  module _ (h : i + 3 < length es) where
    two_edges : pairs (drop i es) ≡ edge_at es i ∷ edge_at es (i + 2) ∷ pairs (drop (i + 2 + 2) es)
    two_edges = next_edge es i (omega arith) ∙ ap (λ (ds : List Edge). edge_at es i ∷ ds) (next_edge es (i + 2) (omega arith))

    pub walked_line : n ≡ 0 → let d = edge_at es i in s ≡ line_to (k.col +ℤ d.0) (k.row +ℤ d.1)
    unfolding stroke_from lines_from
    walked_line e = w.piece ∙ rw (e, two_edges)

    pub walked_next :
        (n ≡ 0 → ⊥) → SFits w16 (edge_at es i).0 → SFits w16 (edge_at es i).1
        → Walked es s (stepped k (edge_at es i).0 (edge_at es i).1) (n - 1) (i + 2)
    unfolding stroke_from lines_from
    walked_next e fx fy =
        let m : n ≡ suc (n - 1) = omega arith in
        record {
          passed = omega arith;
          piece = w.piece ∙ ap (stroke_from (pairs (drop i es)) k) m ∙ rw (two_edges, next_edge es (i + 2) (omega arith));
          few = omega (arith, w.few);
          near = after-step w.near fx fy (omega (arith, w.few));
        }

  -- At most one edge is left, and it has no line
  pub walked_end : length es ≤ i + 3 → s ≡ get_or (a_close ∷ []) n None
  unfolding stroke_from lines_from
  walked_end h =
      elim (dec_lt (i + 1) (length es)) [
        | yes l ↦ w.piece ∙ rw (next_edge es i l, no_edge es (i + 2) (omega arith))
        | no l ↦ w.piece ∙ rw (no_edge es i (omega arith))
      ]
