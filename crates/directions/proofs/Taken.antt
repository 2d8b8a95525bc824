-- The edges of a taken outline pass refusal 16: pieces 1 and 2 lie in the first half of the directions and 3 and 4 in the second, each
-- before the next; within a piece slopes decrease; and the edges sum to zero.
use Prim.Native.Nat.{ℕ, zero, suc, ◌+◌, ◌*◌, ◌<◌}
use native.Mathlib.Nat.{mul-pos}
use native.Mathlib.Omega.{arith}
use mathlib.Core.Path.{◌≡◌, refl, ap}
use mathlib.Core.Bool.{true, false, not, and-eq-true_iff}
use mathlib.Core.List.{List}
use lib.IntN.{ℤ, pos, negsuc}
use Rattle.base.proofs.BelowLaws.{or-false-iff}
use Rattle.base.proofs.Differences.{Is}
use Rattle.chart.specs.Outline.{Outline}
use Rattle.convexity.specs.Edges.{Edge, pairs}
use Rattle.convexity.specs.Clockwise.{border}
use Rattle.convexity.specs.Pieces.{Reaches, dent_piece, edges, edge_count}
use Rattle.convexity.specs.Directions.{edge_cols, edge_rows, SameDirection}
use Rattle.convexity.specs.Shape.{NoBackStep}
use Rattle.convexity.proofs.Shape.{shape}
use Rattle.convexity.proofs.Bounds.{edges-length}
use Rattle.convexity.proofs.Signed.{Counted, Lies}
use Rattle.convexity.proofs.Inside.{edges-close}
use Rattle.convexity.proofs.AsSent.{clear_of}
use Rattle.convexity.proofs.Directions.{Points, After, Increasing, edges-turning}
use Rattle.directions.specs.Round.{cross, is_nil}
use Rattle.directions.specs.Increasing.{some_zero, sums_to_zero, precedes_first, rising, bad_edges, bad_directions}
use Rattle.directions.proofs.Cross.{is-cross}
use Rattle.directions.proofs.Directions.{Above, Least0, Most0, Forward, Backward, Sooner, halves, forwards, backwards}
use Rattle.directions.proofs.Corners.{Facing, ahead, back}
use Rattle.directions.proofs.Passing.{facing-not-nil, of-precedes}
use Rattle.directions.proofs.Round.{NotNil}
use Rattle.directions.proofs.Edges.{Listed, passed-not-nil, passed-distinct}

-- ---- the directions of a frame

forward-of : (dx dy : ℤ) → Least0 dx → (Most0 dx → Above dy) → Forward dx dy
forward-of (pos zero) (pos zero) h k = absurd (omega (arith, k (omega arith)))
forward-of (pos zero) (pos (suc n)) h k = Forward.upward
forward-of (pos zero) (negsuc n) h k = absurd (omega (arith, k (omega arith)))
forward-of (pos (suc m)) dy h k = Forward.across
forward-of (negsuc m) dy h k = absurd (omega arith)

backward-of : (dx dy : ℤ) → Most0 dx → (Least0 dx → ¬ (Least0 dy)) → Backward dx dy
backward-of (pos zero) (pos n) h k = absurd (k (omega arith) (omega arith))
backward-of (pos zero) (negsuc n) h k = Backward.downward
backward-of (pos (suc m)) dy h k = absurd (omega arith)
backward-of (negsuc m) dy h k = Backward.across

-- Frames 0 and 1 are in the first half, frames 2 and 3 in the second
abbrev Half : ℕ → ℤ → ℤ → Type 0
Half zero dx dy = Forward dx dy
Half (suc zero) dx dy = Forward dx dy
Half (suc (suc k)) dx dy = Backward dx dy

frame-half : (k : ℕ) {e l : ℕ} {dx dy : ℤ} → Points k e l dx dy → Half k dx dy
unfolding Counted
frame-half zero p = forward-of _ _ (omega (arith, p.lies.counted)) (λ h. omega (arith, p.lies.counted, p.upward))
frame-half (suc zero) p = forward-of _ _ (omega (arith, p.lies.counted)) (λ h. absurd (omega (arith, p.lies.counted, p.upward)))
frame-half (suc (suc zero)) p = backward-of _ _ (omega (arith, p.lies.counted)) (λ h. omega (arith, p.lies.counted, p.upward))
frame-half (suc (suc (suc k))) p =
    backward-of _ _ (omega (arith, p.lies.counted)) (λ h. absurd (omega (arith, p.lies.counted, p.upward)))

frame-facing : (k : ℕ) {e l : ℕ} {dx dy : ℤ} → Points k e l dx dy → Facing dx dy
frame-facing zero p = ahead (frame-half 0 p)
frame-facing (suc zero) p = ahead (frame-half 1 p)
frame-facing (suc (suc k)) p = back (frame-half (suc (suc k)) p)

is-cross-both :
    {dx dy ex ey : ℤ} {a a' b b' c c' d d' : ℕ} → Is dx a a' × Is dy b b' → Is ex c c' × Is ey d d'
    → Is (cross dx dy ex ey) (b * c + b' * c' + (a * d' + a' * d)) (b * c' + b' * c + (a * d + a' * d'))
is-cross-both h g = is-cross h.0 h.1 g.0 g.1

-- In one frame, a smaller slope lies clockwise
slope-cross : (k : ℕ) {e l e' l' : ℕ} {dx dy ex ey : ℤ} → Lies k 0 e l dx dy → Lies k 0 e' l' ex ey → l' * e < l * e'
    → Above (cross dx dy ex ey)
unfolding Counted
slope-cross zero h g s = omega (arith, (is-cross-both h.counted g.counted).eq)
slope-cross (suc zero) h g s = omega (arith, (is-cross-both h.counted g.counted).eq)
slope-cross (suc (suc zero)) h g s = omega (arith, (is-cross-both h.counted g.counted).eq)
slope-cross (suc (suc (suc k))) h g s = omega (arith, (is-cross-both h.counted g.counted).eq)

-- and so does the next frame of the same half
next-cross : (k : ℕ) {e l e' l' : ℕ} {dx dy ex ey : ℤ} → k < 3 → Points k e l dx dy → Points (suc k) e' l' ex ey → Above (cross dx dy ex ey)
unfolding Counted
next-cross zero h p q = omega (arith, (is-cross-both p.lies.counted q.lies.counted).eq, mul-pos p.upward q.upward)
next-cross (suc zero) h p q = omega (arith, (is-cross-both p.lies.counted q.lies.counted).eq, mul-pos p.upward q.upward)
next-cross (suc (suc zero)) h p q = omega (arith, (is-cross-both p.lies.counted q.lies.counted).eq, mul-pos p.upward q.upward)
next-cross (suc (suc (suc k))) h p q = absurd (omega arith)

same_half : (k : ℕ) {dx dy ex ey : ℤ} → Half k dx dy → Half k ex ey → Above (cross dx dy ex ey) → Sooner dx dy ex ey
same_half zero d e h = forwards d e h
same_half (suc zero) d e h = forwards d e h
same_half (suc (suc k)) d e h = backwards d e h

later-precedes : (k k' : ℕ) {e l e' l' : ℕ} {dx dy ex ey : ℤ} → k < k' → Points k e l dx dy → Points k' e' l' ex ey → Sooner dx dy ex ey
later-precedes k zero h p q = absurd (omega arith)
later-precedes zero (suc zero) h p q = forwards (frame-half 0 p) (frame-half 1 q) (next-cross 0 (omega arith) p q)
later-precedes (suc k) (suc zero) h p q = absurd (omega arith)
later-precedes zero (suc (suc k')) h p q = halves (frame-half 0 p) (frame-half (suc (suc k')) q)
later-precedes (suc zero) (suc (suc k')) h p q = halves (frame-half 1 p) (frame-half (suc (suc k')) q)
later-precedes (suc (suc k)) (suc (suc zero)) h p q = absurd (omega arith)
later-precedes (suc (suc zero)) (suc (suc (suc zero))) h p q = backwards (frame-half 2 p) (frame-half 3 q) (next-cross 2 (omega arith) p q)
later-precedes (suc (suc (suc k))) (suc (suc (suc zero))) h p q = absurd (omega arith)
later-precedes (suc (suc k)) (suc (suc (suc (suc k')))) h p q = absurd (omega (arith, q.small))

after-precedes : {k k' e l e' l' : ℕ} {dx dy ex ey : ℤ} → After (suc k) e l k' e' l' → Points k e l dx dy → Points k' e' l' ex ey
    → Sooner dx dy ex ey
after-precedes {k} {k'} (After.later-frame h) p q = later-precedes k k' h p q
after-precedes {k} {k'} (After.same-frame h s) p q =
    let e : k' ≡ k = omega arith in
    let q' = rw e at q in
    same_half k (frame-half k p) (frame-half k q') (slope-cross k p.lies q'.lies s)

-- ---- the edges of an outline

turning-first : {k e l : ℕ} {dx dy : ℤ} {es : List Edge} → Points k e l dx dy → Increasing (suc k) e l es → precedes_first dx dy es ≡ true
unfolding precedes_first
turning-first p Increasing.none = refl
turning-first p (Increasing.more a q r) = of-precedes (after-precedes a p q)

turning-rises : {n e l : ℕ} {es : List Edge} → Increasing n e l es → (some_zero es ≡ false) × (rising es ≡ true)
unfolding some_zero rising
turning-rises Increasing.none = (refl, refl)
turning-rises (Increasing.more {k = k} a p r) =
    let t = turning-rises r in
    ((or-false-iff _ _).1 (facing-not-nil (frame-facing k p), t.0), (and-eq-true_iff _ _).1 (turning-first p r, t.1))

-- A border that passes 1 to 8 and has no dent
module _ (o : Outline) (straight : NoBackStep o) (smooth : dent_piece o ≡ 4) where
  sums : sums_to_zero (pairs (edges o)) ≡ true
  unfolding sums_to_zero is_nil
  sums = let c = edges-close o (shape o straight) in rw (c.0, c.1)

  pub from-w-passes : bad_directions (edges o) ≡ false
  unfolding bad_edges
  from-w-passes =
      let t = turning-rises (edges-turning o straight smooth) in
      (or-false-iff _ _).1 (t.0, (or-false-iff _ _).1 (ap not sums, ap not t.1))

-- An outline as sent
module _ (o : Outline) (h : Reaches o) (smooth : dent_piece (border o) ≡ 4) where
  pub taken-passes : bad_directions (edges (border o)) ≡ false
  taken-passes = from-w-passes (border o) (clear_of o h) smooth

  edge-listed : (i : ℕ) → i < edge_count (border o) → Listed (edges (border o)) i
  edge-listed i l = omega (arith, edges-length (border o))

  -- No edge is (0, 0)
  pub edge-not-zero : (i : ℕ) → i < edge_count (border o) → NotNil (edge_cols (edges (border o)) i) (edge_rows (edges (border o)) i)
  edge-not-zero i l = passed-not-nil (edges (border o)) taken-passes i (edge-listed i l)

  -- No two edges have the same direction
  pub directions-distinct :
      (i j : ℕ) → i < j → j < edge_count (border o)
      → SameDirection (edge_cols (edges (border o)) i) (edge_rows (edges (border o)) i) (edge_cols (edges (border o)) j)
      (edge_rows (edges (border o)) j) → ⊥
  directions-distinct i j l m = passed-distinct (edges (border o)) taken-passes i j l (edge-listed j m)
