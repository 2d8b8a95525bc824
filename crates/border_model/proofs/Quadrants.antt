-- Edges that pass refusal 16 are in the order of their quadrants. Of two directions in one half, the earlier one is in no later quadrant,
-- or their cross product would not be above 0. A backward direction is the opposite of a forward one, two quadrants later.
use Prim.Native.Nat.{ℕ, zero, suc, ◌+◌, ◌*◌, ◌≤◌, ◌<◌}
use native.Mathlib.Omega.{arith}
use mathlib.Core.Path.{◌≡◌, refl, ap}
use mathlib.Core.Bool.{false}
use mathlib.Core.List.{List}
use lib.IntN.{ℤ, pos, negsuc, neg_ℤ}
use Rattle.base.proofs.IntegerOrder.{up, down}
use Rattle.base.proofs.Differences.{is-self}
use Rattle.convexity.specs.Edges.{Edge, pairs}
use Rattle.convexity.specs.FromEdges.{quadrant_of}
use Rattle.directions.specs.Round.{cross}
use Rattle.directions.specs.Increasing.{bad_directions}
use Rattle.directions.proofs.Cross.{is-cross, cross-opposites}
use Rattle.directions.proofs.Directions.{Above, Forward, Backward, opposite, Sooner}
use Rattle.directions.proofs.Corners.{Facing, AllAfter, Rising}
use Rattle.directions.proofs.Passing.{passes-iff}
use Rattle.border_model.specs.parts.Ordered.{Ordered}

forward-low : {dx dy : ℤ} → Forward dx dy → quadrant_of dx dy ≤ 1
unfolding quadrant_of
forward-low {dy = pos zero} Forward.across = omega arith
forward-low {dy = pos (suc m)} Forward.across = omega arith
forward-low {dy = negsuc m} Forward.across = omega arith
forward-low Forward.upward = omega arith

backward-on : {dx dy : ℤ} → Backward dx dy → quadrant_of dx dy ≡ 2 + quadrant_of (neg_ℤ dx) (neg_ℤ dy)
unfolding quadrant_of
backward-on {dy = pos zero} Backward.across = refl
backward-on {dy = pos (suc m)} Backward.across = refl
backward-on {dy = negsuc m} Backward.across = refl
backward-on Backward.downward = refl

-- Clockwise of a direction at or below right, in the same half, is below right too
below_right : (a c d : ℕ) (dy : ℤ) → up dy ≡ 0 → Above (cross (pos (suc a)) dy (pos c) (pos (suc d))) → ⊥
below_right a c d dy z h =
    omega (
      arith,
      (is-cross (is-self (pos (suc a))) (is-self dy) (is-self (pos c)) (is-self (pos (suc d)))).eq,
      ap (λ (n : ℕ). n * up (pos c)) z,
    )

forward-order : {dx dy ex ey : ℤ} → Forward dx dy → Forward ex ey → Above (cross dx dy ex ey) → quadrant_of dx dy ≤ quadrant_of ex ey
unfolding quadrant_of
forward-order Forward.upward e h = omega arith
forward-order {dy = pos (suc m)} Forward.across e h = omega arith
forward-order {dy = pos zero} (Forward.across {n = a}) (Forward.upward {n = d}) h = absurd (below_right a 0 d (pos 0) refl h)
forward-order {dy = negsuc m} (Forward.across {n = a}) (Forward.upward {n = d}) h = absurd (below_right a 0 d (negsuc m) refl h)
forward-order {dy = pos zero} {ey = pos (suc d)} (Forward.across {n = a}) (Forward.across {n = c}) h =
    absurd (below_right a (suc c) d (pos 0) refl h)
forward-order {dy = negsuc m} {ey = pos (suc d)} (Forward.across {n = a}) (Forward.across {n = c}) h =
    absurd (below_right a (suc c) d (negsuc m) refl h)
forward-order {dy = pos zero} {ey = pos zero} Forward.across Forward.across h = omega arith
forward-order {dy = pos zero} {ey = negsuc d} Forward.across Forward.across h = omega arith
forward-order {dy = negsuc m} {ey = pos zero} Forward.across Forward.across h = omega arith
forward-order {dy = negsuc m} {ey = negsuc d} Forward.across Forward.across h = omega arith

precedes-quadrant : {dx dy ex ey : ℤ} → Sooner dx dy ex ey → quadrant_of dx dy ≤ quadrant_of ex ey
precedes-quadrant (Sooner.halves d e) = omega (arith, forward-low d, backward-on e)
precedes-quadrant (Sooner.forwards d e h) = forward-order d e h
precedes-quadrant {dx} {dy} {ex} {ey} (Sooner.backwards d e h) =
    omega (arith, backward-on d, backward-on e, forward-order (opposite d) (opposite e) (omega (arith, (cross-opposites dx dy ex ey).eq)))

facing-small : {dx dy : ℤ} → Facing dx dy → quadrant_of dx dy < 4
facing-small (Facing.ahead d) = omega (arith, forward-low d)
facing-small (Facing.back d) = omega (arith, backward-on d, forward-low (opposite d))

rising-after : (dx dy : ℤ) {es : List Edge} → AllAfter dx dy es → Rising es → Ordered (quadrant_of dx dy) es
rising-after dx dy AllAfter.none Rising.none = Ordered.nothing
rising-after dx dy (AllAfter.next {ex} {ey} s a) (Rising.next f b r) =
    Ordered.more (precedes-quadrant s) (facing-small f) (rising-after ex ey b r)

rising-ordered : {es : List Edge} → Rising es → Ordered 0 es
rising-ordered Rising.none = Ordered.nothing
rising-ordered (Rising.next {dx} {dy} f a r) =
    Ordered.more {k = 0} {dx = dx} {dy = dy} (omega arith) (facing-small f) (rising-after dx dy a r)

pub passed-ordered : (es : List ℤ) → bad_directions es ≡ false → Ordered 0 (pairs es)
passed-ordered es e = rising-ordered ((passes-iff (pairs es) (pos 0) (pos 0)).0 e).rises
