-- The order of directions is strict, transitive, total up to direction, and starts at up: two directions of one half have the same
-- direction exactly if their cross product is zero, and a direction of one half is the opposite of one of the other.
use Prim.Native.Nat.{ℕ, zero, suc, ◌+◌, ◌*◌, ◌<◌}
use native.Mathlib.Decide.{dec_lt}
use native.Mathlib.Omega.{arith}
use mathlib.Core.Path.{◌≡◌, refl}
use mathlib.Core.Logic.{◌⊎◌, inl, inr, ⊎_map}
use mathlib.Core.Bool.{true, false, ◌&&◌}
use lib.IntN.{ℤ, pos, negsuc, neg_ℤ, ◌+ℤ◌, ◌*ℤ◌}
use Rattle.base.proofs.BelowLaws.{not-held}
use Rattle.base.proofs.IntegerOrder.{up, down}
use Rattle.base.proofs.Differences.{Is, is-self, is_eq, is-unique, is-add, is_mul, le_iff}
use Rattle.convexity.specs.Directions.{SameDirection}
use Rattle.directions.specs.Round.{cross, positive, is_nil, first_half, precedes}
use Rattle.directions.proofs.Cross.{is-cross, cross-swap}
use Rattle.directions.proofs.Directions.{Above, Forward, Backward, Sooner, halves, forwards, backwards, opposite, precedes-trans}
use Rattle.directions.proofs.Corners.{Facing, ahead, back}
use Rattle.directions.proofs.Passing.{facing, positive-above, precedes-of, of-precedes}

-- ---- the same direction, as naturals

-- The cross product is zero, and the scalar product is above 0
abbrev Flat : ℤ → ℤ → ℤ → ℤ → Type 0
Flat dx dy ex ey =
    up dy * up ex + down dy * down ex + (up dx * down ey + down dx * up ey)
    ≡ up dy * down ex + down dy * up ex + (up dx * up ey + down dx * down ey)

abbrev Along : ℤ → ℤ → ℤ → ℤ → Type 0
Along dx dy ex ey =
    up dx * down ex + down dx * up ex + (up dy * down ey + down dy * up ey) < up dx * up ex + down dx * down ex +
    (up dy * up ey + down dy * down ey)

module _ (dx dy ex ey : ℤ) where
  crossed : Is (cross dx dy ex ey) (up dy * up ex + down dy * down ex + (up dx * down ey + down dx * up ey))
      (up dy * down ex + down dy * up ex + (up dx * up ey + down dx * down ey))
  crossed = is-cross (is-self dx) (is-self dy) (is-self ex) (is-self ey)

  scalar :
      Is (dx *ℤ ex +ℤ dy *ℤ ey) (up dx * up ex + down dx * down ex + (up dy * up ey + down dy * down ey))
      (up dx * down ex + down dx * up ex + (up dy * down ey + down dy * up ey))
  scalar = is-add (is_mul (is-self dx) (is-self ex)) (is_mul (is-self dy) (is-self ey))

  same_parts : SameDirection dx dy ex ey → Flat dx dy ex ey × Along dx dy ex ey
  same_parts same = (
    omega (arith, is_eq (is_mul (is-self dx) (is-self ey)) (is_mul (is-self dy) (is-self ex)) same.parallel),
    omega (arith, (le_iff (is-self (pos 1)) scalar).0 same.forward),
  )

  same_of : Flat dx dy ex ey → Along dx dy ex ey → SameDirection dx dy ex ey
  same_of f h =
      record {
        parallel = is-unique (is_mul (is-self dx) (is-self ey)) (is_mul (is-self dy) (is-self ex)) (omega arith);
        forward = (le_iff (is-self (pos 1)) scalar).1 (omega arith);
      }

-- ---- two directions of one half

-- Parallel directions of the first half are the same
across-along : (m n : ℕ) (dy ey : ℤ) → Flat (pos (suc m)) dy (pos (suc n)) ey → Along (pos (suc m)) dy (pos (suc n)) ey
across-along m n (pos b) (pos d) f = omega arith
across-along m n (pos b) (negsuc d) f = absurd (omega arith)
across-along m n (negsuc b) (pos d) f = absurd (omega arith)
across-along m n (negsuc b) (negsuc d) f = omega arith

flat-along : {dx dy ex ey : ℤ} → Forward dx dy → Forward ex ey → Flat dx dy ex ey → Along dx dy ex ey
flat-along (Forward.across {n = m} {dy = dy}) (Forward.across {n = n} {dy = ey}) f = across-along m n dy ey f
flat-along (Forward.across {n = m} {dy = dy}) (Forward.upward {n = n}) f = absurd (omega arith)
flat-along (Forward.upward {n = m}) (Forward.across {n = n} {dy = ey}) f = absurd (omega arith)
flat-along (Forward.upward {n = m}) (Forward.upward {n = n}) f = omega arith

-- Negation exchanges the positive and the negative part
up_neg : (z : ℤ) → up (neg_ℤ z) ≡ down z
up_neg (pos zero) = refl
up_neg (pos (suc n)) = refl
up_neg (negsuc n) = refl

down-neg : (z : ℤ) → down (neg_ℤ z) ≡ up z
down-neg (pos zero) = refl
down-neg (pos (suc n)) = refl
down-neg (negsuc n) = refl

-- Parallel directions of different halves are opposite
flat-against : {dx dy ex ey : ℤ} → Forward dx dy → Backward ex ey → Flat dx dy ex ey → Along dx dy ex ey → ⊥
flat-against {dx} {dy} {ex} {ey} d e f h =
    omega (arith, simp (up_neg, down-neg) at (flat-along d (opposite e) (simp (up_neg, down-neg) (omega arith))))

-- Parallel directions of the second half are the same
flat-along-back : {dx dy ex ey : ℤ} → Backward dx dy → Backward ex ey → Flat dx dy ex ey → Along dx dy ex ey
flat-along-back {dx} {dy} {ex} {ey} d e f =
    omega (arith, simp (up_neg, down-neg) at (flat-along (opposite d) (opposite e) (simp (up_neg, down-neg) (omega arith))))

-- ---- the laws

-- Of two directions of one half, one comes first, or they are the same
one-half :
    {dx dy ex ey : ℤ} → (Above (cross dx dy ex ey) → Sooner dx dy ex ey) → (Above (cross ex ey dx dy) → Sooner ex ey dx dy)
    → (Flat dx dy ex ey → Along dx dy ex ey) → Sooner dx dy ex ey ⊎ (Sooner ex ey dx dy ⊎ SameDirection dx dy ex ey)
one-half {dx} {dy} {ex} {ey} f g h =
    elim (dec_lt (down (cross dx dy ex ey)) (up (cross dx dy ex ey))) [
      | yes a ↦ inl (f a)
      | no a ↦
          elim (dec_lt (up (cross dx dy ex ey)) (down (cross dx dy ex ey))) [
            | yes b ↦ inr (inl (g (omega (arith, (cross-swap dx dy ex ey).eq))))
            | no b ↦
                let flat : Flat dx dy ex ey = omega (arith, (crossed dx dy ex ey).eq) in
                inr (inr (same_of dx dy ex ey flat (h flat)))
          ]
    ]

either-precedes : {dx dy ex ey : ℤ} → Facing dx dy → Facing ex ey → Sooner dx dy ex ey ⊎ (Sooner ex ey dx dy ⊎ SameDirection dx dy ex ey)
either-precedes (ahead d) (ahead e) = one-half (forwards d e) (forwards e d) (flat-along d e)
either-precedes (ahead d) (back e) = inl (halves d e)
either-precedes (back d) (ahead e) = inr (inl (halves e d))
either-precedes (back d) (back e) = one-half (backwards d e) (backwards e d) (flat-along-back d e)

pub precedes-not-same : {dx dy ex ey : ℤ} → Sooner dx dy ex ey → SameDirection dx dy ex ey → ⊥
precedes-not-same {dx} {dy} {ex} {ey} (halves d e) same = let s = same_parts dx dy ex ey same in flat-against d e s.0 s.1
precedes-not-same {dx} {dy} {ex} {ey} (forwards d e h) same = omega (arith, (crossed dx dy ex ey).eq, (same_parts dx dy ex ey same).0)
precedes-not-same {dx} {dy} {ex} {ey} (backwards d e h) same = omega (arith, (crossed dx dy ex ey).eq, (same_parts dx dy ex ey same).0)

-- (dx, dy) is not zero
abbrev pub NotNil : ℤ → ℤ → Type 0
NotNil dx dy = (is_nil dx && is_nil dy) ≡ false

-- Strict: if one comes before the other, they are not the same direction
pub strict : (dx dy ex ey : ℤ) → NotNil dx dy → NotNil ex ey → precedes dx dy ex ey ≡ true → SameDirection dx dy ex ey → ⊥
strict dx dy ex ey d e s = precedes-not-same (precedes-of (facing dx dy d) (facing ex ey e) s)

pub transitive :
    (dx dy ex ey fx fy : ℤ) → NotNil dx dy → NotNil ex ey → NotNil fx fy → precedes dx dy ex ey ≡ true → precedes ex ey fx fy ≡ true
    → precedes dx dy fx fy ≡ true
transitive dx dy ex ey fx fy d e f s t =
    let n = facing ex ey e in
    of-precedes (precedes-trans (precedes-of (facing dx dy d) n s) (precedes-of n (facing fx fy f) t))

-- Total up to direction
pub total-round :
    (dx dy ex ey : ℤ) → NotNil dx dy → NotNil ex ey
    → (precedes dx dy ex ey ≡ true) ⊎ ((precedes ex ey dx dy ≡ true) ⊎ SameDirection dx dy ex ey)
total-round dx dy ex ey d e = ⊎_map of-precedes (⊎_map of-precedes (λ s. s)) (either-precedes (facing dx dy d) (facing ex ey e))

-- Nothing comes before up
not-clockwise : (m : ℕ) (dy : ℤ) (n : ℕ) → positive (cross (pos m) dy (pos 0) (pos (suc n))) ≡ false
not-clockwise m dy n = not-held _ (λ e. omega (arith, positive-above _ e, (crossed (pos m) dy (pos 0) (pos (suc n))).eq))

pub up_first : (dx dy : ℤ) (n : ℕ) → precedes dx dy (pos 0) (pos (suc n)) ≡ false
unfolding precedes first_half positive is_nil
up_first (pos zero) (pos zero) n = refl
up_first (pos zero) (pos (suc b)) n = not-clockwise 0 (pos (suc b)) n
up_first (pos zero) (negsuc b) n = refl
up_first (pos (suc m)) dy n = not-clockwise (suc m) dy n
up_first (negsuc m) dy n = refl
