-- While W, N, E and S come in this order, the cut places are their places, because each
-- piece leads on to the next corner and the last one back to W.
-- The pieces are then parts of the walk. Each of these corners is first in the order of its own frame, and the same two letters cannot
-- meet at a corner that is first in two frames.
use Prim.Native.Nat.{ℕ, zero, suc, ◌+◌, ◌-◌, ◌≤◌, ◌<◌}
use native.Mathlib.Decide.{dec_lt}
use native.Mathlib.Omega.{arith}
use mathlib.Core.Path.{◌≡◌, refl, ap, ◌∙◌}
use mathlib.Core.Logic.{inl, inr, ◌≢◌}
use mathlib.Core.List.{List, ◌++◌}
use lib.ListN.{length, get_or, take, drop, length-take, length-drop}
use lib.Seq.{take-append-le, drop-append-le, get_or-take, get_or-drop}
use borrow.Author.Tests.{le-leb, lt-leb, lt-ltb}
use Rattle.base.proofs.BelowLaws.{below_suc, below-four}
use Rattle.chart.specs.Outline.{Outline}
use Rattle.lattice.specs.Chart.{corner_at, size, letter_at}
use Rattle.lattice.proofs.RightHand.{arriving-up}
use Rattle.convexity.specs.Frame.{Frame, frame_of, next}
use Rattle.convexity.specs.Cut.{corner_place, ahead, cut_corner, cut}
use Rattle.convexity.specs.Pieces.{rounds, piece}
use Rattle.convexity.specs.Clockwise.{opposite}
use Rattle.convexity.specs.Shape.{WalkFromW}
use Rattle.convexity.proofs.Ring.{next-lt, Apart, apart, Turns, turns}
use Rattle.convexity.proofs.Levels.{from-w-first, from-w-lowest}
use Rattle.convexity.proofs.Extreme.{FirstAt, first-at-corner_place, Bend, by-later, by-earlier, previous, corner-round, bend}

-- ---- the cut places

pub ahead-on : (n a b : ℕ) → a ≤ b → ahead n a b ≡ b - a
unfolding ahead
ahead-on n a b h = rw (le-leb a b h)

pub ahead-round : (n a b : ℕ) → b < a → ahead n a b ≡ b + n - a
unfolding ahead
ahead-round n a b h = rw (lt-leb a b h)

module _ (o : Outline) where
  pub cut_step : (k : ℕ) → cut o (suc k) ≡ cut o k + ahead (size o) (cut_corner o k) (cut_corner o (suc k))
  unfolding cut
  cut_step k = refl

  pub cut-zero : cut o 0 ≡ 0
  unfolding cut
  cut-zero = refl

  pub corner-west : cut_corner o 0 ≡ 0
  unfolding cut_corner
  corner-west = refl

  -- While the first corners of the pieces come in order, the cut places are their places; from the last one the walk leads back to W
  pub cut_on : (k : ℕ) → cut o k ≡ cut_corner o k → cut_corner o k ≤ cut_corner o (suc k) → cut o (suc k) ≡ cut_corner o (suc k)
  cut_on k e l = omega (arith, cut_step k, ahead-on (size o) (cut_corner o k) (cut_corner o (suc k)) l)

  module _ (cuts : (k : ℕ) → k < 4 → cut o k ≡ cut_corner o k) (rise : (k : ℕ) → k < 3 → cut_corner o k < cut_corner o (suc k))
      (below : cut_corner o 3 < size o) where
    pub cut-round : cut o 4 ≡ size o
    unfolding cut_corner
    cut-round =
        omega (arith, cut_step 3, cuts 3 (omega arith), ahead-round (size o) (corner_place o 3) 0 (omega (arith, rise 2 (omega arith))))

    pub cuts-rise : (k : ℕ) → k < 4 → cut o k < cut o (suc k)
    cuts-rise k h =
        elim (below_suc k 3 h) [
          | inl e ↦ rw e (omega (arith, cut-round, cuts 3 (omega arith)))
          | inr l ↦ omega (arith, cuts k h, cuts (suc k) (omega arith), rise k l)
        ]

    pub cuts_fit : (k : ℕ) → k < 4 → cut o (suc k) ≤ size o
    cuts_fit k h =
        let a = cuts-rise 1 (omega arith) in
        let b = cuts-rise 2 (omega arith) in
        let c = cuts-rise 3 (omega arith) in
        let d = cut-round in
        below-four (λ k. cut o (suc k) ≤ size o) (omega arith) (omega arith) (omega arith) (omega arith) k h

  -- If they lie within the walk, the pieces are parts of it
  module _ (fits : (k : ℕ) → k < 4 → cut o (suc k) ≤ size o) where
    pub piece-part : (k : ℕ) → k < 4 → piece o k ≡ take (cut o (suc k) - cut o k) (drop (cut o k) o.letters)
    unfolding piece rounds
    piece-part k h =
        let r : List ℕ = o.letters ++ (o.letters ++ o.letters) in
        let a : ℕ = cut o k in
        let b : ℕ = cut o (suc k) in
        let l : a ≤ size o = omega (arith, cut_step k, fits k h) in
        let m : b - a ≤ length (drop a o.letters) = simp length-drop (omega (arith, fits k h)) in
        ap (take (b - a)) (drop-append-le a o.letters r l) ∙ take-append-le (b - a) (drop a o.letters) r m

    pub piece-length : (k : ℕ) → k < 4 → length (piece o k) ≡ cut o (suc k) - cut o k
    piece-length k h = rw (piece-part k h) (simp (length-take, length-drop) (omega (arith, fits k h)))

    pub piece-at : (k : ℕ) → k < 4 → (i : ℕ) → i < cut o (suc k) - cut o k → get_or (piece o k) i 0 ≡ letter_at o (cut o k + i)
    piece-at k h i l =
        rw (piece-part k h) (get_or-take (cut o (suc k) - cut o k) (drop (cut o k) o.letters) i 0 l ∙ get_or-drop (cut o k) o.letters i 0)

-- ---- the first corners of the pieces

pub previous-zero : (n : ℕ) → previous n 0 ≡ n - 1
unfolding previous
previous-zero n = refl

pub previous-pos : (n i : ℕ) → 0 < i → previous n i ≡ i - 1
unfolding previous
previous-pos n zero h = absurd (omega arith)
previous-pos n (suc i) h = omega arith

-- No corner is first in a frame and in the next one
bends-differ : (f g : Frame) (a b : ℕ) → Apart f → Turns f g → Bend f a b → Bend g a b → ⊥
bends-differ f g a b h t (by-later p q) (by-later p' q') = omega arith
bends-differ f g a b h t (by-later p q) (by-earlier p' q') = omega arith
bends-differ f g a b h t (by-earlier p q) (by-later p' q') = omega arith
bends-differ f g a b h t (by-earlier p q) (by-earlier p' q') = omega arith

-- A corner reached by a left and left by an up is first in frame 0 only
west-only : (k : ℕ) → 0 < k → Bend (frame_of k) 2 1 → ⊥
unfolding frame_of opposite
west-only zero h b = omega arith
west-only (suc zero) h (by-later p q) = omega arith
west-only (suc zero) h (by-earlier p q) = omega arith
west-only (suc (suc zero)) h (by-later p q) = omega arith
west-only (suc (suc zero)) h (by-earlier p q) = omega arith
west-only (suc (suc (suc k))) h (by-later p q) = omega arith
west-only (suc (suc (suc k))) h (by-earlier p q) = omega arith

module _ (o : Outline) (h : WalkFromW o) where
  pub corner-first : (k : ℕ) → k < 4 → FirstAt o k (cut_corner o k)
  unfolding cut_corner
  corner-first zero l = from-w-first o h
  corner-first (suc k) l = rw (lt-ltb k 3 (omega arith)) (first-at-corner_place o (suc k) (omega (arith, h.walked.long)))

  pub corners-differ : (k : ℕ) → k < 4 → cut_corner o k ≢ cut_corner o (next k)
  corners-differ k l e =
      bends-differ (frame_of k) (frame_of (next k)) _ _ (apart k) (turns k) (bend o h.walked k (cut_corner o k) (corner-first k l))
      (bend o h.walked (next k) (cut_corner o k) (rw e (corner-first (next k) (next-lt k))))

  module _ (up : letter_at o 0 ≡ 1) where
    pub coming-west : letter_at o (size o - 1) ≡ 2
    coming-west =
        let l : suc (size o - 1) ≡ size o = omega (arith, h.walked.long) in
        arriving-up o h.walked 0 (from-w-lowest o h) (size o - 1) (omega arith) (ap (corner_at o) l ∙ corner-round o h.walked) up

    pub corner-after : (k : ℕ) → 0 < k → k < 4 → 0 < cut_corner o k
    unfolding previous
    corner-after k z l =
        elim (dec_lt 0 (cut_corner o k)) [
          | yes m ↦ m
          | no m ↦
              let e : cut_corner o k ≡ 0 = omega arith in
              absurd (west-only k z (rw (coming-west, up) at (bend o h.walked k 0 (rw e at (corner-first k l)))))
        ]
