-- Quadrants and runs by the machine's tests: each pair of signs is a clause of the definition.
use Prim.Native.Nat.{ℕ, zero, suc, ◌%◌}
use native.Mathlib.Omega.{arith}
use mathlib.Core.Path.{◌≡◌, refl}
use mathlib.Core.Bool.{cond}
use lib.IntN.{ℤ, pos, negsuc, nat_abs, neg_ℤ}
use lib.Signed.{lt_z}
use borrow.Author.Tests.{le-ltb}
use Rattle.convexity.specs.FromEdges.{quadrant_of, run_in}
use Rattle.directions.specs.Round.{positive}
use Rattle.polygon.proofs.Integers.{positive-machine}

pub below-machine : (a : ℤ) → lt_z a (pos 0) ≡ positive (neg_ℤ a)
unfolding positive
below-machine (pos zero) = refl
below-machine (pos (suc a)) = le-ltb (suc a) 0 (omega arith)
below-machine (negsuc a) = refl

-- The quadrant, by four tests
pub quadrant-tests :
    (dx dy : ℤ)
    → quadrant_of dx dy
    ≡ cond (positive dx) (cond (positive dy) 0 1)
    (cond (positive (neg_ℤ dx)) (cond (positive (neg_ℤ dy)) 2 3) (cond (positive dy) 0 (cond (positive (neg_ℤ dy)) 2 4)))
unfolding quadrant_of positive
quadrant-tests (pos zero) (pos zero) = refl
quadrant-tests (pos zero) (pos (suc b)) = refl
quadrant-tests (pos zero) (negsuc b) = refl
quadrant-tests (pos (suc a)) (pos zero) = refl
quadrant-tests (pos (suc a)) (pos (suc b)) = refl
quadrant-tests (pos (suc a)) (negsuc b) = refl
quadrant-tests (negsuc a) (pos zero) = refl
quadrant-tests (negsuc a) (pos (suc b)) = refl
quadrant-tests (negsuc a) (negsuc b) = refl

pub ruleset quadrants = (quadrant-tests, positive-machine, below-machine)

-- ---- runs alternate

pub run-even : (k : ℕ) (dx dy : ℤ) → k % 2 ≡ 0 → run_in k dx dy ≡ nat_abs dx
unfolding run_in
run-even zero dx dy h = refl
run-even (suc zero) dx dy h = absurd (omega arith)
run-even (suc (suc k)) dx dy h = run-even k dx dy (omega arith)

pub run-odd : (k : ℕ) (dx dy : ℤ) → (k % 2 ≡ 0 → ⊥) → run_in k dx dy ≡ nat_abs dy
unfolding run_in
run-odd zero dx dy h = absurd (h refl)
run-odd (suc zero) dx dy h = refl
run-odd (suc (suc k)) dx dy h = run-odd k dx dy (λ e. h (omega arith))

pub ruleset runs = (run-even, run-odd)
