-- On which side of an edge a point lies does not depend on where the path starts, since a
-- shift cancels in each inequality; and each side is a half plane.
use Prim.Native.Nat.{ℕ, ◌+◌, ◌-◌, ◌*◌, ◌≤◌, ◌<◌}
use native.Mathlib.Nat.{add_assoc, add-zero, le_refl}
use native.Mathlib.Decide.{dec_le}
use native.Mathlib.Omega.{arith}
use mathlib.Core.Path.{◌≡◌}
use mathlib.Core.Logic.Iff
use mathlib.Core.Logic.{◌↔◌}
use mathlib.Core.List.{List, [], ◌∷◌}
use Rattle.words.specs.Word.{earliers, laters}
use Rattle.words.specs.Lyndon.{Factor, written}
use Rattle.base.proofs.Mean.{Mean, mean-line, mean-le}
use Rattle.convexity.proofs.Frame.{Under, Sides, EdgesFall, run, rise, sides-mono, under-iff-sides}
use Rattle.convexity.specs.parts.InFrame.{UnderFrom}

-- A lower point stays on the right side of every edge
pub sides-lower : (fs : List Factor) (vp vq p q q' : ℕ) → q' ≤ q → Sides fs vp vq p q → Sides fs vp vq p q'
sides-lower fs vp vq p q q' h = sides-mono fs vp vq p q p q' (le_refl p) h

pub sides-shift : (fs : List Factor) (a b vp vq p q : ℕ) → Sides fs (a + vp) (b + vq) (a + p) (b + q) ↔ Sides fs vp vq p q
unfolding Sides
sides-shift [] a b vp vq p q = ((λ s. tt), (λ s. tt))
sides-shift (f ∷ fs) a b vp vq p q =
    let rest = sides-shift fs a b (vp + run f) (vq + rise f) p q in (
      λ s. (omega (arith, s.0), rest.0 (rw (add_assoc a vp (run f), add_assoc b vq (rise f)) at s.1)),
      λ s. (omega (arith, s.0), rw (add_assoc a vp (run f), add_assoc b vq (rise f)) (rest.1 s.1)),
    )

-- Under a path from any start: subtract the start. If q is below the start, the path's first point is enough
pub underfrom-iff-sides :
    (fs : List Factor) → EdgesFall fs → (vp vq p q : ℕ) → vp ≤ p → q ≤ vq + laters (written fs)
    → UnderFrom (written fs) vp vq p q ↔ Sides fs vp vq p q
unfolding earliers laters
underfrom-iff-sides fs h vp vq p q across up =
    elim (dec_le vq q) [
      | yes k ↦ Iff.trans to_start (Iff.trans (under-iff-sides fs h (p - vp) (q - vq) (omega arith)) (from_start q (omega arith)))
      | no k ↦ (
        λ u. sides-lower fs vp vq p vq q (omega arith)
            ((from_start vq (omega arith)).0 ((under-iff-sides fs h (p - vp) (q - vq) (omega arith)).0 (to_start.0 u))),
        λ s. first k,
      )
    ]
  where
    to_start : UnderFrom (written fs) vp vq p q ↔ Under (written fs) (p - vp) (q - vq)
    to_start = (
      λ u. record { upto = u.upto; within = u.within; left = omega (arith, u.left); high = omega (arith, u.high) },
      λ u. record { upto = u.upto; within = u.within; left = omega (arith, u.left); high = omega (arith, u.high) },
    )

    from_start : (m : ℕ) → m ≡ vq + (q - vq) → Sides fs 0 0 (p - vp) (q - vq) ↔ Sides fs vp vq p m
    from_start m e =
        let back : vp + (p - vp) ≡ p = omega arith in
        Iff.symm (rw (add-zero vp, add-zero vq, back, ← e) at (sides-shift fs vp vq 0 0 (p - vp) (q - vq)))

    first : ¬ (vq ≤ q) → UnderFrom (written fs) vp vq p q
    first k = record { upto = 0; within = omega arith; left = omega arith; high = omega arith }

-- A mean of three points on the right side of every edge is on it too
pub sides-mean :
    (fs : List Factor) (vp vq a b c p q p₁ q₁ p₂ q₂ p₃ q₃ : ℕ) → 0 < a + b + c → Mean a b c p p₁ p₂ p₃ → Mean a b c q q₁ q₂ q₃
    → Sides fs vp vq p₁ q₁ → Sides fs vp vq p₂ q₂ → Sides fs vp vq p₃ q₃ → Sides fs vp vq p q
unfolding Sides
sides-mean [] vp vq a b c p q p₁ q₁ p₂ q₂ p₃ q₃ some cols rows s₁ s₂ s₃ = tt
sides-mean (f ∷ fs) vp vq a b c p q p₁ q₁ p₂ q₂ p₃ q₃ some cols rows s₁ s₂ s₃ = (
  mean-le a b c _ _ _ _ _ _ _ _ some (mean-line (run f) (rise f * vp) a b c q q₁ q₂ q₃ rows)
      (mean-line (rise f) (run f * vq) a b c p p₁ p₂ p₃ cols)
      s₁.0 s₂.0 s₃.0,
  sides-mean fs (vp + run f) (vq + rise f) a b c p q p₁ q₁ p₂ q₂ p₃ q₃ some cols rows s₁.1 s₂.1 s₃.1,
)
