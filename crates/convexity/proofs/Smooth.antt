-- If no piece is dented, every factor is a Christoffel word, so the edges of each
-- piece stay close to its path and have decreasing slopes.
use Prim.Native.Nat.{ℕ, ◌<◌}
use native.Mathlib.Nat.{not-suc-le-zero}
use native.Mathlib.Omega.{arith}
use mathlib.Core.Path.{◌≡◌, refl}
use mathlib.Core.Bool.{Bool, true, false}
use mathlib.Core.List.{List, [], ◌∷◌}
use lib.ListN.{length}
use lib.Dec.{ltb}
use borrow.Author.Tests.{ltb-false}
use Rattle.words.specs.Lyndon.{Factor, Falling, no_factors, last, then, Proper}
use Rattle.words.specs.Christoffel.{christoffel, Christoffel}
use Rattle.base.proofs.BelowLaws.{first-none-at}
use Rattle.words.proofs.Christoffel.{christoffel-iff}
use Rattle.words.proofs.Factors.{factors-exist, falling-head}
use Rattle.words.proofs.Slope.{under-chord, near-chord, slope-of-less}
use Rattle.chart.specs.Outline.{Outline}
use Rattle.convexity.specs.Pieces.{word, factors, dent_length, dent_piece}
use Rattle.convexity.proofs.Frame.{Edge, Falls, EdgesFall}

-- Without a dent the first factor is a Christoffel word, and the others have no dent
pub dent-first : (f : Factor) (fs : List Factor) → Proper f → dent_length (f ∷ fs) ≡ 0 → Christoffel f.word × (dent_length fs ≡ 0)
unfolding dent_length
dent-first f fs p e = go (christoffel f.word) refl e
  where
    go : (b : Bool) → christoffel f.word ≡ b → ◌≡◌ {A = ℕ} (elim b [ true ↦ dent_length fs | false ↦ length f.word ]) 0
        → Christoffel f.word × (dent_length fs ≡ 0)
    go true c e' = ((christoffel-iff f.word).0 c, e')
    go false c e' = absurd (not-suc-le-zero (rw e' at p.lyndon.above_zero))

edge : (f : Factor) → Proper f → Christoffel f.word → Edge f
edge f p c =
    record {
      repeated = p.repeated;
      above_zero = p.lyndon.above_zero;
      hugs = record { under = under-chord f.word c; left = near-chord f.word c };
    }

edges-fall : (fs : List Factor) → Falling fs → dent_length fs ≡ 0 → EdgesFall fs
unfolding EdgesFall Falls
edges-fall [] no_factors e = tt
edges-fall (f ∷ []) (last p) e = (edge f p (dent-first f [] p e).0, tt, tt)
edges-fall (f ∷ g ∷ fs) (then p l r) e =
    let d = dent-first f (g ∷ fs) p e in
    let rest = edges-fall (g ∷ fs) r d.1 in
    (edge f p d.0, slope-of-less f.word g.word d.0 (dent-first g fs (falling-head r) d.1).0 l, rest)

-- No piece is dented
pub smooth-piece : (o : Outline) → dent_piece o ≡ 4 → (k : ℕ) → k < 4 → dent_length (factors o k) ≡ 0
unfolding dent_piece
smooth-piece o e k l = omega (arith, ltb-false 0 (dent_length (factors o k)) (first-none-at (λ k. ltb 0 (dent_length (factors o k))) 4 e k l))

-- So the slopes of each piece's edges decrease
pub smooth-edges : (o : Outline) → dent_piece o ≡ 4 → (k : ℕ) → k < 4 → EdgesFall (factors o k)
unfolding factors
smooth-edges o e k l = edges-fall (factors o k) (factors-exist (word o k)).falling (smooth-piece o e k l)
