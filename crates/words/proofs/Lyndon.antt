-- A word is smaller than its other rotations exactly if it differs from each of its proper suffixes: if a suffix were also a prefix, each
-- of the two rotations that it gives would be smaller than the other.
use Prim.Native.Nat.{ℕ, ◌+◌, ◌<◌}
use native.Mathlib.Omega.{arith}
use mathlib.Core.Path.{◌≡◌, sym, ap, ◌∙◌, subst}
use mathlib.Core.Logic.{◌↔◌}
use mathlib.Core.Bool.{Bool}
use mathlib.Core.List.{[], ◌∷◌, ◌++◌}
use lib.ListN.{length, take, drop, length-append, length-drop, take-append-drop}
use lib.Seq.{length-take-le, take-append_seam, drop-append_seam}
use Rattle.words.specs.Word.{Word, Less, differs, Differs}
use Rattle.words.specs.Lyndon.{Lyndon, rotation}
use Rattle.words.proofs.Order.{Compared, lower, higher, shorter, longer, compared, less-asymm, less-cancel, differs-append}
use Rattle.words.proofs.Order.{differs-append-left, differs-append-right, differs-of-less}

-- Smaller than each of its proper suffixes
pub record BySuffixes (w : Word) : Type 0 where
  pub above_zero : 0 < length w
  pub smaller : (u v : Word) → w ≡ u ++ v → 0 < length u → 0 < length v → Less w v

-- Each proper suffix first differs from the word where the word has the earlier letter: no suffix is a prefix
pub record ByDifferences (w : Word) : Type 0 where
  pub above_zero : 0 < length w
  pub lower : (u v : Word) → w ≡ u ++ v → 0 < length u → 0 < length v → Differs w v

-- The lengths of the two parts of a word
pub length_cut : {w : Word} (u v : Word) → w ≡ u ++ v → length w ≡ length u + length v
length_cut u v e = ap length e ∙ length-append u v

-- The rotation that starts after u
pub rotation-append : (u v : Word) → rotation (length u) (u ++ v) ≡ v ++ u
unfolding rotation
rotation-append u v = simp (take-append_seam, drop-append_seam)

pub less-rotation : {w : Word} (u v : Word) → Lyndon w → w ≡ u ++ v → 0 < length u → 0 < length v → Less w (v ++ u)
less-rotation {w} u v l e hu hv =
    subst (λ (x : Word). Less w x) (ap (rotation (length u)) e
    ∙ rotation-append u v) (l.least (length u) hu (omega (arith, length_cut u v e)))

differences-of-lyndon : (w : Word) → Lyndon w → ByDifferences w
differences-of-lyndon w l = record { above_zero = l.above_zero; lower = λ u v e hu hv. go u v e hu hv (compared w v) }
  where
    go : (u v : Word) → w ≡ u ++ v → 0 < length u → 0 < length v → Compared w v → Differs w v
    go u v e hu hv (lower d) = d
    go u v e hu hv (higher d) = absurd (less-asymm (less-rotation u v l e hu hv) (differs (differs-append-left u d)))
    go u v e hu hv (shorter t f) = absurd (omega (arith, length_cut u v e, length_cut w t f))
    go u v e hu hv (longer t f) = absurd (less-asymm uv<tv (differs (differs-append v v t<u)))
      where
        t<u : Differs t u
        t<u =
            differs-of-less ((less-cancel v t u).0 (subst (λ (x : Word). Less x (v ++ u)) f (less-rotation u v l e hu hv)))
            (omega (arith, length_cut u v e, length_cut v t f))

        uv<tv : Less (u ++ v) (t ++ v)
        uv<tv = subst (λ (x : Word). Less x (t ++ v)) e (less-rotation v t l f hv (omega (arith, length_cut u v e, length_cut v t f)))

suffixes-of-differences : (w : Word) → ByDifferences w → BySuffixes w
suffixes-of-differences w b = record { above_zero = b.above_zero; smaller = λ u v e hu hv. differs (b.lower u v e hu hv) }

lyndon-of-suffixes : (w : Word) → BySuffixes w → Lyndon w
unfolding rotation
lyndon-of-suffixes w b = record { above_zero = b.above_zero; least = λ i h k. differs (differs-append-right (take i w) (cut i h k)) }
  where
    cut : (i : ℕ) → 0 < i → i < length w → Differs w (drop i w)
    cut i h k =
        differs-of-less
        (b.smaller (take i w) (drop i w) (sym (take-append-drop i w)) (omega (arith, length-take-le i w (omega arith)))
        (omega (arith, length-drop i w)))
        (omega (arith, length-drop i w))

-- Smaller than every other rotation, and smaller than every proper suffix, are equivalent
pub lyndon-suffixes : (w : Word) → Lyndon w ↔ BySuffixes w
lyndon-suffixes w = (λ l. suffixes-of-differences w (differences-of-lyndon w l), lyndon-of-suffixes w)

pub lyndon-differences : (w : Word) → Lyndon w ↔ ByDifferences w
lyndon-differences w = (differences-of-lyndon w, λ b. lyndon-of-suffixes w (suffixes-of-differences w b))

-- A single letter is a Lyndon word
pub lyndon-single : (a : Bool) → Lyndon (a ∷ [])
lyndon-single a = record { above_zero = omega arith; least = λ i h k. absurd (omega arith) }
