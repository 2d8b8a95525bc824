-- A Lyndon word is a Christoffel word exactly if no point straight above its path is on
-- or under the chord: both say that floors count its prefixes.
-- The word has two or more letters. Only points that an earlier letter leaves are tested. This is the dent criterion.
use Prim.Native.Nat.{◌<◌}
use native.Mathlib.Nat.{not-suc-le-zero}
use native.Mathlib.Omega.{arith}
use mathlib.Core.Path.{◌≡◌}
use mathlib.Core.Logic.{◌↔◌, ◌⊎◌, inl, inr, ⊎_elim}
use mathlib.Core.Bool.{true}
use mathlib.Core.List.{[], ◌∷◌}
use lib.ListN.{length}
use Rattle.words.specs.Word.{Word}
use Rattle.words.specs.Lyndon.{Lyndon}
use Rattle.words.specs.Christoffel.{Christoffel, single, christoffel}
use Rattle.words.proofs.Factors.{lyndon-lower}
use Rattle.words.proofs.Christoffel.{christoffel-iff, christoffel-floors}
use Rattle.words.proofs.Dent.{Above, dent-floors, floors-no-above, above-dec}

pub dent-criterion : (w : Word) → Lyndon w → 1 < length w → Christoffel w ↔ (Above w → ⊥)
dent-criterion w l long = (
  λ c. let f = (christoffel-floors w).0 c in floors-no-above w f.above_zero f.count,
  λ flat.
      let f = dent-floors w (lyndon-lower l) flat long in
      (christoffel-floors w).1 (record { above_zero = l.above_zero; coprime = f.0; count = f.1 }),
)

-- A Lyndon word is a Christoffel word, or has such a point
pub christoffel-or-above : (w : Word) → Lyndon w → (christoffel w ≡ true) ⊎ Above w
christoffel-or-above [] l = absurd (not-suc-le-zero l.above_zero)
christoffel-or-above (a ∷ []) l = inl ((christoffel-iff (a ∷ [])).1 (single a))
christoffel-or-above (a ∷ b ∷ w) l =
    ⊎_elim inr
    (λ flat. inl ((christoffel-iff (a ∷ b ∷ w)).1 ((dent-criterion (a ∷ b ∷ w) l (omega arith)).1 flat)))
    (above-dec (a ∷ b ∷ w))
