-- The checker computes the definition on single words, so these rows hold by computation.
use mathlib.Core.Path.{◌≡◌, refl}
use mathlib.Core.Bool.{true, false}
use mathlib.Core.List.{[], ◌∷◌}
use Rattle.base.specs.Below.{every}
use Rattle.words.specs.Word.{laters}
use Rattle.words.specs.Christoffel.{coprime, remainders, christoffel}

-- 00101 is a Christoffel word
pub follows : christoffel (false ∷ false ∷ true ∷ false ∷ true ∷ []) ≡ true
unfolding christoffel coprime remainders laters every
follows = refl

-- 001101 is a palindrome between its end letters, but not a Christoffel word
pub palindrome-none : christoffel (false ∷ false ∷ true ∷ true ∷ false ∷ true ∷ []) ≡ false
unfolding christoffel coprime remainders laters every
palindrome-none = refl
