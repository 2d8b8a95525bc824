-- Equality tests of two integers and of two lists of integers.
use Rattle.std.specs.Prelude.{Bool, true, false, ◌&&◌, List, [], ◌∷◌, eqb, ℤ, pos, negsuc}

unfoldable pub sameℤ : ℤ → ℤ → Bool
sameℤ (pos a) (pos b) = eqb a b
sameℤ (pos a) (negsuc b) = false
sameℤ (negsuc a) (pos b) = false
sameℤ (negsuc a) (negsuc b) = eqb a b

unfoldable pub sameℤs : List ℤ → List ℤ → Bool
sameℤs [] [] = true
sameℤs [] (b ∷ fs) = false
sameℤs (a ∷ es) [] = false
sameℤs (a ∷ es) (b ∷ fs) = sameℤ a b && sameℤs es fs
