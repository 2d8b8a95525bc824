-- Tests of the members of a list: whether all pass, and whether some pass.
use Rattle.std.specs.Prelude.{Bool, true, false, ◌&&◌, ◌||◌, List, [], ◌∷◌}

unfoldable pub all_pass : {A : Type 0} → (A → Bool) → List A → Bool
all_pass f [] = true
all_pass f (x ∷ xs) = f x && all_pass f xs

unfoldable pub some_pass : {A : Type 0} → (A → Bool) → List A → Bool
some_pass f [] = false
some_pass f (x ∷ xs) = f x || some_pass f xs
