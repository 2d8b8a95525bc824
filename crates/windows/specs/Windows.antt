-- A list that holds several values side by side, each in its own window.
use Rattle.std.specs.Prelude.{ℕ, zero, suc, List, [], ◌∷◌, take, drop}

-- The w elements from index a on
abbrev pub window : {A : Type 0} → ℕ → ℕ → List A → List A
window a w l = take w (drop a l)

-- f i, f (i + 1) and so on, n of them
unfoldable pub slots_from : {A : Type 0} → (ℕ → A) → ℕ → ℕ → List A
slots_from f i zero = []
slots_from f i (suc n) = f i ∷ slots_from f (suc i) n
