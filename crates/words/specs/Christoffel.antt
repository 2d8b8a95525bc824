-- Christoffel words by remainders (contract 3.10).
use Rattle.std.specs.Prelude.{ℕ, suc, ◌+◌, ◌-◌, ◌*◌, ◌%◌, ◌<◌, ◌≤◌, ◌≡◌, ◌↔◌, Bool, true, false, not, ◌&&◌, [], ◌∷◌, length, get_or, ltb, eqb}
use Rattle.std.specs.Bool.{beq}
use Rattle.base.specs.Below.{every}
use Rattle.words.specs.Word.{Word, laters}

-- k and n have no common divisor except 1
unfoldable pub Coprime : ℕ → ℕ → Type 0
Coprime k n = (d a b : ℕ) → d * a ≡ k → d * b ≡ n → d ≤ 1

-- Letter i, from 1 to n, is the earlier one exactly if i·k mod n is larger than (i − 1)·k mod n
unfoldable pub Remainders : Word → ℕ → ℕ → Type 0
Remainders w k n = (i : ℕ) → 1 ≤ i → i ≤ n → (get_or w (i - 1) false ≡ false) ↔ ((i - 1) * k % n < i * k % n)

-- A single letter; or a longer word whose count k of later letters is coprime to its length, and whose letters follow the remainders of k
pub data Christoffel : Word → Type 0 where
  single : (a : Bool) → Christoffel (a ∷ [])
  longer : {w : Word} → 1 < length w → Coprime (laters w) (length w) → Remainders w (laters w) (length w) → Christoffel w

-- The same as a test (proofs/Christoffel.antt: `christoffel-iff`)
unfoldable pub coprime : ℕ → ℕ → Bool
coprime k n = every (λ i. not (eqb (k % (i + 2)) 0 && eqb (n % (i + 2)) 0)) (n - 1)

unfoldable pub remainders : Word → ℕ → ℕ → Bool
remainders w k n = every (λ i. beq (not (get_or w i false)) (ltb (i * k % n) (suc i * k % n))) n

unfoldable pub christoffel : Word → Bool
christoffel [] = false
christoffel (a ∷ []) = true
christoffel (a ∷ b ∷ w) = let v = a ∷ b ∷ w in coprime (laters v) (length v) && remainders v (laters v) (length v)
