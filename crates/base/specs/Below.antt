-- Tests of the numbers below a bound: whether all pass, whether some pass, and which passes first.
use Rattle.std.specs.Prelude.{ℕ, zero, suc, Bool, true, false, ◌&&◌, ltb}

-- f holds for every number below n
unfoldable pub every : (ℕ → Bool) → ℕ → Bool
every f zero = true
every f (suc n) = every f n && f n

-- One step of the search: if an earlier number a was found, keep it. Otherwise the
-- answer is n if the test passes there, and n + 1 if it fails
unfoldable pub further : Bool → Bool → ℕ → ℕ → ℕ
further true b a n = a
further false true a n = n
further false false a n = suc n

-- The least number below n for which f holds, or n if there is none
unfoldable pub first : (ℕ → Bool) → ℕ → ℕ
first f zero = zero
first f (suc n) = further (ltb (first f n) n) (f n) (first f n) n

-- f holds for some number below n
unfoldable pub some_below : (ℕ → Bool) → ℕ → Bool
some_below f n = ltb (first f n) n
