-- A function of a letter has four cases, of which the last covers all letters from 3 on: its value follows from the case that holds.
use Prim.Native.Nat.{ℕ, zero, suc, ◌≤◌}
use native.Mathlib.Omega.{arith}
use mathlib.Core.Path.{◌≡◌, sym, ap}

pub clause : (f : ℕ → ℕ) (k a : ℕ) → a ≡ k → f k ≡ f a
clause f k a e = ap f (sym e)

pub last-clause : (f : ℕ → ℕ) → ((a : ℕ) → f (suc (suc (suc a))) ≡ f 3) → (a : ℕ) → 3 ≤ a → f 3 ≡ f a
last-clause f same zero h = absurd (omega arith)
last-clause f same (suc zero) h = absurd (omega arith)
last-clause f same (suc (suc zero)) h = absurd (omega arith)
last-clause f same (suc (suc (suc a))) h = sym (same a)
