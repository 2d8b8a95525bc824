-- The first min(n, m) members of a list of m members are that many, since the minimum is at most m.
use Prim.Native.Nat.{ℕ, min}
use native.Mathlib.Omega.{arith}
use mathlib.Core.Path.{◌≡◌, sym}
use mathlib.Core.List.{List}
use lib.ListN.{length, take}
use lib.Seq.{length-take-le}

pub first-length : {A : Type 0} (l : List A) (m n r : ℕ) → length l ≡ m → r ≡ min n m → r ≡ length (take r l)
first-length l m n r e h = sym (length-take-le r l (omega arith))
