-- A pair at the front of a list is two stores, if the list has room for two numbers.
use Prim.Native.Nat.{◌≤◌, ◌<◌}
use native.Mathlib.Omega.{arith}
use mathlib.Core.Path.{◌≡◌, refl}
use mathlib.Core.List.{List, [], ◌∷◌}
use lib.ListN.{length, set}
use lib.Ieee.{Float}
use Rattle.drawing.specs.Points.{pair_after}

pub pair-short : (x y : Float) (l : List Float) → length l < 2 → pair_after x y l ≡ l
unfolding pair_after
pair-short x y [] h = refl
pair-short x y (a ∷ []) h = refl
pair-short x y (a ∷ b ∷ l) h = absurd (omega arith)

pub pair-sets : (x y : Float) (l : List Float) → 2 ≤ length l → set (set l 0 x) 1 y ≡ pair_after x y l
unfolding pair_after
pair-sets x y [] h = absurd (omega arith)
pair-sets x y (a ∷ []) h = absurd (omega arith)
pair-sets x y (a ∷ b ∷ l) h = refl
