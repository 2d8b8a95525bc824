-- The letters from a place on and those before it, one behind the other, are the border.
use Prim.Native.Nat.{ℕ, ◌+◌, ◌-◌, ◌≤◌}
use native.Mathlib.Omega.{arith}
use mathlib.Core.Path.{◌≡◌, sym, ap, ◌∙◌}
use mathlib.Core.Bool.{true, false}
use mathlib.Core.List.{List, ◌++◌}
use borrow.Rule.Slice.PartMut.{put_mid}
use lib.ListN.{length, take, drop, length-drop, length-append}
use lib.Seq.{take_all, take_at, length-take-le}
use Rattle.std.proofs.lemmas.Slice.{take-put_mid}
use Rattle.convexity.specs.Clockwise.{backward}
use Rattle.convexity.proofs.Clockwise.{length-backward, backward-append}
use Rattle.clockwise_copy.specs.parts.ClockwiseCopy.{read_round}

-- One part of a buffer behind the other, from the buffer's beginning on
two-parts : (u v rest : List ℕ) (a k n : ℕ) → length u ≡ a → n ≡ a + length v → take n (put_mid a k (u ++ rest) v) ≡ u ++ v
two-parts u v rest a k n e l =
    take-put_mid a k (u ++ rest) v n l (omega (arith, length-append u rest)) ∙ ap (λ (x : List ℕ). x ++ v) (take_at u rest a e)

-- The letters from a place on and those up to it, as parts of a list
module _ (w : List ℕ) (from : ℕ) (h : from ≤ length w) where
  abbrev on : List ℕ
  on = take (length w - from) (drop from w)

  abbrev up_to : List ℕ
  up_to = take from w

  on-is : on ≡ drop from w
  on-is = take_all (length w - from) (drop from w) (omega (arith, length-drop from w))

  length-on : length on ≡ length w - from
  length-on = ap length on-is ∙ length-drop from w

  length-up-to : length up_to ≡ from
  length-up-to = length-take-le from w h

  module _ {u v : List ℕ} (rest : List ℕ) (k : ℕ) where
    pub round-forward : u ≡ on → v ≡ up_to → take (length w) (put_mid (length w - from) k (u ++ rest) v) ≡ read_round true from w
    unfolding read_round
    round-forward e f =
        two-parts u v rest (length w - from) k (length w) (ap length e ∙ length-on) (omega (arith, ap length f, length-up-to))
        ∙ (λ z. e z ++ f z) ∙ ap (λ (x : List ℕ). x ++ up_to) on-is

    pub round-backward : u ≡ backward up_to → v ≡ backward on → take (length w) (put_mid from k (u ++ rest) v) ≡ read_round false from w
    unfolding read_round
    round-backward e f =
        two-parts u v rest from k (length w) (ap length e ∙ length-backward up_to ∙ length-up-to)
        (omega (arith, ap length f, length-backward on, length-on))
        ∙ (λ z. e z ++ f z) ∙ sym (backward-append on up_to) ∙ ap (λ (x : List ℕ). backward (x ++ up_to)) on-is
