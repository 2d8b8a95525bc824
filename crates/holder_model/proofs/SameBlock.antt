-- Testing every cell of the chart decides whether two outlines that pass 1 to 6 enclose the same cells, because neither encloses a cell off
-- the chart. They do exactly if they have the same border.
use Prim.Native.Nat.{ℕ, ◌<◌}
use native.Mathlib.Decide.{dec_lt}
use native.Mathlib.Omega.{arith}
use mathlib.Core.Path.{◌≡◌, refl, sym, ◌∙◌}
use mathlib.Core.Logic.{◌↔◌, inl, inr}
use mathlib.Core.Bool.{Bool, true, false, beq, false≢true}
use Rattle.base.proofs.BelowLaws.{every-at, every_of}
use Rattle.chart.specs.Limits.{side}
use Rattle.chart.specs.Outline.{Outline}
use Rattle.lattice.specs.Refusals.{Simple}
use Rattle.convexity.specs.Clockwise.{border, block}
use Rattle.convexity.specs.SameBlock.{SameCells}
use Rattle.convexity.proofs.SameBlock.{same-from-w-iff, open-off}
use Rattle.holder_model.specs.Book.{same_block}

beq_same : (a b : Bool) → beq a b ≡ true → a ≡ b
beq_same true true e = refl
beq_same true false e = absurd (false≢true e)
beq_same false true e = absurd (false≢true e)
beq_same false false e = refl

same-beq : (a b : Bool) → a ≡ b → beq a b ≡ true
same-beq true true e = refl
same-beq true false e = sym e
same-beq false true e = e
same-beq false false e = refl

module _ (o v : Outline) (h : Simple o) (k : Simple v) where
  off_chart : (c r : ℕ) → (c < side → r < side → block o c r ≡ block v c r) → block o c r ≡ block v c r
  off_chart c r on =
      elim (dec_lt c side) [
        | yes a ↦
            elim (dec_lt r side) [
              | yes b ↦ on a b
              | no b ↦ open-off o h c r (inr (omega arith)) ∙ sym (open-off v k c r (inr (omega arith)))
            ]
        | no a ↦ open-off o h c r (inl (omega arith)) ∙ sym (open-off v k c r (inl (omega arith)))
      ]

  pub same-block-iff : (same_block o v ≡ true) ↔ SameCells o v
  unfolding same_block
  same-block-iff = (
    λ e c r. off_chart c r λ a b. beq_same (block o c r) (block v c r)
        (every-at (λ c. beq (block o c r) (block v c r)) side (every-at _ side e r b) c a),
    λ same. every_of _ side (λ r b. every_of _ side (λ c a. same-beq (block o c r) (block v c r) (same c r))),
  )

  -- The same border means the same block, and the other way round
  pub same-border-iff : (same_block o v ≡ true) ↔ (border o ≡ border v)
  same-border-iff = (
    λ e. (same-from-w-iff o v h k).0 (same-block-iff.0 e),
    λ e. same-block-iff.1 ((same-from-w-iff o v h k).1 e),
  )
