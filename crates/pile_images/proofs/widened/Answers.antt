-- The columns before k are copied, and the rest is zero.
use Prim.Native.Nat.{ℕ, ◌≤◌, ◌<◌}
use native.Mathlib.Decide.{dec_lt}
use native.Mathlib.Omega.{arith}
use mathlib.Core.Path.{◌≡◌, refl, sym, ◌∙◌}
use mathlib.Core.Logic.{inl, inr}
use mathlib.Core.List.{List}
use lib.ListN.{length, length-set, length-replicate, replicate, get_or-replicate, get_or-eq_default}
use lib.Seq.{get_or-set_same, get_or-set_other}
use Rattle.base.proofs.BelowLaws.{below_suc}
use Rattle.chart.specs.Limits.{corners}
use Rattle.rows.specs.parts.Rows.{rows}
use Rattle.pile_images.proofs.widened.Goals as goal

past : (l : List ℕ) (k : ℕ) → length l ≤ k → rows l k ≡ 0
past l k h = get_or-eq_default l 0 h

zeros : (m : ℕ) → rows (replicate corners 0) m ≡ 0
zeros m =
    elim (dec_lt m corners) [
      | yes l ↦ get_or-replicate {A = ℕ} corners m 0 0 l
      | no l ↦ past (replicate corners 0) m (omega (arith, length-replicate {A = ℕ} corners 0))
    ]

pub loop-k-init : goal.loop-k-init
loop-k-init c = (refl, λ m h. absurd (omega arith), λ m h. zeros m)

pub loop-k-preserved : goal.loop-k-preserved
loop-k-preserved c =
    let k = c.loop-k.k in
    let wide = c.loop-k.wide in
    let room : k < length wide = omega (arith, c.loop-k.invariant.0, c.loop-k-test.true, c.requires) in (
      simp length-set c.loop-k.invariant.0,
      λ m h.
          elim (below_suc m k (omega arith)) [
            | inl e ↦ rw e (get_or-set_same wide k c.from.result 0 room ∙ c.from.ensures)
            | inr l ↦ get_or-set_other wide k m c.from.result 0 (λ e. omega arith) ∙ c.loop-k.invariant.1 m l
          ],
      λ m h. get_or-set_other wide k m c.from.result 0 (λ e. omega arith) ∙ c.loop-k.invariant.2 m (omega arith),
    )

pub returns : goal.returns
returns c =
    λ k. elim (dec_lt k c.loop-k.k) [
      | yes l ↦ c.loop-k.invariant.1 k l
      | no l ↦ c.loop-k.invariant.2 k (omega arith) ∙ sym (past c.args.part.now k (omega (arith, c.loop-k-test.false)))
    ]
