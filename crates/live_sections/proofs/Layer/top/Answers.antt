-- The first row from the highest down that has a cell ends the search.
use Prim.Native.Nat.{ℕ, ◌+◌, ◌-◌, ◌≤◌}
use native.Mathlib.Omega.{arith}
use mathlib.Core.Path.{◌≡◌, refl, sym, ap, ◌∙◌}
use Rattle.base.specs.Below.{first}
use Rattle.base.proofs.BelowLaws.{first-none, first-none-at, first_step, first-stop}
use Rattle.chart.specs.Limits.{side}
use Rattle.live_sections.specs.parts.Reach.{has_cell}
use Rattle.live_sections.proofs.Layer.top.Goals as goal

-- No row has a cell, counted from either end
pub returns-then-low-eq-END : goal.returns-then-low-eq-END
returns-then-low-eq-END c =
    let layer = c.args.self.now in
    let none = first-none-at (λ r. has_cell layer.first.now layer.past.now r) side (sym c.requires ∙ c.if-low-eq-END.true) in
    ap (λ (k : ℕ). side - k)
    (sym (first-none (λ i. has_cell layer.first.now layer.past.now (side - 1 - i)) side (λ i l. none (side - 1 - i) (omega arith))))

pub loop-r-init : goal.loop-r-init
unfolding first
loop-r-init c = refl

pub returns-then-has_cell : goal.returns-then-has_cell
returns-then-has_cell c =
    let layer = c.args.self.now in
    let r = c.loop-r.r in
    let near : r ≤ side = omega (arith, c.loop-r.auto.r) in
    let row : side - 1 - (side - r) ≡ r - 1 = omega (arith, c.loop-r-test.true) in
    let after : r - 1 + 1 ≡ side - (side - r) = omega (arith, c.loop-r-test.true) in
    after ∙ ap (λ (k : ℕ). side - k) (sym (first-stop _ side (side - r) c.loop-r.invariant
    (ap (has_cell layer.first.now layer.past.now) row ∙ sym c.has_cell.ensures ∙ c.if-has_cell.true)
    (omega (arith, c.loop-r-test.true))))

pub loop-r-preserved : goal.loop-r-preserved
loop-r-preserved c =
    let layer = c.args.self.now in
    let r = c.loop-r.r in
    let near : r ≤ side = omega (arith, c.loop-r.auto.r) in
    let row : side - 1 - (side - r) ≡ r - 1 = omega (arith, c.loop-r-test.true) in
    let next : side - (r - 1) ≡ side - r + 1 = omega (arith, c.loop-r-test.true) in
    rw next (first_step _ (side - r) c.loop-r.invariant
    (ap (has_cell layer.first.now layer.past.now) row ∙ sym c.has_cell.ensures ∙ c.if-has_cell.false))
