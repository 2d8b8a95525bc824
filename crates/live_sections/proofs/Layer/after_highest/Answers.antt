-- The first row from the highest down that has the column ends the search, and none outside the bounds has it.
use Prim.Native.Nat.{ℕ, ◌+◌, ◌-◌, ◌≤◌}
use native.Mathlib.Omega.{arith}
use mathlib.Core.Path.{◌≡◌, sym, ap, ◌∙◌}
use Rattle.base.proofs.BelowLaws.{first_step, first-stop}
use Rattle.chart.specs.Limits.{side}
use Rattle.pile_sections.specs.Sections.{in_row}
use Rattle.live_sections.proofs.ReachLaws.{back_start, back_end}
use Rattle.live_sections.proofs.Layer.after_highest.Goals as goal

pub loop-r-init : goal.loop-r-init
loop-r-init c =
    let layer = c.args.self.now in
    rw c.from-r.ensures (back_start layer.first.now layer.past.now c.args.col c.args.to (omega arith) c.requires.1)

pub returns-then-holds : goal.returns-then-holds
returns-then-holds c =
    let layer = c.args.self.now in
    let r = c.loop-r.r in
    let near : r ≤ side = omega (arith, c.loop-r.auto.r, c.from-r.ensures) in
    let row : side - 1 - (side - r) ≡ r - 1 = omega (arith, c.loop-r-test.true) in
    let after : r - 1 + 1 ≡ side - (side - r) = omega (arith, c.loop-r-test.true) in
    after ∙ ap (λ (k : ℕ). side - k) (sym (first-stop _ side (side - r) c.loop-r.invariant
    (ap (in_row layer.first.now layer.past.now c.args.col) row ∙ sym c.holds.ensures ∙ c.if-holds.true)
    (omega (arith, c.loop-r-test.true))))

pub loop-r-preserved : goal.loop-r-preserved
loop-r-preserved c =
    let layer = c.args.self.now in
    let r = c.loop-r.r in
    let near : r ≤ side = omega (arith, c.loop-r.auto.r, c.from-r.ensures) in
    let row : side - 1 - (side - r) ≡ r - 1 = omega (arith, c.loop-r-test.true) in
    let next : side - (r - 1) ≡ side - r + 1 = omega (arith, c.loop-r-test.true) in
    rw next (first_step _ (side - r) c.loop-r.invariant
    (ap (in_row layer.first.now layer.past.now c.args.col) row ∙ sym c.holds.ensures ∙ c.if-holds.false))

pub returns : goal.returns
returns c =
    let layer = c.args.self.now in
    ap (λ (k : ℕ). side - k)
    (sym (back_end layer.first.now layer.past.now c.args.col (side - c.loop-r.r) c.args.from c.loop-r.invariant
    (omega (arith, c.from-r-start.ensures, c.loop-r-test.false)) c.requires.0))
