-- A row that begins further left is the lowest from there on, and another one changes nothing.
use Prim.Native.Nat.{ℕ}
use native.Mathlib.Omega.{arith}
use mathlib.Core.Path.{◌≡◌, subst}
use Rattle.rows.specs.parts.Rows.{rows}
use Rattle.hull_rows.specs.parts.Ends.{Lowest}
use Rattle.hull_rows.proofs.Laws.{lowest_start, lowest-moves, lowest-stays}
use Rattle.hull_rows.proofs.lowest.Goals as goal
use Rattle.hull_rows.proofs.lowest.Goals.{then-lo-r, else-lo-r}

pub bounds-lo-m : goal.bounds-lo-m
bounds-lo-m c = omega (arith, c.loop-r.invariant.high)

pub loop-r-init : goal.loop-r-init
loop-r-init c = lowest_start _ _

pub loop-r-preserved : goal.loop-r-preserved
loop-r-preserved c =
    let lo = rows c.args.lo.now in
    let kept = c.loop-r.invariant in
    elim c.if-lo-r.branch [
      | then-lo-r w ↦ rw w.m-is (lowest-moves lo c.args.b c.loop-r.r c.loop-r.m kept w.if-lo-r.true)
      | else-lo-r w ↦ rw w.m-is (lowest-stays lo c.args.b c.loop-r.r c.loop-r.m kept w.if-lo-r.false)
    ]

pub returns : goal.returns
returns c =
    let e : c.loop-r.r ≡ c.args.t = omega arith in
    subst (λ (z : ℕ). Lowest (rows c.args.lo.now) c.args.b z c.loop-r.m) e c.loop-r.invariant
