-- The parts are counted one by one: as many letters lead down the right ends as up them, and one.
use Prim.Native.Nat.{◌-◌}
use native.Mathlib.Omega.{arith}
use Rattle.rows.specs.parts.Rows.{rows}
use Rattle.border_of_rows.proofs.Parts.{fall-length, round-length}
use Rattle.border_of_rows.proofs.count.Goals as goal

pub returns : goal.returns
returns c =
    let a = c.args in
    omega (
      arith,
      c.apart-back.ensures.0,
      c.apart-over.ensures.0,
      c.steps-right.ensures.0,
      c.steps-2.ensures.0,
      c.steps.ensures.0,
      fall-length (rows a.hi.now) a.b (a.t - 1 - a.b),
      round-length (rows a.lo.now) (rows a.hi.now) a.b a.t a.m c.requires.1,
    )
