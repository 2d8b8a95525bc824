-- The part is the window, and the list is long enough for all of it.
use native.Mathlib.Nat.{add-sub_cancel_left}
use native.Mathlib.Omega.{arith}
use mathlib.Core.Path.{refl}
use lib.ListN.{drop, length-drop}
use lib.Seq.{length-take-le}
use Rattle.chart.specs.Limits.{side}
use Rattle.live_sections.proofs.part.Goals as goal

pub returns : goal.returns
returns c =
    let enough = length-drop c.args.from c.args.rows.now in
    rw add-sub_cancel_left (refl, length-take-le side (drop c.args.from c.args.rows.now) (omega (arith, enough, c.requires.1)))
