-- A taken outline has room for its edges in the buffer.
use Prim.Native.Nat.{◌*◌}
use native.Mathlib.Omega.{arith}
use mathlib.Core.Path.{sym}
use lib.Seq.{length-take-le}
use Rattle.verdict.proofs.VerdictLaws.{roomy}
use Rattle.test_specimens.proofs.write_test.Goals as goal

pub slice_bounds-edges-end : goal.slice_bounds-edges-end
slice_bounds-edges-end g c =
    let fits = (roomy _ _ c.in-Ok.taken.edges c.in-Ok.taken.anchor (sym c.in-Ok.ensures.verdict)).room in
    omega (arith, fits, c.from-in-Ok.ensures, c.test-verdict.auto.edges)

pub slice_bounds-write_edges-end : goal.slice_bounds-write_edges-end
slice_bounds-write_edges-end g c =
    let fits = (roomy _ _ c.in-Ok.taken.edges c.in-Ok.taken.anchor (sym c.in-Ok.ensures.verdict)).room in
    sym (length-take-le (2 * c.from-in-Ok.result) c.test-verdict.new.edges
    (omega (arith, fits, c.from-in-Ok.ensures, c.test-verdict.auto.edges)))
