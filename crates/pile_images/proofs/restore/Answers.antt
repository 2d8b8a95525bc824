-- Each return is a case of the definition: 22, 26, a set empty, or a set.
use Prim.Native.Nat.{◌+◌, ◌-◌}
use native.Mathlib.Omega.{arith}
use Rattle.std.proofs.lemmas.Result.{err_from_is_err_and}
use Rattle.pile_images.proofs.RestoreLaws.{read_fits, restore-high, restore-other, restore-empty, restore-set}
use Rattle.pile_images.proofs.restore.Goals as goal

pub returns-in_err-layer_index : goal.returns-in_err-layer_index
returns-in_err-layer_index c =
    let p = err_from_is_err_and c.from_residual.result c.from_residual.ensures.1 in
    rw (p.1, p.2, c.in_err-layer_index.ensures.0) (restore-high _ _ _ c.in_err-layer_index.ensures.1)

pub returns-then-found-eq0 : goal.returns-then-found-eq0
returns-then-found-eq0 c =
    restore-empty _ _ _ c.in_ok-layer_index.ensures.1 _ c.in-Some.ensures c.if-found-eq0.true _ c.set_empty.ensures

pub overflow_add-end : goal.overflow_add-end
overflow_add-end c = omega (arith, read_fits _ _ c.in-Some.ensures)

pub slice_bounds-set-end : goal.slice_bounds-set-end
slice_bounds-set-end c = omega (arith, read_fits _ _ c.in-Some.ensures)

pub returns-in-None : goal.returns-in-None
returns-in-None c = restore-other _ _ _ c.in_ok-layer_index.ensures.1 c.in-None.ensures

pub returns-else-found-eq0 : goal.returns-else-found-eq0
returns-else-found-eq0 c =
    let n = c.in-Some.found.count in
    restore-set _ _ _ c.in_ok-layer_index.ensures.1 _ c.in-Some.ensures c.if-found-eq0.false (6 + n - 6) (omega arith) _
    c.set.ensures.answer
