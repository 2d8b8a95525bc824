-- The arrays of the first pass have the ends of the block's rows, so the search over rows applies.
use mathlib.Core.Path.{◌≡◌, subst}
use Prim.Native.Nat.{ℕ, ◌+◌}
use native.Mathlib.Omega.{arith}
use Rattle.rows.specs.parts.Rows.{rows}
use Rattle.witness_search.specs.parts.Answers.{Answers}
use Rattle.witness_search.proofs.Outline.{top, array-ends, array_runs, found_of}
use Rattle.witness_search.proofs.find.Goals as goal

pub overflow_add-sides : goal.overflow_add-sides
overflow_add-sides c =
    let p = c.pass-sides.ensures in
    omega (arith, (array-ends _ c.requires _ _ _ _ _ p).rows.below, top _ c.requires _ _ _ _ _ p)

pub search-requires : goal.search-requires
search-requires c = (omega arith, top _ c.requires _ _ _ _ _ c.pass-sides.ensures)

pub returns-then-sides : goal.returns-then-sides
returns-then-sides c = found_of _ c.requires _ _ _ _ _ c.pass-sides.ensures c.search.result c.search.ensures

pub single-requires : goal.single-requires
single-requires c =
    let p = c.pass-sides.ensures in
    let rows = (array-ends _ c.requires _ _ _ _ _ p).rows in
    let b = c.pass-sides.result.low in (
      omega (arith, top _ c.requires _ _ _ _ _ p, rows.below),
      rows.fits b (omega arith) rows.below,
      (array_runs _ c.requires _ _ _ _ _ p b (omega arith) rows.below).begun,
    )

pub returns : goal.returns
returns c =
    let k = c.pass-sides.result in
    let rising = (array-ends _ c.requires _ _ _ _ _ c.pass-sides.ensures).rows.below in
    let alone : k.low + 1 ≡ k.high = omega (arith, rising, c.if-sides.false) in
    found_of _ c.requires _ _ _ _ _ c.pass-sides.ensures c.single.result
    (subst (λ (n : ℕ). Answers (rows k.lo) (rows k.en) (rows k.hi) k.low n c.single.result) alone c.single.ensures)
