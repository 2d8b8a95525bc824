-- A factor is a step of the walk: one copy, and all copies, lie within the word.
use Rattle.std.proofs.Common.{arith}
use Rattle.words.proofs.WalkLaws.{step-at}
use Rattle.test_factors.proofs.write_factors.Goals as goal

pub overflow_add-end : goal.overflow_add-end
overflow_add-end g c = let s = step-at c.args.word.now c.loop-factor.at 49 c.in-Some.ensures in omega (arith, s.fits)

pub slice_bounds-write_factor-end : goal.slice_bounds-write_factor-end
slice_bounds-write_factor-end g c = let s = step-at c.args.word.now c.loop-factor.at 49 c.in-Some.ensures in s.fits

pub overflow_mul-size : goal.overflow_mul-size
overflow_mul-size g c = let s = step-at c.args.word.now c.loop-factor.at 49 c.in-Some.ensures in omega (arith, s.within)

pub overflow_add-at : goal.overflow_add-at
overflow_add-at g c = let s = step-at c.args.word.now c.loop-factor.at 49 c.in-Some.ensures in omega (arith, s.within)

pub loop-factor-smaller : goal.loop-factor-smaller
loop-factor-smaller g c = let s = step-at c.args.word.now c.loop-factor.at 49 c.in-Some.ensures in omega (arith, s.ahead, s.within)
