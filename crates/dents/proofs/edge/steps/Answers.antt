-- Each product is at most 612 in size, so numbers of 16 bits hold the products and their sum.
use Prim.Native.Nat.{◌≤◌}
use native.Mathlib.Omega.{arith}
use mathlib.Core.Path.{◌≡◌}
use lib.IntN.{ℤ, pos, nat_abs, ◌+ℤ◌, ◌*ℤ◌}
use mir.Syntax.{w16}
use mir.Val.{SFits, to_z, of_z}
use mir.ValLaws.{to_z_pos, to_z-of_z}
use Rattle.base.proofs.Sizes.{fits-size, size-sum, size-product-le}
use Rattle.chart.specs.Limits.{longest}
use Rattle.dents.proofs.edge.steps.Goals as goal

module _ (c : goal.Start) where
  abbrev run : ℤ
  run = pos c.args.run *ℤ c.args.earlier

  abbrev rise : ℤ
  rise = pos c.args.rise *ℤ c.args.later

  run-size : nat_abs run ≤ longest
  run-size = size-product-le (pos c.args.run) c.args.earlier c.requires.run_le c.requires.earlier_le

  rise-size : nat_abs rise ≤ longest
  rise-size = size-product-le (pos c.args.rise) c.args.later c.requires.rise_le c.requires.later_le

  run_fits : SFits w16 run
  run_fits = fits-size w16 run (omega (arith, run-size))

  rise-fits : SFits w16 rise
  rise-fits = fits-size w16 rise (omega (arith, rise-size))

  sum_fits : SFits w16 (run +ℤ rise)
  sum_fits = fits-size w16 (run +ℤ rise) (omega (arith, run-size, rise-size, size-sum run rise))

  -- The counts and the steps are read back as they are
  run-read : to_z w16 c.args.run ≡ pos c.args.run
  run-read = to_z_pos w16 c.args.run (omega (arith, c.requires.run_le))

  rise-read : to_z w16 c.args.rise ≡ pos c.args.rise
  rise-read = to_z_pos w16 c.args.rise (omega (arith, c.requires.rise_le))

  earlier-read : to_z w16 (of_z w16 c.args.earlier) ≡ c.args.earlier
  earlier-read = to_z-of_z w16 c.args.earlier c.ranges.earlier

  later-read : to_z w16 (of_z w16 c.args.later) ≡ c.args.later
  later-read = to_z-of_z w16 c.args.later c.ranges.later

pub overflow_mul-result : goal.overflow_mul-result
overflow_mul-result c = rw (run-read c, earlier-read c) (run_fits c)

pub overflow_mul-result-2 : goal.overflow_mul-result-2
overflow_mul-result-2 c = rw (rise-read c, later-read c) (rise-fits c)

pub overflow_add-result : goal.overflow_add-result
overflow_add-result c =
    rw (
      run-read c,
      earlier-read c,
      rise-read c,
      later-read c,
      to_z-of_z w16 (run c) (run_fits c),
      to_z-of_z w16 (rise c) (rise-fits c),
    ) (sum_fits c)

pub returns : goal.returns
returns c =
    rw (run-read c, earlier-read c, rise-read c, later-read c, to_z-of_z w16 (run c) (run_fits c), to_z-of_z w16 (rise c) (rise-fits c))
    (to_z-of_z w16 (run c +ℤ rise c) (sum_fits c))
