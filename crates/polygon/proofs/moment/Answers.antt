-- A product of 15 bits and 33 bits fits, so the machine keeps its value.
use Prim.Native.Nat.{◌≤◌, ◌^◌}
use native.Mathlib.Omega.{arith}
use mathlib.Core.Path.{◌∙◌}
use lib.IntN.{pos, nat_abs, ◌-ℤ◌, ◌*ℤ◌}
use lib.Signed.{nat_abs-le}
use mir.Syntax.{w16, w32, w64}
use mir.ValLaws.{to_z-of_z}
use Rattle.base.proofs.Sizes.{read_back, fits-size, size-difference, size-product-le, size-16}
use Rattle.polygon.proofs.moment.Goals as goal

pub returns : goal.returns
returns c =
    let s = c.args in
    let step = read_back c.from.result c.from.type_inv ∙ c.from.ensures ∙ to_z-of_z w16 s.d c.ranges.d in
    let cell = read_back c.from-2.result c.from-2.type_inv ∙ c.from-2.ensures in
    let corner = read_back c.from-3.result c.from-3.type_inv ∙ c.from-3.ensures ∙ to_z-of_z w32 s.n c.ranges.n in
    let far : nat_abs (pos s.c -ℤ s.n) ≤ 2 ^ 32 =
    omega (arith, size-difference (pos s.c) s.n, nat_abs-le s.n c.ranges.n.sfits, c.ranges.c.fits) in
    let size = size-product-le s.d (pos s.c -ℤ s.n) (size-16 s.d c.ranges.d) far in
    simp (step, cell, corner)
    (simp (to_z-of_z w64 (pos s.c -ℤ s.n) (fits-size w64 _ (omega (arith, far))), to_z-of_z w64 (s.d *ℤ (pos s.c -ℤ s.n)) (fits-size w64 _ (omega (arith, size)))))
