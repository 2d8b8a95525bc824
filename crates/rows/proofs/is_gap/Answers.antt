-- A quotient is below a number exactly if the dividend is below that number times the divisor, so no division is needed.
use Rattle.std.proofs.Common.{◌≡◌, ℕ, ◌+◌, ◌-◌, ◌*◌, ◌/◌, ◌<◌, ◌≤◌, ltb, div-lt_iff_lt-mul, arith, le-ltb, lt-ltb}
use native.Mathlib.Decide.{dec_lt}
use Rattle.rows.specs.parts.Rows.{rows}
use Rattle.rows.specs.Search.{crossing}
use Rattle.rows.proofs.is_gap.Goals as goal

below_quotient : (x y h : ℕ) → 0 < h → ltb x (y * h) ≡ ltb (x / h) y
below_quotient x y h pos =
    let both = div-lt_iff_lt-mul {k = h} {x = x} {y = y} pos in
    elim (dec_lt (x / h) y) [
      | yes l ↦ rw (lt-ltb (x / h) y l, lt-ltb x (y * h) (both.0 l))
      | no l ↦ rw (le-ltb (x / h) y (omega arith), le-ltb x (y * h) (omega (arith, not-below (λ m. l (both.1 m)))))
    ]
  where
    not-below : (x < y * h → ⊥) → y * h ≤ x
    not-below n = elim (dec_lt x (y * h)) [ yes m ↦ absurd (n m) | no m ↦ omega arith ]

pub returns : goal.returns
unfolding crossing
returns c =
    let i = c.args.i in
    let j = c.args.j in
    let r = c.args.r in
    let lo = rows c.args.lo.now in
    let tall : 0 < j - i = omega arith in
    rw (c.begins-a.ensures.0, c.begins-b.ensures.0, c.begins-c.ensures.0)
    (below_quotient ((j - r) * lo i + (r - i) * lo j + (j - i - 1)) (lo r) (j - i) tall)
