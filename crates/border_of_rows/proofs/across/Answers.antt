-- As many rights or lefts as the columns differ.
use Prim.Native.Nat.{ℕ, ◌+◌, ◌-◌, ◌≤◌, ◌<◌}
use native.Mathlib.Omega.{arith}
use mathlib.Core.Path.{◌≡◌, refl, sym, ◌∙◌}
use mathlib.Core.List.{append-nil}
use lib.ListN.{length, take, drop, replicate, length-take, length-drop}
use Rattle.completion.specs.RowsOutline.{across}
use Rattle.completion.proofs.Segments.{length-across}
use Rattle.border_of_rows.proofs.Writing.{wrote-put}
use Rattle.border_of_rows.proofs.across.Goals as goal
use Rattle.border_of_rows.proofs.across.Goals.{then-a-b, else-a-b}

rights : (a b n : ℕ) → n ≡ length (across a b) → a < b → replicate n 0 ≡ across a b
unfolding across
rights a b n e l =
    let none : a - b ≡ 0 = omega arith in
    let some : n ≡ b - a = omega (arith, e, length-across a b) in
    rw (some, none) (sym (append-nil (replicate (b - a) 0)))

lefts : (a b n : ℕ) → n ≡ length (across a b) → b ≤ a → replicate n 2 ≡ across a b
unfolding across
lefts a b n e l =
    let none : b - a ≡ 0 = omega arith in
    let some : n ≡ a - b = omega (arith, e, length-across a b) in
    rw (some, none) refl

pub returns : goal.returns
returns c =
    let a = c.args.a in
    let b = c.args.b in
    let n = c.apart.ensures.0 in
    let k : c.args.at + c.apart.result - c.args.at ≡ length (across a b) = omega (arith, n) in
    let part : length (take (c.args.at + c.apart.result - c.args.at) (drop c.args.at c.args.out.now)) ≡ length (across a b) =
    omega (
      arith,
      k,
      n,
      c.requires,
      length-take (c.args.at + c.apart.result - c.args.at) (drop c.args.at c.args.out.now),
      length-drop c.args.at c.args.out.now,
    ) in
    let filled = c.fill.ensures.after (λ y h. h) in
    elim c.if-a-b.branch [
      | then-a-b w ↦ (omega (arith, n), wrote-put (filled ∙ rw w.fill-is (rights a b _ part (omega (arith, w.if-a-b.true)))) k c.requires)
      | else-a-b w ↦ (omega (arith, n), wrote-put (filled ∙ rw w.fill-is (lefts a b _ part (omega (arith, w.if-a-b.false)))) k c.requires)
    ]
