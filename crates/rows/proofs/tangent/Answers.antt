-- Loop invariant: seen from row `i`, row `j` is the furthest left of the rows up to it. `b` is its column, and `k` is its entry in `next`.
use Rattle.std.proofs.Common.{ℕ, ◌≤◌, ◌≡◌, suc, ◌+◌, ◌<◌, sym, ◌∙◌, arith}
use Rattle.rows.specs.parts.Rows.{rows, Tangents}
use Rattle.rows.specs.Search.{as_far_left}
use Rattle.rows.proofs.Side.{Furthest, furthest-start, furthest-furthest}
use Rattle.rows.proofs.TangentLaws.{as-far-left-columns, furthest-on, furthest-off, furthest-is}
use Rattle.rows.proofs.tangent.Goals as goal

-- Row `k`, the entry of row `j`, is the furthest left, seen from row `j`
next-furthest : {lo next : ℕ → ℕ} {b t j k : ℕ} → Tangents lo next b t → b ≤ j → suc j < t → k ≡ next j → Furthest lo j k t
next-furthest {lo = lo} {t = t} {j = j} s l h e = rw (e ∙ s.furthest_left j l h) (furthest-furthest lo j t h)

pub loop-j-init : goal.loop-j-init
loop-j-init c =
    let e : c.args.i + 1 ≡ suc c.args.i = omega arith in
    (omega arith, omega arith, c.begins-b.ensures.0, c.begins-b.ensures.1, rw e c.requires.2, rw e (furthest-start _ _))

pub begins-c-requires : goal.begins-c-requires
begins-c-requires c = omega (arith, next-furthest c.requires.3 (omega arith) (omega arith) c.loop-j.invariant.4)

pub overflow_sub-k : goal.overflow_sub-k
overflow_sub-k c = omega (arith, next-furthest c.requires.3 (omega arith) (omega arith) c.loop-j.invariant.4)

pub as_far_left-requires : goal.as_far_left-requires
as_far_left-requires c = omega (arith, next-furthest c.requires.3 (omega arith) (omega arith) c.loop-j.invariant.4)

pub returns-then-not-as_far_left : goal.returns-then-not-as_far_left
returns-then-not-as_far_left c =
    let args = c.args in
    let iteration = c.loop-j in
    let lo = rows args.lo.now in
    let next = next-furthest c.requires.3 (omega arith) (omega arith) c.loop-j.invariant.4 in
    let test : c.as_far_left.result ≡ as_far_left lo args.i iteration.j iteration.k =
    c.as_far_left.ensures
    ∙ rw (
      c.begins-a.ensures.0,
      iteration.invariant.2,
      c.begins-c.ensures.0,
    ) (as-far-left-columns lo args.i iteration.j iteration.k (omega arith) (omega arith)) in
    let off = furthest-off lo args.t args.i iteration.j iteration.k iteration.invariant.5 next (sym test ∙ c.if-not-as_far_left.true) in
    (furthest-is lo args.t args.i iteration.j iteration.invariant.5 (omega arith) off, omega arith, omega arith)

pub overflow_cast-j : goal.overflow_cast-j
overflow_cast-j c = omega (arith, next-furthest c.requires.3 (omega arith) (omega arith) c.loop-j.invariant.4)

pub offset_bounds-next-j : goal.offset_bounds-next-j
offset_bounds-next-j c = omega (arith, next-furthest c.requires.3 (omega arith) (omega arith) c.loop-j.invariant.4)

pub bounds-next-j : goal.bounds-next-j
bounds-next-j c = omega (arith, next-furthest c.requires.3 (omega arith) (omega arith) c.loop-j.invariant.4)

pub loop-j-smaller : goal.loop-j-smaller
loop-j-smaller c = omega (arith, next-furthest c.requires.3 (omega arith) (omega arith) c.loop-j.invariant.4)

pub loop-j-preserved : goal.loop-j-preserved
loop-j-preserved c =
    let args = c.args in
    let iteration = c.loop-j in
    let column = c.begins-c.ensures in
    let lo = rows args.lo.now in
    let next = next-furthest c.requires.3 (omega arith) (omega arith) c.loop-j.invariant.4 in
    let test : c.as_far_left.result ≡ as_far_left lo args.i iteration.j iteration.k =
    c.as_far_left.ensures
    ∙ rw (
      c.begins-a.ensures.0,
      iteration.invariant.2,
      c.begins-c.ensures.0,
    ) (as-far-left-columns lo args.i iteration.j iteration.k (omega arith) (omega arith)) in (
      omega arith,
      omega arith,
      column.0,
      column.1,
      c.from-k.ensures,
      furthest-on lo args.t args.i iteration.j iteration.k iteration.invariant.5 next (sym test ∙ c.if-not-as_far_left.false),
    )

pub returns : goal.returns
returns c =
    let args = c.args in
    let iteration = c.loop-j in (
      furthest-is (rows args.lo.now) args.t args.i iteration.j iteration.invariant.5 (omega arith)
          (λ r l m. absurd (omega arith)),
      omega arith,
      omega arith,
    )
