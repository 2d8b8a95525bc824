-- Loop invariant: `next` is complete for all rows from row `i - 1` up, and `above` is its entry at row `i - 1`.
use Rattle.std.proofs.Common.{◌≡◌, ℕ, suc, ◌-◌, sym, refl, ◌∙◌, arith, length-set, get_or-set_other, get_or-set_same}
use native.Mathlib.Decide.{dec_lt}
use lib.ListN.{get_or-replicate}
use Rattle.rows.proofs.tangents.Goals as goal

pub loop-i-init : goal.loop-i-init
loop-i-init c = (
  omega arith,
  refl,
  sym (get_or-replicate {A = ℕ} 256 (c.args.t - 1) 0 0 (omega arith)),
  record { furthest_left = λ i h l. absurd (omega arith) },
)

pub tangent-above-requires : goal.tangent-above-requires
tangent-above-requires c =
    let iteration = c.loop-i in
    let e : suc (iteration.i - 1 - 1) ≡ iteration.i - 1 = omega arith in
    (omega arith, omega arith, rw e iteration.invariant.2, rw e iteration.invariant.3)

pub loop-i-preserved : goal.loop-i-preserved
loop-i-preserved c =
    let iteration = c.loop-i in
    let n = iteration.i - 1 - 1 in
    let x = c.tangent-above.result in
    let stored = get_or-set_same iteration.next n x 0 (omega arith) in (
      omega arith,
      simp length-set iteration.invariant.1,
      sym stored,
      record {
        furthest_left = λ k h l.
            elim (dec_lt n k) [
              | yes m ↦ get_or-set_other iteration.next n k x 0 (λ e. omega arith) ∙ iteration.invariant.3.furthest_left k (omega arith) l
              | no m ↦
                  let e : k ≡ n = omega arith in
                  rw e (stored ∙ c.tangent-above.ensures.0)
            ];
      },
    )

pub returns : goal.returns
returns c =
    let iteration = c.loop-i in
    record { furthest_left = λ k h l. iteration.invariant.3.furthest_left k (omega arith) l }
