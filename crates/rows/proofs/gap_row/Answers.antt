-- The first row that begins right of the line is the one that the definition finds.
use Rattle.std.proofs.Common.{◌≡◌, sym, ◌∙◌, arith, ltb-false, ltb-true}
use Rattle.rows.specs.parts.Rows.{rows}
use Rattle.rows.proofs.SearchLaws.{no-gap-start, no-gap-next, gap_row-none, gap_row-found}
use Rattle.rows.proofs.gap_row.Goals as goal

pub loop-r-init : goal.loop-r-init
loop-r-init c = no-gap-start _ _ _

pub returns-then-is_gap : goal.returns-then-is_gap
returns-then-is_gap c = (
  sym (gap_row-found (rows c.args.lo.now) c.args.i c.args.j c.loop-r.r (omega arith) (omega arith) c.loop-r.invariant
      (ltb-true _ _ (sym c.is_gap.ensures ∙ c.if-is_gap.true))),
  omega arith,
  omega arith,
)

pub loop-r-preserved : goal.loop-r-preserved
loop-r-preserved c =
    no-gap-next (rows c.args.lo.now) c.args.i c.args.j c.loop-r.r c.loop-r.invariant
    (ltb-false _ _ (sym c.is_gap.ensures ∙ c.if-is_gap.false))

pub returns : goal.returns
returns c =
    let e : c.loop-r.r ≡ c.args.j = omega arith in
    (sym (gap_row-none (rows c.args.lo.now) c.args.i c.args.j (omega arith) (rw e at c.loop-r.invariant)), omega arith, omega arith)
