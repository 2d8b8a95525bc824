-- The arrays hold the columns that the definition keeps for each row, so both search the same rows.
use Rattle.std.proofs.Common.{◌∙◌, arith}
use Rattle.rows.specs.parts.Rows.{rows}
use Rattle.rows.specs.Search.{kept_up, kept_down}
use Rattle.rows.proofs.SearchLaws.{lowest_gap-same}
use Rattle.rows.proofs.RowLaws.{found-high, found_below, found-gap}
use Rattle.chart.specs.Outline.{outline}
use Rattle.rows.proofs.missing_cell.Goals.{then-top-gt-SIDE-via-then-top-gt-SIDE, then-top-gt-SIDE-via-else-top-gt-SIDE+then-top-bottom}
use Rattle.rows.proofs.missing_cell.Goals as goal

pub returns : goal.returns
returns c =
    let args = c.args in
    let ends = c.row_ends in
    c.lowest_gap.ensures
    ∙ rw (
      c.from.ensures,
      c.from-2.ensures,
      found-gap (outline args.s args.w.now) args.bottom args.top (omega arith) (omega arith),
    )
    (lowest_gap-same
    (rows ends.result.lo)
    (rows ends.result.hi)
    (kept_up (outline args.s args.w.now))
    (kept_down (outline args.s args.w.now))
    args.bottom
    args.top
    (λ r h. ends.ensures.lo_up r (omega arith))
    (λ r h. ends.ensures.hi_down r (omega arith)))

pub returns-then-top-gt-SIDE : goal.returns-then-top-gt-SIDE
returns-then-top-gt-SIDE c =
    elim c.then-top-gt-SIDE.branch [
      | then-top-gt-SIDE-via-then-top-gt-SIDE w ↦ found-high _ _ _ (omega arith)
      | then-top-gt-SIDE-via-else-top-gt-SIDE+then-top-bottom w ↦ found_below _ _ _ (omega arith)
    ]
