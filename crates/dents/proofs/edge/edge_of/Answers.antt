-- The table has the steps of the frame, and each coordinate is one call of `steps`.
use mathlib.Core.Path.{◌∙◌}
use mir.Syntax.{w16}
use mir.ValLaws.{to_z-of_z}
use Rattle.dents.proofs.FrameSizes.{frame-units, pair_read}
use Rattle.dents.proofs.edge.edge_of.Goals as goal

pub steps-requires : goal.steps-requires
steps-requires c =
    let r = pair_read _ c.pair_at-p.ensures in
    let u = frame-units c.args.k in
    simp (r.earlier_cols, r.later_cols)
    (record { run_le = c.requires.0; rise_le = c.requires.1; earlier_le = u.earlier_cols; later_le = u.later_cols })

pub steps-requires-2 : goal.steps-requires-2
steps-requires-2 c =
    let r = pair_read _ c.pair_at-p.ensures in
    let u = frame-units c.args.k in
    simp (r.earlier_rows, r.later_rows)
    (record { run_le = c.requires.0; rise_le = c.requires.1; earlier_le = u.earlier_rows; later_le = u.later_rows })

pub returns : goal.returns
returns c =
    let r = pair_read _ c.pair_at-p.ensures in
    record {
      dx = to_z-of_z w16 c.steps.result (record { sfits = c.steps.type_inv }) ∙ simp (r.earlier_cols, r.later_cols) at c.steps.ensures;
      dy = to_z-of_z w16 c.steps-2.result (record { sfits = c.steps-2.type_inv })
          ∙ simp (r.earlier_rows, r.later_rows) at c.steps-2.ensures;
    }
