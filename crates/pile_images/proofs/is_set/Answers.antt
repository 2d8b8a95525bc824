-- The test takes the outline, and the rows are the same.
use Rattle.pile_images.proofs.FindLaws.{not_set, set-iff}
use Rattle.pile_images.proofs.is_set.Goals as goal

pub returns-in-Err : goal.returns-in-Err
returns-in-Err c = not_set _ _ _ c.verdict_of-verdict.ensures _ c.in-Err.is

pub returns-in-Ok : goal.returns-in-Ok
returns-in-Ok c =
    set-iff _ _ _ c.verdict_of-verdict.ensures _ _ c.in-Ok.is _ c.spans_of.ensures _ c.same_rows.ensures
