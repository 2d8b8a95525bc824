-- The reply's fields are written; its cell is the verdict's on the draft.
use mathlib.Core.Path.{◌∙◌, ap}
use Rattle.chart.specs.Fields.{numbers_of}
use Rattle.holder_written.proofs.Written.{prepared-by, prepared-told}
use Rattle.holder_written.proofs.prepare.Goals as goal

pub returns : goal.returns
returns c =
    let half = prepared-by _ _ _ _ _ _ c.prepare-prepared.ensures _ (c.put.ensures ∙ ap numbers_of c.of_reply.ensures) in
    record { half = half; cell = prepared-told _ _ _ _ _ _ half }
