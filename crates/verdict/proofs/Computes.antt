-- A name to unfold every definition of the test at once, for the proofs that the checker computes: `unfolding computes`.
use mathlib.Core.Bool.{Bool, true}
use Rattle.base.specs.Below
use Rattle.words.specs.Word
use Rattle.words.specs.Lyndon
use Rattle.words.specs.Christoffel
use Rattle.lattice.specs.Chart
use Rattle.lattice.specs.Refusals
use Rattle.lattice.specs.Enclosed
use Rattle.rows.specs.Search
use Rattle.convexity.specs.Frame
use Rattle.convexity.specs.Cut
use Rattle.convexity.specs.Clockwise
use Rattle.convexity.specs.Pieces
use Rattle.survey.specs.Survey
use Rattle.verdict.specs.Verdict

unfoldable pub computes : Bool
unfolding Below.every Below.first Below.further Below.some_below Word.word_of Word.earliers Word.laters Word.less Lyndon.copies Lyndon.same
    Lyndon.push Lyndon.factors_of Christoffel.coprime Christoffel.remainders Christoffel.christoffel Chart.same_point Chart.step Chart.leaves
    Chart.walk Chart.corner_at Refusals.bad_count Refusals.bad_start Refusals.letter_place Refusals.leaving_place Refusals.unclosed
    Refusals.meets Refusals.touching_place Enclosed.one_if Enclosed.up_along Enclosed.down_along Enclosed.ups Enclosed.downs Enclosed.encloses
    Search.up_column Search.down_column Search.as_far_left Search.furthest Search.crossing Search.gap_row Search.chain Search.lowest_gap
    Search.missing_cell Frame.frame_of Frame.along Cut.before Cut.least Cut.corner_place Cut.west_place Cut.from_w Cut.clockwise Cut.around
    Clockwise.opposite Clockwise.backward Clockwise.clockwise_form Clockwise.read_from Clockwise.sent_from Clockwise.place_sent Cut.ahead
    Cut.cut_corner Cut.cut Pieces.rounds Pieces.piece Pieces.is_back_step Pieces.back_step_at Pieces.back_step_piece Pieces.word Pieces.factors
    Pieces.dent_at Pieces.dent_length Pieces.dent_piece Pieces.edges_of Pieces.edges Pieces.edge_count Survey.survey_of Verdict.back_step_in
    Verdict.cell_found Verdict.dent_in Verdict.first_of Verdict.checks Verdict.verdict_of Verdict.with_room
    Verdict.test_of Verdict.test_fields Verdict.buffer_after Verdict.edges_after
computes = true
