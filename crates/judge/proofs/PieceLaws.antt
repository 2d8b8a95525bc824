-- One law for each of the refusals 8 and 9 and one for an outline taken: the definition is a list of tests, and the first that holds
-- decides.
use Rattle.std.specs.Prelude.{Result, Err}
use Prim.Native.Nat.{ℕ, ◌+◌, ◌*◌, ◌≤◌, ◌<◌}
use native.Mathlib.Numerals.{add-one}
use native.Mathlib.Decide.{dec_le}
use native.Mathlib.Omega.{arith}
use mathlib.Core.Path.{◌≡◌, refl, sym, ap, ◌∙◌}
use mathlib.Core.Bool.{Bool, true, false}
use mathlib.Core.List.{List}
use lib.ListN.{length, take, drop, length-replicate}
use lib.Seq.{take_at}
use lib.IntN.{ℤ, pos}
use lib.Dec.{ltb}
use borrow.Author.Tests.{lt-ltb, le-ltb}
use Rattle.chart.specs.Limits.{side, longest, most_numbers}
use Rattle.chart.specs.declared.Point.{Point}
use Rattle.chart.specs.Outline.{Outline}
use Rattle.chart.specs.declared.Refusal.{Refusal}
use Rattle.chart.specs.declared.Refusal.TheVariants.{BackStep, Dent}
use Rattle.chart.specs.declared.Taken.{Taken}
use Rattle.chart.specs.Taken.{taken_with}
use Rattle.lattice.specs.Chart.{corner_at, size}
use Rattle.lattice.specs.Refusals.{Simple}
use Rattle.lattice.specs.Walked.{Walked}
use Rattle.lattice.proofs.WalkLaws.{walked, simple-of-walked}
use Rattle.rows.specs.Search.{found_cell}
use Rattle.rows.proofs.RowLaws.{found-missing}
use Rattle.convexity.specs.Frame.{frame_of, along}
use Rattle.convexity.specs.Cut.{corner_place, clockwise}
use Rattle.convexity.specs.Clockwise.{clockwise_form, border, sent_from}
use Rattle.convexity.specs.Pieces.{rounds, back_step_piece, dent_piece, edges, edge_count}
use Rattle.convexity.specs.Shape.{NoBackStep}
use Rattle.convexity.proofs.Extreme.{corner_place-lt, corner_place-first, not-before-earlier, from-w-of}
use Rattle.convexity.proofs.Shape.{straight-of, shape}
use Rattle.convexity.proofs.Clockwise.{simple-form}
use Rattle.convexity.proofs.Bounds.{edges-length}
use Rattle.convexity.proofs.EdgeBound.{edges-at-most-100}
use Rattle.verdict.specs.Verdict.{back_step_in, cell_found, dent_in, with_room, buffer_after}
use Rattle.verdict.specs.parts.Chain.{round_verdict}
use Rattle.judge.specs.declared.Round.{Round}
use Rattle.pieces.specs.parts.Pieces.{Laid}
use Rattle.clockwise_copy.specs.parts.ClockwiseCopy.{SentTo}
use Rattle.back_steps.specs.parts.BackSteps.{StepIs, FoundAt}
use Rattle.dents.specs.parts.Dents.{DentIs, EdgesAre, DentRead}
use Rattle.judge.specs.parts.Round.{FromWest, RoundOf, dent_as}
use Rattle.pieces.proofs.LaidLaws.{length-rounds}
use Rattle.pieces.proofs.LaidLaws.{laid-round, laid-once}
use Rattle.judge.specs.Judged.{zeros}
use Rattle.judge.specs.parts.Outcome.{Written, Outcome, OutcomeOfRound}

-- ---- the border

pub from-west : (o : Outline) → Simple o → FromWest (border o)
from-west o h =
    let t = from-w-of (clockwise_form o) (simple-form o h) in record { simple = simple-of-walked (border o) t.walked; west = t.west }

module _ {o : Outline} (h : FromWest o) where
  pub round-walked : Walked o
  round-walked = walked o h.simple

  round-clear : clockwise o ≡ true → ltb (back_step_piece o) 4 ≡ false → NoBackStep o
  round-clear c e = record { walk = record { walked = round-walked; west = h.west }; clockwise = c; straight = straight-of o e }

  -- S is not above N, and N is on the chart
  bottom-le-top : (corner_at o (corner_place o 3)).row ≤ (corner_at o (corner_place o 1)).row
  unfolding frame_of along
  bottom-le-top =
      not-before-earlier (frame_of 3) (corner_at o (corner_place o 1)) (corner_at o (corner_place o 3))
      (corner_place-first o 3 (corner_place o 1) (corner_place-lt o 1 (omega (arith, round-walked.long))))

  top-le-side : (corner_at o (corner_place o 1)).row ≤ side
  top-le-side =
      round-walked.row_le (corner_place o 1) (omega (arith, round-walked.long, corner_place-lt o 1 (omega (arith, round-walked.long))))

  -- A letter of the border as a place of the list as sent
  place-sent : {forward : Bool} {v i r : ℕ} → v < size o → i ≤ 4 * longest → SentTo forward (size o) v i r
      → r ≡ sent_from forward (size o) v i
  place-sent l k e = e.place (omega (arith, round-walked.long)) (omega (arith, round-walked.short)) l k

-- ---- the cell of a dent

module _ {t : Round} {o : Outline} (h : RoundOf t o) where
  -- The cell that the search finds between the rows of S and N
  cell-found : {cell : Point} → cell ≡ found_cell o t.bottom t.top → cell ≡ cell_found o
  unfolding cell_found
  cell-found f =
      f ∙ rw (h.bottom, h.top)
      (found-missing o h.walk.simple (corner_at o (corner_place o 3)).row (corner_at o (corner_place o 1)).row
      (bottom-le-top h.walk) (top-le-side h.walk))

  pub dent-named : (k i l : ℕ) {forward : Bool} {place : ℕ} {cell : Point} → i ≤ 4 * longest → SentTo forward (size o) t.place i place
      → cell ≡ found_cell o t.bottom t.top → Dent (k + 1) place l cell ≡ dent_as forward t.place o k i l
  unfolding dent_as
  dent-named k i l m e f = rw (cell-found f, place-sent h.walk h.place m e)

-- ---- the answers

-- A refusal leaves the buffer as it was
pub outcome-refused : {v : Result Taken Refusal} (es before : List ℤ) {f : Refusal} → Err f ≡ v → Outcome v es before before (Err f)
unfolding with_room buffer_after
outcome-refused es before e = record { verdict = e; buffer = rw (sym e) refl }

-- The edges of a taken outline are written if there is room for them
outcome-taken : {v : Result Taken Refusal} {es before after : List ℤ} {n : ℕ} {a : Point} → taken_with n a ≡ v → length es ≡ 2 * n
    → Written es (2 * n) before after → Outcome v es before after (taken_with n a)
unfolding with_room buffer_after
outcome-taken {v} {es} {before} {after} {n} {a} e size l =
    record {
      verdict = e;
      buffer =
          rw (sym e)
          (elim (dec_le (2 * n) (length before)) [
            | yes h ↦ rw (le-ltb (length before) (2 * n) h) (rw size (l.room h))
            | no h ↦ let k : length before < 2 * n = omega arith in rw (lt-ltb (length before) (2 * n) k) (l.no_room k)
          ]);
    }

module _ (forward : Bool) (v : ℕ) (o : Outline) where
  abbrev ruling : Result Taken Refusal
  ruling = round_verdict (sent_from forward (size o) v) o

  round-back-step : {k i : ℕ} → StepIs o k i → k < 4 → Err (BackStep (k + 1) (sent_from forward (size o) v i)) ≡ ruling
  unfolding round_verdict back_step_in
  round-back-step {k} h l =
      let b : ltb (back_step_piece o) 4 ≡ true = lt-ltb (back_step_piece o) 4 (omega (arith, h.piece)) in
      rw (b, add-one k, h.at, h.piece)

  module _ (b : ltb (back_step_piece o) 4 ≡ false) where
    round-dent : {k i l : ℕ} → DentIs o k i l → k < 4 → Err (dent_as forward v o k i l) ≡ ruling
    unfolding round_verdict dent_in dent_as
    round-dent {k} h l =
        let c : ltb (dent_piece o) 4 ≡ true = lt-ltb (dent_piece o) 4 (omega (arith, h.piece)) in
        rw (b, c, add-one k, h.at, h.size, h.piece)

    round-taken : dent_piece o ≡ 4 → taken_with (edge_count o) o.start ≡ ruling
    unfolding round_verdict
    round-taken c = rw (b, c)

-- ---- the verdict on the border

module _ {t : Round} {o : Outline} (h : RoundOf t o) where
  pub short : size o ≤ longest
  short = (round-walked h.walk).short

  -- 8
  pub step-outcome : {forward : Bool} {k i place : ℕ} → FoundAt (rounds o.letters) t.cuts.at k i
      → SentTo forward (size o) t.place i place → (before : List ℤ)
      → OutcomeOfRound forward t.place o before before (Err (BackStep (k + 1) place))
  step-outcome {forward} {k} {i} {place} e p before =
      let d : place ≡ sent_from forward (size o) t.place i =
      place-sent h.walk h.place (omega (arith, e.at_le, length-rounds o.letters, short)) p in
      outcome-refused (edges o) before (rw d (round-back-step forward t.place o (e.step o (laid-round h.places)) e.piece_lt))

  pub none-straight : ((v : Outline) → Laid v t.cuts.at (rounds o.letters) → back_step_piece v ≡ 4) → ltb (back_step_piece o) 4 ≡ false
  none-straight e = rw (e o (laid-round h.places))

  module _ (b : ltb (back_step_piece o) 4 ≡ false) where
    clear : NoBackStep o
    clear = round-clear h.walk h.clockwise b

    -- The four pieces together are the border once
    laid : Laid o t.cuts.at o.letters
    laid = laid-once h.places (shape o clear).round

    -- 9
    pub dent-outcome : (forward : Bool) {k i l : ℕ} → DentRead o.letters t.cuts.at k i l → {f : Refusal}
        → f ≡ dent_as forward t.place o k i l → (before : List ℤ)
        → OutcomeOfRound forward t.place o before before (Err f)
    dent-outcome forward e q before =
        outcome-refused (edges o) before (ap Err q ∙ round-dent forward t.place o b (e.dent o short laid) e.piece_lt)

    -- taken_with
    module _ {numbers : List ℤ} {m : ℕ} (e : (v : Outline) → size v ≤ longest → Laid v t.cuts.at o.letters
        → EdgesAre v zeros numbers m) where
      abbrev found : EdgesAre o zeros numbers m
      found = e o short laid

      bounded : 2 * edge_count o ≤ most_numbers
      bounded = edges-at-most-100 o clear found.no_dent

      room : 2 * edge_count o ≤ length zeros
      room = rw (length-replicate most_numbers (pos 0)) bounded

      pub count-le : 2 * m ≤ most_numbers
      count-le = omega (arith, found.edges_counted room, bounded)

      edges-size : length (edges o) ≡ 2 * m
      edges-size = edges-length o ∙ ap (λ (k : ℕ). 2 * k) (sym (found.edges_counted room))

      first-numbers : take (2 * m) numbers ≡ edges o
      first-numbers = ap (take (2 * m)) (found.list room) ∙ take_at (edges o) (drop (2 * m) zeros) (2 * m) edges-size

      pub edges-outcome : (forward : Bool) {before after : List ℤ} → Written (take (2 * m) numbers) (2 * m) before after
          → OutcomeOfRound forward t.place o before after (taken_with m o.start)
      edges-outcome forward {before} {after} l =
          outcome-taken (ap (λ (k : ℕ). taken_with k o.start) (found.edges_counted room)
          ∙ round-taken forward t.place o b found.no_dent) edges-size
          (rw first-numbers at l)
