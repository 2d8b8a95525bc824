-- The copy is the border, so what the pieces of the copy give is the verdict on the border.
use Prim.Native.Nat.{ℕ, ◌≤◌}
use native.Mathlib.Omega.{arith}
use mathlib.Core.Path.{◌≡◌, sym}
use mathlib.Core.List.{List}
use lib.ListN.{length, take}
use lib.Seq.{length-take-le}
use Rattle.chart.specs.Limits.{longest}
use Rattle.chart.specs.Outline.{Outline, outline}
use Rattle.lattice.specs.Chart.{size}
use Rattle.lattice.specs.Refusals.{Simple}
use Rattle.survey_walk.specs.declared.Corners.{Corners}
use Rattle.survey_walk.specs.Corners.{corners_of}
use Rattle.cut_places.specs.declared.Cuts.{Cuts}
use Rattle.cut_places.specs.parts.Cuts.{cut_places_of}
use Rattle.cut_places.proofs.ReadLaws.{cuts-of}
use Rattle.clockwise_copy.specs.parts.ClockwiseCopy.{read_round, read_place}
use Rattle.judge.proofs.JudgedLaws.{Copied, letters-fit, copied-ready, copied-outcome}
use Rattle.judge.proofs.read.Goals as goal

-- The letters from W on, clockwise, are in the buffer
copied : (o : Outline) (f : Corners) (cuts : Cuts) (v : ℕ) (buffer : List ℕ) → Simple o → f ≡ corners_of o
    → cuts ≡ cut_places_of o.letters f → v ≡ read_place cuts.forward (size o) f.west
    → (f.west ≤ size o → size o ≤ longest → take (size o) buffer ≡ read_round cuts.forward f.west o.letters)
    → length buffer ≡ longest → Copied o f cuts v buffer
copied o f cuts v buffer simple corners cut place letters sized =
    record {
      simple = simple;
      corners = corners;
      cuts-of = rw (cut, corners) (cuts-of o simple);
      place = place;
      letters = letters;
      sized = sized;
    }

pub slice_bounds-ring-end : goal.slice_bounds-ring-end
slice_bounds-ring-end c =
    let fit =
    letters-fit
    (copied (outline c.args.start c.args.letters.now) c.args.found c.cut_places-cuts.result c.read_place-place.result c.fill_round.new.round
    c.requires.simple c.requires.found_value c.cut_places-cuts.ensures c.read_place-place.ensures c.fill_round.ensures c.fill_round.auto.round) in
    omega (arith, c.fill_round.auto.round)

pub slice_bounds-round-end : goal.slice_bounds-round-end
slice_bounds-round-end c =
    sym
    (length-take-le _ _
    (letters-fit
    (copied (outline c.args.start c.args.letters.now) c.args.found c.cut_places-cuts.result c.read_place-place.result c.fill_round.new.round
    c.requires.simple c.requires.found_value c.cut_places-cuts.ensures c.read_place-place.ensures c.fill_round.ensures c.fill_round.auto.round)))

pub judged-requires : goal.judged-requires
judged-requires c =
    copied-ready
    (copied (outline c.args.start c.args.letters.now) c.args.found c.cut_places-cuts.result c.read_place-place.result c.fill_round.new.round
    c.requires.simple c.requires.found_value c.cut_places-cuts.ensures c.read_place-place.ensures c.fill_round.ensures c.fill_round.auto.round)
    _

pub returns : goal.returns
returns c =
    copied-outcome
    (copied (outline c.args.start c.args.letters.now) c.args.found c.cut_places-cuts.result c.read_place-place.result c.fill_round.new.round
    c.requires.simple c.requires.found_value c.cut_places-cuts.ensures c.read_place-place.ensures c.fill_round.ensures c.fill_round.auto.round)
    c.judged.ensures
