-- A reading against an anchor and a list of edges (contract 6.7): refusals 10, 11, 16 and 11 as of a comparison's list, then 11 of the
-- reading and where it lies.
use Rattle.std.specs.Prelude.{◌≡◌, ◌↔◌, true, false, List, ℤ, Result, Ok, Err}
use Rattle.chart.specs.declared.Point.{Point}
use Rattle.chart.specs.declared.Fields.{Fields}
use Rattle.chart.specs.declared.Refusal.{Refusal}
use Rattle.chart.specs.Fields.{inside, outside, undecided}
use Rattle.calls.specs.declared.Reading.{Reading}
use Rattle.calls.specs.Replies.{Reply}
use Rattle.comparison.specs.Compared.{checked_of}
use Rattle.readings.specs.Located.{exactly_inside, located_of}
use Rattle.readings.specs.Replies.{located_reply}
use Rattle.readings.specs.Claims.{Open}

-- The refusal of the list, or the reply to the reading
unfoldable pub unless_unfit : Result (Unit {0}) Refusal → Reply → Reply
unless_unfit (Err f) r = Err f
unless_unfit (Ok u) r = r

unfoldable pub loose_reading_of : Point → List ℤ → Reading → Reply
loose_reading_of a es r = unless_unfit (checked_of a es) (located_reply (located_of a es r))

-- What the word of a reply says. "Inside" and "outside" agree with exactly inside, and "undecided" is replied exactly to a reading that is
-- not refused and is too near an edge
pub record ReadingNamed (a : Point) (es : List ℤ) (r : Reading) (f : Fields) : Type 0 where
  pub within : f.word ≡ inside → exactly_inside a es r ≡ true
  pub beyond : f.word ≡ outside → exactly_inside a es r ≡ false
  pub between : (f.word ≡ undecided) ↔ ((f.number ≡ 0) × Open a es r)
