-- What one walk along the letters finds of refusals 4, 5 and 6 and of W, N, E and S, if 1, 2 and 3 do not apply.
use Rattle.std.specs.Prelude.{◌≡◌, ℕ, ◌-◌, ◌<◌, ◌≤◌, false, nat_lt, Result, Ok, Err}
use Rattle.base.specs.Below.{first}
use Rattle.chart.specs.Outline.{Outline}
use Rattle.lattice.specs.Chart.{leaves, walk, corner_at, size, letter_at}
use Rattle.lattice.specs.Refusals.{bad_count, bad_start, letter_place, leaving_place, Stays, touching_place}
use Rattle.survey_walk.specs.declared.Corners.{Corners}
use Rattle.survey_walk.specs.declared.Walk.{Walk}
use Rattle.survey_walk.specs.declared.Walk.TheVariants.{Leaves, Meets, Round}
use Rattle.survey_walk.specs.parts.Numbers.{col_number}
use Rattle.survey_walk.specs.Corners.{corners_of}

-- The count is right, the start is a corner of the chart, and no letter is above 3
pub record Begun (o : Outline) : Type 0 where
  pub counted : bad_count o.letters ≡ false
  pub started : bad_start o.start ≡ false
  pub lettered : nat_lt (letter_place o.letters) (size o) ≡ false

-- No letter before place i leaves the chart, and n is the number of the corner there
pub record Out (o : Outline) (i n : ℕ) : Type 0 where
  pub passed : i ≤ size o
  pub none_leaves : first (λ j. leaves (corner_at o j) (letter_at o j)) i ≡ i
  pub number : n ≡ col_number (corner_at o i) i

-- A walk to its end: the first letter that leaves the chart, or the number of the last corner if none does
unfoldable pub RestOf : Outline → Result ℕ ℕ → Type 0
RestOf o (Err i) = (i < size o) × (i ≡ leaving_place o)
RestOf o (Ok n) = Stays o × (n ≡ col_number (walk o.start o.letters) (size o))

-- The corner at place i is the first that was met before, and no letter up to there leaves the chart
pub record MetAt (o : Outline) (i n : ℕ) : Type 0 where
  pub above_zero : 0 < i
  pub below : i < size o
  pub place : i - 1 ≡ touching_place o
  pub out : Out o i n

-- No letter leaves the chart, and none but the last meets a corner
pub record AllRound (o : Outline) (n : ℕ) (c : Corners) : Type 0 where
  pub stays : Stays o
  pub meets : touching_place o ≡ size o - 1
  pub number : n ≡ col_number (walk o.start o.letters) (size o)
  pub corners : c ≡ corners_of o

unfoldable pub WalkedAs : Outline → Walk → Type 0
WalkedAs o (Leaves i) = (i < size o) × (i ≡ leaving_place o)
WalkedAs o (Meets i n) = MetAt o i n
WalkedAs o (Round n c) = AllRound o n c
