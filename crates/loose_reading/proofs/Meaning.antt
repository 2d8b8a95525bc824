-- A list that passes the checks stays on the chart, so rounding moves every side value by less than 1/64, and the word can be trusted
-- (readings/proofs/Agreement).
use Prim.Native.Nat.{ℕ, ◌≤◌}
use native.Mathlib.Omega.{arith}
use mathlib.Core.Path.{◌≡◌, refl, sym, ap, ◌∙◌}
use mathlib.Core.Logic.{inr}
use mathlib.Core.Bool.{Bool, true, false, false≢true, cond, ◌&&◌, and-true}
use mathlib.Core.List.{List, [], ◌∷◌}
use Rattle.std.specs.Prelude.{Result, Ok, Err}
use lib.ListN.{length}
use lib.IntN.{ℤ, pos, ◌+ℤ◌}
use Rattle.base.specs.Each.{all_pass}
use Rattle.base.proofs.BelowLaws.{not-held}
use Rattle.chart.specs.Limits.{longest_list}
use Rattle.chart.specs.declared.Point.{Point}
use Rattle.chart.specs.declared.Refusal.{Refusal}
use Rattle.chart.specs.declared.Refusal.TheVariants.{EdgeList, Cell, Directions}
use Rattle.chart.proofs.RefusalLaws.{refusal-number, refusal-wordless}
use Rattle.calls.specs.declared.Reading.{Reading}
use Rattle.calls.specs.Replies.{reply_fields}
use Rattle.convexity.specs.Edges.{Edge, pairs}
use Rattle.directions.specs.CornerHull.{is_on_chart}
use Rattle.directions.specs.Increasing.{bad_directions}
use Rattle.polygon.specs.Loose.{bad_list, bad_cell}
use Rattle.polygon.proofs.LooseCases.{short-list}
use Rattle.nesting.specs.Corners.{every_corner, corners_on_chart}
use Rattle.comparison.specs.Compared.{checked_of}
use Rattle.readings.specs.declared.Located.{Located}
use Rattle.readings.specs.declared.Located.TheVariants.{Inside, Outside, Undecided}
use Rattle.readings.specs.Sides.{edges_from}
use Rattle.readings.specs.Located.{Held, bad_reading, ends_on, stays_on, located_of}
use Rattle.readings.specs.Replies.{located_reply}
use Rattle.readings.specs.Claims.{Answers}
use Rattle.readings.specs.parts.Walk.{Tame}
use Rattle.readings.proofs.Agreement.{refused-iff, answers}
use Rattle.loose_reading.specs.Read.{unless_unfit, loose_reading_of, ReadingNamed}

-- ---- a list that passes the checks

-- Both tests of the corner cells are one
corners-stay : (es : List Edge) (x y : ℤ) → every_corner is_on_chart es x y ≡ (is_on_chart x y && all_pass ends_on (edges_from es x y))
unfolding every_corner all_pass ends_on edges_from
corners-stay [] x y = sym (and-true (is_on_chart x y))
corners-stay ((dx, dy) ∷ es) x y = ap (λ (b : Bool). is_on_chart x y && b) (corners-stay es (x +ℤ dx) (y +ℤ dy))

abbrev fits : Result (Unit {0}) Refusal → Bool
fits (Ok u) = true
fits (Err f) = false

-- It is not too long, and stays on the chart
pub fit-tame : (a : Point) (es : List ℤ) → Ok tt ≡ checked_of a es → (length es ≤ longest_list) × (stays_on a es ≡ true)
unfolding checked_of corners_on_chart stays_on
fit-tame a es e =
    go (bad_list es) (bad_cell a) (bad_directions es) (every_corner is_on_chart (pairs es) (pos a.col) (pos a.row)) refl refl (sym (ap fits e))
  where
    go :
        (l c t p : Bool) → bad_list es ≡ l → every_corner is_on_chart (pairs es) (pos a.col) (pos a.row) ≡ p
        → fits (cond l (Err (EdgeList 0)) (cond c (Err Cell) (cond t (Err Directions) (cond p (Ok tt) (Err Cell))))) ≡ true
        → (length es ≤ longest_list) × (stays_on a es ≡ true)
    go true c t p v w h = absurd (false≢true h)
    go false true t p v w h = absurd (false≢true h)
    go false false true p v w h = absurd (false≢true h)
    go false false false true v w h = (short-list es v, sym (corners-stay (pairs es) (pos a.col) (pos a.row)) ∙ w)
    go false false false false v w h = absurd (false≢true h)

pub tame : (a : Point) (es : List ℤ) → Ok tt ≡ checked_of a es → Tame a es
tame a es e = inr (fit-tame a es e)

-- ---- the two cases of a reply

module _ (a : Point) (es : List ℤ) (r : Reading) where
  pub unfit-reply : (f : Refusal) → Err f ≡ checked_of a es → Err f ≡ loose_reading_of a es r
  unfolding loose_reading_of unless_unfit
  unfit-reply f e = rw (← e)

  pub fit-reply : Ok tt ≡ checked_of a es → located_reply (located_of a es r) ≡ loose_reading_of a es r
  unfolding loose_reading_of unless_unfit
  fit-reply e = rw (← e)

-- ---- what the word says

abbrev code : Result Located Refusal → ℕ
code (Ok Inside) = 0
code (Ok Outside) = 1
code (Ok Undecided) = 2
code (Err why) = 3

module _ (a : Point) (es : List ℤ) (r : Reading) (held : Held r) where
  module _ (on : stays_on a es ≡ true) where
    -- All claims of a reading that is not refused hold
    pub loose-answers : (located_of a es r ≡ Err Cell → ⊥) → Answers a es r
    loose-answers h = answers a es r held on (not-held (bad_reading r) (λ b. h ((refused-iff a es r).1 b)))

    by-location : (l : Result Located Refusal) → located_of a es r ≡ l → ReadingNamed a es r (reply_fields (located_reply l))
    unfolding reply_fields located_reply
    by-location (Ok Inside) e =
        let claims = loose-answers (λ h. omega (arith, ap code (sym e ∙ h))) in
        record {
          within = λ w. claims.inside e;
          beyond = λ w. absurd (omega (arith, w));
          between = (λ w. absurd (omega (arith, w)), λ p. absurd (omega (arith, ap code (sym e ∙ claims.undecided.1 p.1))));
        }
    by-location (Ok Outside) e =
        let claims = loose-answers (λ h. omega (arith, ap code (sym e ∙ h))) in
        record {
          within = λ w. absurd (omega (arith, w));
          beyond = λ w. claims.outside e;
          between = (λ w. absurd (omega (arith, w)), λ p. absurd (omega (arith, ap code (sym e ∙ claims.undecided.1 p.1))));
        }
    by-location (Ok Undecided) e =
        let claims = loose-answers (λ h. omega (arith, ap code (sym e ∙ h))) in
        record {
          within = λ w. absurd (omega (arith, w));
          beyond = λ w. absurd (omega (arith, w));
          between = (λ w. (refl, claims.undecided.0 e), λ p. refl);
        }
    by-location (Err why) e =
        record {
          within = λ w. absurd (omega (arith, w, refusal-wordless why));
          beyond = λ w. absurd (omega (arith, w, refusal-wordless why));
          between = (λ w. absurd (omega (arith, w, refusal-wordless why)), λ p. absurd (omega (arith, p.0, refusal-number why)));
        }

  by-check : (k : Result (Unit {0}) Refusal) → k ≡ checked_of a es → ReadingNamed a es r (reply_fields (unless_unfit k (located_reply (located_of a es r))))
  unfolding reply_fields unless_unfit
  by-check (Err f) e =
      record {
        within = λ w. absurd (omega (arith, w, refusal-wordless f));
        beyond = λ w. absurd (omega (arith, w, refusal-wordless f));
        between = (λ w. absurd (omega (arith, w, refusal-wordless f)), λ p. absurd (omega (arith, p.0, refusal-number f)));
      }
  by-check (Ok u) e = by-location (fit-tame a es e).1 (located_of a es r) refl

  pub reading-named : ReadingNamed a es r (reply_fields (loose_reading_of a es r))
  unfolding loose_reading_of
  reading-named = by-check (checked_of a es) refl
