-- A reading is answered from the anchor and the edges of the outline last taken at its party and place, so the claims about readings hold
-- for the replies in any list of calls.
use Prim.Native.Nat.{ℕ, ◌^◌, ◌<◌}
use mathlib.Core.Path.{◌≡◌, refl, sym, ap, ◌∙◌}
use mathlib.Core.Logic.{◌↔◌}
use mathlib.Core.Bool.{true, false}
use mathlib.Core.Option.{none, some}
use mathlib.Core.List.{List, Memᴰ}
use lib.IntN.{ℤ, pos, neg_ℤ, nat_abs, ◌-ℤ◌}
use lib.Signed.{le_z}
use lib.Dec.{T}
use lib.Ieee.{binary32, fits}
use lib.Ieee.Scale.{finite}
use Rattle.rounding.specs.Units.{value}
use Rattle.chart.specs.Limits.{side}
use Rattle.chart.specs.Outline.{Outline}
use Rattle.chart.specs.declared.Point.{Point}
use Rattle.chart.specs.declared.Refusal.TheVariants.{Cell, NothingAtWork}
use Rattle.convexity.specs.Clockwise.{border, block}
use Rattle.convexity.specs.Pieces.{edges}
use Rattle.convexity.proofs.AsSent.{block-from-w, clear_of}
use Rattle.calls.specs.Calls.{parties, places, by}
use Rattle.calls.specs.declared.Call.{Call}
use Rattle.calls.specs.declared.Action.TheVariants.{Ask}
use Rattle.calls.specs.declared.Question.TheVariants.{Reading as OfReading}
use Rattle.calls.specs.declared.Reading.{Reading}
use Rattle.calls.specs.Replies.{Reply}
use Rattle.calls.specs.declared.Answer.TheVariants.{Inside, Outside, Undecided}
use Rattle.std.specs.Prelude.{Result, Ok, Err}
use Rattle.chart.specs.declared.Refusal.{Refusal}
use Rattle.readings.specs.declared.Located.{Located}
use Rattle.readings.specs.declared.Located.TheVariants.{Inside as IsInside, Outside as IsOutside, Undecided as IsUndecided}
use Rattle.readings.specs.Sides.{PlacedEdge, edges_along, exact_side, computed_side}
use Rattle.readings.specs.Located.{Held, bad_reading, exactly_inside, located_of}
use Rattle.readings.specs.Claims.{Open, Answers, Centred}
use Rattle.readings.specs.Replies.{located_reply}
use Rattle.readings.proofs.Agreement.{refused-iff}
use Rattle.readings.proofs.Outlines.{outline-answers, centre-enclosed, centre-open}
use Rattle.holder_model.specs.Book.{Entry, asked_reading, asks}
use Rattle.holder_model.specs.LastTaken.{last_taken}
use Rattle.book_replies.specs.After.{reply_to}
use Rattle.book_replies.proofs.Taken.{Working, last-working}
use Rattle.book_replies.proofs.Queries.{ask-reply}

-- Different results have different replies
found : (l m : Result Located Refusal) → located_reply l ≡ located_reply m → l ≡ m
unfolding located_reply
found (Ok IsInside) (Ok IsInside) e = refl
found (Ok IsInside) (Ok IsOutside) e = cc
found (Ok IsInside) (Ok IsUndecided) e = cc
found (Ok IsInside) (Err g) e = cc
found (Ok IsOutside) (Ok IsInside) e = cc
found (Ok IsOutside) (Ok IsOutside) e = refl
found (Ok IsOutside) (Ok IsUndecided) e = cc
found (Ok IsOutside) (Err g) e = cc
found (Ok IsUndecided) (Ok IsInside) e = cc
found (Ok IsUndecided) (Ok IsOutside) e = cc
found (Ok IsUndecided) (Ok IsUndecided) e = refl
found (Ok IsUndecided) (Err g) e = cc
found (Err f) (Ok IsInside) e = cc
found (Err f) (Ok IsOutside) e = cc
found (Err f) (Ok IsUndecided) e = cc
found (Err f) (Err g) e = cc

-- A reading of party p's place k, after a list of calls
module _ (p k : ℕ) (there : p < parties) (inside : k < places) (cs : List Entry) (x : Reading) where
  abbrev asking : Call
  asking = by p (Ask k (OfReading x))

  -- 12 is checked before 11 (contract 7.10)
  pub reading-nothing : last_taken p k cs ≡ none → reply_to cs asking ≡ Err NothingAtWork
  unfolding asks asked_reading
  reading-nothing last = ask-reply p k there inside cs (OfReading x) ∙ ap (asked_reading x) last

  -- The outline last taken there is o
  module _ (o : Outline) (last : last_taken p k cs ≡ some o) where
    abbrev a : Point
    a = (border o).start

    abbrev es : List ℤ
    es = edges (border o)

    abbrev reply : Reply
    reply = reply_to cs asking

    pub reading-reply : reply ≡ located_reply (located_of a es x)
    unfolding asks asked_reading
    reading-reply = ask-reply p k there inside cs (OfReading x) ∙ ap (asked_reading x) last

    working : Working o
    working = last-working p k cs o last

    -- The reply is that of the result
    is_found : (l : Result Located Refusal) → (reply ≡ located_reply l) ↔ (located_of a es x ≡ l)
    is_found l = (λ e. found _ l (sym reading-reply ∙ e), λ e. reading-reply ∙ ap located_reply e)

    -- 11 is for a number that is NaN, infinite, below 0 or above 254, and for nothing else
    pub reading-refused : (reply ≡ Err Cell) ↔ (bad_reading x ≡ true)
    unfolding located_reply
    reading-refused = (λ e. (refused-iff a es x).0 ((is_found (Err Cell)).0 e), λ b. (is_found (Err Cell)).1 ((refused-iff a es x).1 b))

    -- For every pair of 32-bit floats that is not refused
    module _ (held : Held x) (good : bad_reading x ≡ false) where
      answers : Answers a es x
      answers = outline-answers (border o) (clear_of o working.reaches) x held good

      -- Every computed side value is a finite number and a 32-bit float
      pub reading-finite : (e : PlacedEdge) → Memᴰ e (edges_along a es)
          → T (finite (computed_side x e)) × T (fits binary32 (computed_side x e))
      reading-finite = answers.finite

      -- Rounding moves a side value by less than 1/64, in units of 2 ^ -149
      pub reading-close : (e : PlacedEdge) → Memᴰ e (edges_along a es)
          → nat_abs (value binary32 (computed_side x e) -ℤ exact_side x e) < 2 ^ 143
      reading-close = answers.close

      -- "Inside" is said only of readings that are exactly inside, and "outside" only of readings that are not
      pub reading-inside : reply ≡ Ok Inside → exactly_inside a es x ≡ true
      unfolding located_reply
      reading-inside e = answers.inside ((is_found (Ok IsInside)).0 e)

      pub reading-outside : reply ≡ Ok Outside → exactly_inside a es x ≡ false
      unfolding located_reply
      reading-outside e = answers.outside ((is_found (Ok IsOutside)).0 e)

      -- "Undecided" is for the strip along the edges: between the extremes, with a smallest computed value above -1/64 and below 1/64
      pub reading-undecided : (reply ≡ Ok Undecided) ↔ Open a es x
      unfolding located_reply
      reading-undecided = (
        λ e. answers.undecided.0 ((is_found (Ok IsUndecided)).0 e),
        λ left. (is_found (Ok IsUndecided)).1 (answers.undecided.1 left),
      )

      -- A reading is decided if all its exact side values are at least 1/32, and also if one of them is at most -1/32
      pub reading-inner : ((e : PlacedEdge) → Memᴰ e (edges_along a es) → le_z (pos (2 ^ 144)) (exact_side x e) ≡ true)
          → reply ≡ Ok Undecided → ⊥
      unfolding located_reply
      reading-inner h e = answers.inner h ((is_found (Ok IsUndecided)).0 e)

      pub reading-outer : (e : PlacedEdge) → Memᴰ e (edges_along a es) → le_z (exact_side x e) (neg_ℤ (pos (2 ^ 144))) ≡ true
          → reply ≡ Ok Undecided → ⊥
      unfolding located_reply
      reading-outer e m h u = answers.outer e m h ((is_found (Ok IsUndecided)).0 u)

    -- At a cell's centre "inside" means that the cell is enclosed, and "outside" that it is not
    module _ (held : Held x) (c : Point) (col : c.col < side) (row : c.row < side) (at : Centred x c) where
      pub centre-inside : reply ≡ Ok Inside → block o c.col c.row ≡ true
      unfolding located_reply
      centre-inside e =
          sym (block-from-w o working.reaches.simple c.col c.row)
          ∙ centre-enclosed (border o) (clear_of o working.reaches) working.undented c col row x held at ((is_found (Ok IsInside)).0 e)

      pub centre-outside : reply ≡ Ok Outside → block o c.col c.row ≡ false
      unfolding located_reply
      centre-outside e =
          sym (block-from-w o working.reaches.simple c.col c.row)
          ∙ centre-open (border o) (clear_of o working.reaches) working.undented c col row x held at ((is_found (Ok IsOutside)).0 e)
