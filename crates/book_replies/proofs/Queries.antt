-- A query is answered from the outline last taken at its party and place, because the model has that outline at work there.
use Rattle.std.specs.Prelude.{Ok, Err}
use Prim.Native.Nat.{ℕ, ◌<◌}
use native.Mathlib.Omega.{arith}
use mathlib.Core.Path.{◌≡◌, refl, ap, ◌∙◌}
use mathlib.Core.Logic.{◌↔◌}
use mathlib.Core.Bool.{Bool, true, false, cond}
use mathlib.Core.Option.{Option, none, some}
use mathlib.Core.List.{List}
use borrow.Author.Tests.{lt-leb}
use Rattle.chart.specs.Limits.{side}
use Rattle.chart.specs.Outline.{Outline}
use Rattle.chart.specs.declared.Point.{Point}
use Rattle.chart.specs.declared.Refusal.TheVariants.{Cell}
use Rattle.convexity.specs.Clockwise.{block}
use Rattle.polygon.specs.Loose.{bad_cell}
use Rattle.calls.specs.Calls.{parties, places, by}
use Rattle.calls.specs.Replies.{Reply, reply_fields}
use Rattle.calls.specs.declared.Call.{Call}
use Rattle.calls.specs.declared.Action.TheVariants.{Ask}
use Rattle.calls.specs.declared.Question.{Question}
use Rattle.calls.specs.declared.Question.TheVariants.{Cell as OfCell}
use Rattle.calls.specs.declared.Answer.TheVariants.{Inside, Outside}
use Rattle.holder_model.specs.Book.{Entry, asked, asks, acts, answer}
use Rattle.holder_model.specs.LastTaken.{last_taken}
use Rattle.holder_model.proofs.LastTaken.{work-last-taken}
use Rattle.book_replies.specs.After.{reply_to}
use Rattle.book_replies.proofs.Taken.{reply-after}

not-bad-cell : (x : Point) → x.col < side → x.row < side → bad_cell x ≡ false
unfolding bad_cell
not-bad-cell x c r = rw (lt-leb side x.col c, lt-leb side x.row r)

-- Inside or outside, by a test
abbrev said : Bool → Reply
said t = cond t (Ok Inside) (Ok Outside)

says-inside : (t : Bool) → (said t ≡ Ok Inside) ↔ (t ≡ true)
says-inside true = (λ e. refl, λ e. refl)
says-inside false = (λ e. cc, λ e. cc)

says-outside : (t : Bool) → (said t ≡ Ok Outside) ↔ (t ≡ false)
says-outside true = (λ e. cc, λ e. cc)
says-outside false = (λ e. refl, λ e. refl)

-- A query has number 12 exactly if nothing is at work
asked-nothing : (x : Point) (o : Option Outline) → ((reply_fields (asked x o)).number ≡ 12) ↔ (o ≡ none)
unfolding asked reply_fields
asked-nothing x none = (λ e. refl, λ e. refl)
asked-nothing x (some o) = go (bad_cell x) (block o x.col x.row)
  where
    go : (t u : Bool) → ((reply_fields (cond t (Err Cell) (cond u (Ok Inside) (Ok Outside)))).number ≡ 12) ↔ (some o ≡ none)
    go true u = (λ e. absurd (omega (arith, e)), λ e. cc)
    go false true = (λ e. absurd (omega (arith, e)), λ e. cc)
    go false false = (λ e. absurd (omega (arith, e)), λ e. cc)

-- A question about party p's place k, after a list of calls
module _ (p k : ℕ) (there : p < parties) (inside : k < places) (cs : List Entry) where
  -- The reply depends on the outline last taken there
  pub ask-reply : (q : Question) → reply_to cs (by p (Ask k q)) ≡ asks q (last_taken p k cs)
  unfolding answer acts
  ask-reply q = reply-after cs (by p (Ask k q)) ∙ rw (lt-leb parties p there, lt-leb places k inside) (ap (asks q) (work-last-taken p k cs))

-- A query
module _ (p k : ℕ) (there : p < parties) (inside : k < places) (cs : List Entry) (x : Point) where
  abbrev query : Call
  query = by p (Ask k (OfCell x))

  pub query-reply : reply_to cs query ≡ asked x (last_taken p k cs)
  unfolding asks
  query-reply = ask-reply p k there inside cs (OfCell x)

  -- The number is 12 exactly if there is none
  pub query-nothing : ((reply_fields (reply_to cs query)).number ≡ 12) ↔ (last_taken p k cs ≡ none)
  query-nothing = rw query-reply (asked-nothing x (last_taken p k cs))

  module _ (o : Outline) (last : last_taken p k cs ≡ some o) (col : x.col < side) (row : x.row < side) where
    pub query-answered : reply_to cs query ≡ cond (block o x.col x.row) (Ok Inside) (Ok Outside)
    unfolding asked
    query-answered = query-reply ∙ ap (asked x) last ∙ rw (not-bad-cell x col row)

    -- "Inside" exactly if that outline encloses the cell, otherwise "outside" (contract 8.4)
    pub query-inside : (reply_to cs query ≡ Ok Inside) ↔ (block o x.col x.row ≡ true)
    query-inside = rw query-answered (says-inside (block o x.col x.row))

    pub query-outside : (reply_to cs query ≡ Ok Outside) ↔ (block o x.col x.row ≡ false)
    query-outside = rw query-answered (says-outside (block o x.col x.row))
