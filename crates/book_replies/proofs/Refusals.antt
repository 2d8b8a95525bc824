-- Numbers 19 and 20 come from the party and the place alone, 12 from what is at work, and 11 from the question, because every other reply
-- has another number.
use Rattle.std.specs.Prelude.{Result, Ok, Err}
use Prim.Native.Nat.{ℕ, ◌≤◌, ◌<◌}
use native.Mathlib.Omega.{arith}
use mathlib.Core.Path.{◌≡◌, refl, sym, ◌∙◌}
use mathlib.Core.Logic.{◌↔◌}
use mathlib.Core.Bool.{Bool, true, false, cond, true≢false}
use mathlib.Core.Option.{Option, none, some}
use mathlib.Core.List.{List}
use lib.ListN.{length}
use lib.Dec.{leb, ltb}
use borrow.Author.Tests.{le-leb, lt-leb, leb-true}
use Rattle.chart.specs.Limits.{side, longest}
use Rattle.chart.specs.Outline.{Outline}
use Rattle.chart.specs.Fields.{verdict_fields}
use Rattle.chart.specs.declared.Point.{Point}
use Rattle.chart.specs.declared.Refusal.{Refusal}
use Rattle.chart.specs.declared.Refusal.TheVariants.{Cell, Place}
use Rattle.chart.specs.declared.Taken.{Taken}
use Rattle.lattice.specs.Refusals.{bad_start}
use Rattle.convexity.specs.Clockwise.{border, block}
use Rattle.convexity.specs.Pieces.{edges}
use Rattle.std.specs.Prelude.{Some, None as Empty}
use Rattle.spans.specs.Spans.{Span, row_span, span_reply}
use Rattle.verdict.specs.Verdict.{verdict_of}
use Rattle.verdict.proofs.VerdictLaws.{verdict-number}
use Rattle.polygon.specs.Loose.{bad_cell}
use Rattle.readings.specs.declared.Located.{Located}
use Rattle.readings.specs.declared.Located.TheVariants.{Inside as IsInside, Outside as IsOutside, Undecided as IsUndecided}
use Rattle.readings.specs.Located.{bad_reading, located_of}
use Rattle.readings.specs.Replies.{located_reply}
use Rattle.readings.proofs.Agreement.{refused-bad, refused-iff}
use Rattle.drawing.specs.declared.Stroke.TheVariants.{Move, Line, Close as Closing}
use Rattle.drawing.specs.Drawing.{Command, stroke_at}
use Rattle.drawing.specs.Points.{piece_of, drawn_reply}
use Rattle.calls.specs.Calls.{parties, places, bad_party, bad_place, by}
use Rattle.calls.specs.Replies.{Reply, reply_fields, piece_fields}
use Rattle.calls.specs.declared.Call.{Call}
use Rattle.calls.specs.declared.Action.{Action}
use Rattle.calls.specs.declared.Action.TheVariants.{Begin, Add, Drop, Clear, Close, Ask}
use Rattle.calls.specs.declared.Question.{Question}
use Rattle.calls.specs.declared.Question.TheVariants.{Cell as OfCell, Row as OfRow, Reading as OfReading, Piece as OfPiece}
use Rattle.calls.specs.declared.Answer.TheVariants.{Inside, Outside}
use Rattle.holder_model.specs.Book.{Entry, PartyModel, OnDraft, OnParty, fresh, begins, adds, drops, equals_work, closed_reply, closes}
use Rattle.holder_model.specs.Book.{asked, asked_row, asked_reading, asked_piece, asks, acts, answer, book_after}
use Rattle.holder_model.specs.LastTaken.{last_taken}
use Rattle.book_replies.specs.After.{reply_to}
use Rattle.book_replies.specs.Refused.{no_such_place, off_chart}
use Rattle.book_replies.proofs.Taken.{reply-after}
use Rattle.book_replies.proofs.Queries.{ask-reply}

abbrev number : Reply → ℕ
number r = (reply_fields r).number

-- ---- the numbers of replies

-- A question about an outline has 0 or 11, and 11 exactly if it is off the chart
pub record Answers (q : Question) (r : Reply) : Type 0 where
  pub low : number r ≤ 11
  pub off : (number r ≡ 11) ↔ (off_chart q ≡ true)

on_chart : (q : Question) (r : Reply) → off_chart q ≡ false → number r ≡ 0 → Answers q r
on_chart q r on e =
    record { low = omega (arith, e); off = (λ f. absurd (omega (arith, e, f)), λ f. absurd (true≢false (sym f ∙ on))) }

off_chart-answer : (q : Question) → off_chart q ≡ true → Answers q (Err Cell)
unfolding reply_fields
off_chart-answer q on = record { low = omega arith; off = (λ f. on, λ f. refl) }

span-zero : (s : Span) → number (span_reply s) ≡ 0
unfolding span_reply reply_fields
span-zero Empty = refl
span-zero (Some t) = refl

inside-zero : (t : Bool) → number (cond t (Ok Inside) (Ok Outside)) ≡ 0
unfolding reply_fields
inside-zero true = refl
inside-zero false = refl

located-zero : (l : Result Located Refusal) → ((why : Refusal) → l ≡ Err why → ⊥) → number (located_reply l) ≡ 0
unfolding located_reply reply_fields
located-zero (Ok IsInside) e = refl
located-zero (Ok IsOutside) e = refl
located-zero (Ok IsUndecided) e = refl
located-zero (Err why) e = absurd (e why refl)

stroke-zero : (s : Command) → number (drawn_reply s) ≡ 0
unfolding drawn_reply piece_of reply_fields piece_fields
stroke-zero (Some (Move c)) = refl
stroke-zero (Some (Line c)) = refl
stroke-zero (Some Closing) = refl
stroke-zero Empty = refl

asks-some : (q : Question) (o : Outline) → Answers q (asks q (some o))
unfolding asks asked asked_row asked_reading asked_piece off_chart
asks-some (OfCell x) o = go (bad_cell x) refl
  where
    go : (t : Bool) → bad_cell x ≡ t → Answers (OfCell x) (cond t (Err Cell) (cond (block o x.col x.row) (Ok Inside) (Ok Outside)))
    go true e = off_chart-answer (OfCell x) e
    go false e = on_chart (OfCell x) _ e (inside-zero (block o x.col x.row))
asks-some (OfRow r) o = go (leb side r) refl
  where
    go : (t : Bool) → leb side r ≡ t → Answers (OfRow r) (cond t (Err Cell) (span_reply (row_span (block o) r)))
    go true e = off_chart-answer (OfRow r) e
    go false e = on_chart (OfRow r) _ e (span-zero (row_span (block o) r))
asks-some (OfReading x) o = go (bad_reading x) refl
  where
    go : (t : Bool) → bad_reading x ≡ t → Answers (OfReading x) (located_reply (located_of (border o).start (edges (border o)) x))
    go true e =
        let f : located_of (border o).start (edges (border o)) x ≡ Err Cell = (refused-iff (border o).start (edges (border o)) x).1 e in
        rw f (unfold located_reply in off_chart-answer (OfReading x) e)
    go false e =
        on_chart (OfReading x) _ e
        (located-zero _ (λ why f. true≢false (sym (refused-bad (border o).start (edges (border o)) x f) ∙ e)))
asks-some (OfPiece n) o = on_chart (OfPiece n) _ refl (stroke-zero (stroke_at (border o).start (edges (border o)) n))

asks_none : (q : Question) → number (asks q none) ≡ 12
unfolding asks asked asked_row asked_reading asked_piece reply_fields
asks_none (OfCell x) = refl
asks_none (OfRow r) = refl
asks_none (OfReading x) = refl
asks_none (OfPiece n) = refl

-- ---- the numbers of a party's calls

asks-small : (q : Question) (w : Option Outline) → number (asks q w) ≤ 16
asks-small q none = omega (arith, asks_none q)
asks-small q (some o) = omega (arith, (asks-some q o).low)

closed-small : (t : Bool) (v : Result Taken Refusal) → (verdict_fields v).number ≤ 9 → number (closed_reply t v) ≤ 16
unfolding closed_reply reply_fields
closed-small t (Err f) h = omega (arith, h)
closed-small true (Ok t) h = omega arith
closed-small false (Ok t) h = omega arith

closes-small : (d w : Option Outline) → number (closes d w).reply ≤ 16
unfolding closes reply_fields
closes-small none w = omega arith
closes-small (some o) w = closed-small (equals_work o w) (verdict_of o) (verdict-number o)

-- One of two replies about a draft
one_of : (t : Bool) (x y : OnDraft) → number x.reply ≤ 16 → number y.reply ≤ 16 → number (cond t x y).reply ≤ 16
one_of true x y p q = p
one_of false x y p q = q

begins-small : (s : Point) (d : Option Outline) → number (begins s d).reply ≤ 16
unfolding begins reply_fields
begins-small s (some d) = omega arith
begins-small s none = one_of (bad_start s) _ _ (omega arith) (omega arith)

adds-small : (a : ℕ) (d : Option Outline) → number (adds a d).reply ≤ 16
unfolding adds reply_fields
adds-small a none = omega arith
adds-small a (some d) = one_of (leb longest (length d.letters)) _ _ (omega arith) (one_of (ltb 3 a) _ _ (omega arith) (omega arith))

drops-small : (d : Option Outline) → number (drops d).reply ≤ 16
unfolding drops reply_fields
drops-small none = omega arith
drops-small (some d) = omega arith

-- 20 if the action names a place above 3, and otherwise at most 16
record Placed (a : Action) (r : Reply) : Type 0 where
  low : no_such_place a ≡ false → number r ≤ 16
  high : no_such_place a ≡ true → number r ≡ 20

small : (a : Action) (r : Reply) → no_such_place a ≡ false → number r ≤ 16 → Placed a r
small a r e s = record { low = λ f. s; high = λ f. absurd (true≢false (sym f ∙ e)) }

twenty : (a : Action) → no_such_place a ≡ true → Placed a (Err Place)
unfolding reply_fields
twenty a e = record { low = λ f. absurd (true≢false (sym e ∙ f)); high = λ f. refl }

by_place : (a : Action) (t : Bool) → no_such_place a ≡ t → (x y : OnParty) → x.reply ≡ Err Place → number y.reply ≤ 16
    → Placed a (cond t x y).reply
by_place a true e x y n s = rw n (twenty a e)
by_place a false e x y n s = small a y.reply e s

acts-placed : (g : PartyModel) (a : Action) → Placed a (acts g a).reply
unfolding acts no_such_place
acts-placed g (Begin s) = small (Begin s) _ refl (begins-small s g.draft)
acts-placed g (Add a) = small (Add a) _ refl (adds-small a g.draft)
acts-placed g Drop = small Drop _ refl (drops-small g.draft)
acts-placed g (Clear k) = by_place (Clear k) (bad_place k) refl _ _ refl (unfold reply_fields in omega arith)
acts-placed g (Close k) = by_place (Close k) (bad_place k) refl _ _ refl (closes-small g.draft (g.works k))
acts-placed g (Ask k q) = go (bad_place k) refl
  where
    go : (t : Bool) → bad_place k ≡ t → Placed (Ask k q) (cond t (Err Place) (asks q (g.works k)))
    go true e = twenty (Ask k q) e
    go false e = small (Ask k q) _ e (asks-small q (g.works k))

placed-number : (a : Action) (r : Reply) → Placed a r → (number r ≡ 20) ↔ (no_such_place a ≡ true)
placed-number a r p = (λ e. go (no_such_place a) refl e, p.high)
  where
    go : (t : Bool) → no_such_place a ≡ t → number r ≡ 20 → no_such_place a ≡ true
    go true q e = q
    go false q e = absurd (omega (arith, e, p.low q))

never-party : (a : Action) (r : Reply) → Placed a r → number r ≡ 19 → ⊥
never-party a r p e = go (no_such_place a) refl
  where
    go : (t : Bool) → no_such_place a ≡ t → ⊥
    go true q = omega (arith, e, p.high q)
    go false q = omega (arith, e, p.low q)

-- ---- after a list of calls

module _ (cs : List Entry) where
  -- 19 exactly if the party is above 1 (contract 7.2)
  pub party-refused : (c : Call) → (number (reply_to cs c) ≡ 19) ↔ (parties ≤ c.party)
  unfolding answer reply_fields
  party-refused c = rw (reply-after cs c) (go (bad_party c.party) refl)
    where
      go : (t : Bool) → bad_party c.party ≡ t → (number (answer (book_after fresh cs) c).reply ≡ 19) ↔ (parties ≤ c.party)
      go true e = rw e (λ f. leb-true parties c.party e, λ f. refl)
      go false e = rw e (
        λ f. absurd (never-party c.action _ (acts-placed (book_after fresh cs c.party) c.action) f),
        λ f. absurd (true≢false (sym (le-leb parties c.party f) ∙ e)),
      )

  -- 20 exactly if the call of a party names a place above 3
  pub place-refused : (p : ℕ) → p < parties → (a : Action) → (number (reply_to cs (by p a)) ≡ 20) ↔ (no_such_place a ≡ true)
  unfolding answer
  place-refused p there a =
      rw (reply-after cs (by p a), lt-leb parties p there) (placed-number a _ (acts-placed (book_after fresh cs p) a))

  -- A question at a place
  module _ (p k : ℕ) (there : p < parties) (inside : k < places) (q : Question) where
    -- 12 exactly if nothing was taken there since the last clear, whatever is asked
    pub ask-nothing : (number (reply_to cs (by p (Ask k q))) ≡ 12) ↔ (last_taken p k cs ≡ none)
    ask-nothing = rw (ask-reply p k there inside cs q) (go (last_taken p k cs))
      where
        go : (w : Option Outline) → (number (asks q w) ≡ 12) ↔ (w ≡ none)
        go none = (λ e. refl, λ e. asks_none q)
        go (some o) = (λ e. absurd (omega (arith, e, (asks-some q o).low)), λ e. cc)

    -- Otherwise 11 exactly if the question is off the chart
    pub ask-off : (o : Outline) → last_taken p k cs ≡ some o → (number (reply_to cs (by p (Ask k q))) ≡ 11) ↔ (off_chart q ≡ true)
    ask-off o last = rw (ask-reply p k there inside cs q, last) (asks-some q o).off
