-- A row is answered from the outline last taken at its party and place, and the columns
-- are exact: those from the first to the last are enclosed, and no other.
use Prim.Native.Nat.{ℕ, ◌≤◌, ◌<◌}
use native.Mathlib.Omega.{arith}
use mathlib.Core.Path.{◌≡◌, sym, ap, ◌∙◌}
use mathlib.Core.Logic.{◌↔◌}
use mathlib.Core.Bool.{Bool, true, false}
use mathlib.Core.Option.{none, some}
use mathlib.Core.List.{List}
use borrow.Author.Tests.{lt-leb}
use Rattle.chart.specs.Limits.{side}
use Rattle.chart.specs.Outline.{Outline}
use Rattle.convexity.specs.Clockwise.{block}
use Rattle.std.specs.Prelude.{Some, None as Empty, Ok}
use Rattle.spans.specs.Spans.{Span, row_span, SpanExact, span_reply}
use Rattle.spans.proofs.Exact.{row-span-exact}
use Rattle.calls.specs.Calls.{parties, places, by}
use Rattle.calls.specs.declared.Call.{Call}
use Rattle.calls.specs.declared.Action.TheVariants.{Ask}
use Rattle.calls.specs.declared.Question.TheVariants.{Row as OfRow}
use Rattle.calls.specs.declared.Answer.TheVariants.{Columns, None}
use Rattle.holder_model.specs.Book.{Entry, asked_row, asks}
use Rattle.holder_model.specs.LastTaken.{last_taken}
use Rattle.book_replies.specs.After.{reply_to}
use Rattle.book_replies.proofs.Taken.{last-working}
use Rattle.book_replies.proofs.Queries.{ask-reply}

-- What a reply says about a row if its columns are exact
module _ (marked : ℕ → ℕ → Bool) (r : ℕ) where
  columns-said : (s : Span) → SpanExact marked r s → (a b : ℕ) → span_reply s ≡ Ok (Columns a b) → (c : ℕ)
      → (marked c r ≡ true) ↔ ((a ≤ c) × (c ≤ b))
  unfolding SpanExact span_reply
  columns-said Empty exact a b e c = let z : ◌≡◌ {A = ℕ} 0 1 = cc in absurd (omega arith)
  columns-said (Some t) exact a b e c = let p : t.first ≡ a = cc in let q : t.last ≡ b = cc in rw (sym p, sym q) (exact.1 c)

  none_said : (s : Span) → SpanExact marked r s → span_reply s ≡ Ok None → (c : ℕ) → marked c r ≡ false
  unfolding SpanExact span_reply
  none_said Empty exact e c = exact c
  none_said (Some t) exact e c = let z : ◌≡◌ {A = ℕ} 0 1 = cc in absurd (omega arith)

-- Row r at party p's place k, after a list of calls, with o as the outline last taken
module _ (p k : ℕ) (there : p < parties) (inside : k < places) (cs : List Entry) (r : ℕ) (o : Outline) (last : last_taken p k cs ≡ some o)
    (row : r < side) where
  abbrev asking : Call
  asking = by p (Ask k (OfRow r))

  pub row-reply : reply_to cs asking ≡ span_reply (row_span (block o) r)
  unfolding asks asked_row
  row-reply = ask-reply p k there inside cs (OfRow r) ∙ ap (asked_row r) last ∙ rw (lt-leb side r row)

  pub row-exact : SpanExact (block o) r (row_span (block o) r)
  row-exact = row-span-exact o (last-working p k cs o last).reaches r

  -- "Columns": every column from the first to the last is enclosed in that row, and no other (contract 7.9)
  pub row-columns : (a b : ℕ) → reply_to cs asking ≡ Ok (Columns a b) → (c : ℕ) → (block o c r ≡ true) ↔ ((a ≤ c) × (c ≤ b))
  row-columns a b e = columns-said (block o) r (row_span (block o) r) row-exact a b (sym row-reply ∙ e)

  -- "None": no column is enclosed
  pub row-none : reply_to cs asking ≡ Ok None → (c : ℕ) → block o c r ≡ false
  row-none e = none_said (block o) r (row_span (block o) r) row-exact (sym row-reply ∙ e)
