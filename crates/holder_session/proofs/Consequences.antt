-- What the replies in a session mean: each is the plain book's after the calls before it, so what is known of that reply holds for its
-- seven numbers.
use Prim.Native.Nat.{ℕ, ◌^◌, ◌≤◌, ◌<◌}
use native.Mathlib.Omega.{arith}
use mathlib.Core.Path.{◌≡◌, refl, sym, ap, ◌∙◌}
use mathlib.Core.Logic.{◌↔◌, ◌⊎◌, inl, inr}
use mathlib.Core.Bool.{Bool, true, false, cond}
use mathlib.Core.Option.{none, some}
use mathlib.Core.List.{List, Memᴰ}
use lib.IntN.{pos, neg_ℤ, nat_abs, ◌-ℤ◌}
use lib.Signed.{le_z}
use lib.Ieee.{Float, binary32}
use Rattle.rounding.specs.Units.{value}
use Rattle.chart.specs.Limits.{side}
use Rattle.chart.specs.Outline.{Outline}
use Rattle.chart.specs.declared.Fields.{Fields}
use Rattle.chart.specs.declared.Point.{Point}
use Rattle.chart.specs.declared.Refusal.{Refusal}
use Rattle.chart.specs.declared.Taken.{Taken}
use Rattle.chart.specs.Taken.{taken_with}
use Rattle.chart.specs.Fields.{inside, outside, same, undecided, verdict_fields}
use Rattle.chart.proofs.RefusalLaws.{refusal-number, refusal-wordless}
use Rattle.chart.proofs.TakenLaws.{verdict_number}
use Rattle.lattice.specs.Hull.{Missing, Convex}
use Rattle.lattice.specs.Refusals.{Simple}
use Rattle.convexity.specs.Clockwise.{border, block}
use Rattle.convexity.specs.Pieces.{Reaches, edges}
use Rattle.convexity.specs.SameBlock.{SameCells}
use Rattle.verdict.specs.Verdict.{verdict_of}
use Rattle.verdict.specs.Named.{CellNamed}
use Rattle.std.specs.Prelude.{Some, None as Empty, Result, Ok, Err}
use Rattle.spans.specs.Spans.{Span, row_span, SpanExact, span_reply}
use Rattle.readings.specs.declared.Located.{Located}
use Rattle.readings.specs.declared.Located.TheVariants.{Inside as IsInside, Outside as IsOutside, Undecided as IsUndecided}
use Rattle.readings.specs.Located.{Held, bad_reading, exactly_inside, located_of}
use Rattle.readings.specs.Sides.{PlacedEdge, edges_along, exact_side, computed_side}
use Rattle.readings.specs.Claims.{Open, Centred}
use Rattle.readings.specs.Replies.{located_reply}
use Rattle.calls.specs.Calls.{parties, places, by}
use Rattle.calls.specs.Replies.{Reply, columns, none_word, reply_fields, piece_in}
use Rattle.calls.specs.declared.Call.{Call}
use Rattle.calls.specs.declared.Reading.{Reading}
use Rattle.calls.specs.declared.Answer.TheVariants.{Inside, Outside, Undecided, Same}
use Rattle.calls.specs.declared.Action.TheVariants.{Close, Ask}
use Rattle.calls.specs.declared.Question.TheVariants.{Cell as OfCell, Row as OfRow, Reading as OfReading, Piece as OfPiece}
use Rattle.drawing.specs.Drawing.{stroke_at}
use Rattle.drawing.specs.Points.{drawn_reply, point_after}
use Rattle.holder_model.specs.Book.{Entry, drafted, fresh, equals_work, closed_reply, book_after}
use Rattle.holder_model.specs.LastTaken.{last_taken}
use Rattle.book_replies.specs.After.{reply_to}
use Rattle.book_replies.proofs.Queries as Queries
use Rattle.book_replies.proofs.Closes as Closes
use Rattle.book_replies.proofs.Rows as Rows
use Rattle.book_replies.proofs.Readings as Readings
use Rattle.book_replies.proofs.Pieces as Pieces
use Rattle.holder_session.specs.Session.{Drew}
use Rattle.holder_session.specs.Replied.{Happened, Replied}
use Rattle.holder_session.proofs.Entries.{replied-by-book, point-by-book}

-- Two numerals that differ
differ : {A : Type 0} → ◌≡◌ {A = ℕ} 0 1 → A
differ z = absurd (omega (arith, z))

-- ---- a query

word-inside : (t : Bool) → ((reply_fields (cond t (Ok Inside) (Ok Outside))).word ≡ inside) ↔ (t ≡ true)
unfolding reply_fields
word-inside true = (λ e. refl, λ e. refl)
word-inside false = (λ e. absurd (omega (arith, e)), λ e. cc)

word-outside : (t : Bool) → ((reply_fields (cond t (Ok Inside) (Ok Outside))).word ≡ outside) ↔ (t ≡ false)
unfolding reply_fields
word-outside true = (λ e. absurd (omega (arith, e)), λ e. cc)
word-outside false = (λ e. refl, λ e. refl)

module _ (cs : List Entry) (p k : ℕ) (there : p < parties) (place : k < places) (x : Point) (g : Fields)
    (replied : Replied cs (by p (Ask k (OfCell x))) g) where
  -- 12 exactly if nothing was taken at the party's place since the last clear
  pub query-nothing : (g.number ≡ 12) ↔ (last_taken p k cs ≡ none)
  query-nothing = rw (replied-by-book cs _ g replied) (Queries.query-nothing p k there place cs x)

  -- "Inside" exactly if the outline last taken there encloses the cell, otherwise "outside" (contract 8.4)
  module _ (o : Outline) (last : last_taken p k cs ≡ some o) (col : x.col < side) (row : x.row < side) where
    pub query-inside : (g.word ≡ inside) ↔ (block o x.col x.row ≡ true)
    query-inside =
        rw (
          replied-by-book cs _ g replied,
          Queries.query-answered p k there place cs x o last col row,
        ) (word-inside (block o x.col x.row))

    pub query-outside : (g.word ≡ outside) ↔ (block o x.col x.row ≡ false)
    query-outside =
        rw (
          replied-by-book cs _ g replied,
          Queries.query-answered p k there place cs x o last col row,
        ) (word-outside (block o x.col x.row))

-- ---- a close

word_same : (t : Bool) (v : Result Taken Refusal)
    → ((reply_fields (closed_reply t v)).word ≡ same) ↔ ((n : ℕ) × (a : Point) × (closed_reply t v ≡ Ok (Same n a)))
unfolding reply_fields closed_reply
word_same t (Err f) = (λ e. absurd (omega (arith, e, refusal-wordless f)), λ e. let z = e.2 in differ cc)
word_same true (Ok t) = (λ e. (t.edges, t.anchor, refl), λ e. refl)
word_same false (Ok t) = (λ e. absurd (omega (arith, e)), λ e. let z = e.2 in differ cc)

taken-by-number : (v : Result Taken Refusal) → (verdict_fields v).number ≡ 0 → (n : ℕ) × (a : Point) × (v ≡ taken_with n a)
taken-by-number (Ok t) e = (t.edges, t.anchor, refl)
taken-by-number (Err f) e = absurd (omega (arith, e, refusal-number f))

never-same : (v : Result Taken Refusal) → (reply_fields (closed_reply false v)).word ≡ same → ⊥
unfolding reply_fields closed_reply
never-same (Err f) e = omega (arith, e, refusal-wordless f)
never-same (Ok t) e = omega (arith, e)

-- A close by party p at place k with the draft o
module _ (cs : List Entry) (p k : ℕ) (there : p < parties) (place : k < places) (o : Outline)
    (draft : drafted (book_after fresh cs) p ≡ some o) (g : Fields)
    (replied : Replied cs (by p (Close k)) g) where
  closed : g ≡ reply_fields (closed_reply (equals_work o (last_taken p k cs)) (verdict_of o))
  closed = replied-by-book cs _ g replied ∙ ap reply_fields (Closes.close-reply p k there place cs o draft)

  -- Its number is that of the draft's verdict
  pub close-number : g.number ≡ (verdict_fields (verdict_of o)).number
  close-number = ap (λ (f : Fields). f.number) (replied-by-book cs _ g replied) ∙ Closes.close-number p k there place cs o draft

  -- If the draft passes 1 to 8, 9 exactly if some cell is missing (contract 8.4)
  pub close-nine : Reaches o → (g.number ≡ 9) ↔ ((x : Point) × Missing (block o) x)
  close-nine r = rw (replied-by-book cs _ g replied) (Closes.close-nine-missing p k there place cs o draft r)

  -- A draft refused by 8 has a missing cell too
  pub close-eight : g.number ≡ 8 → (x : Point) × Missing (block o) x
  close-eight e =
      Closes.close-eight-missing p k there place cs o draft (sym (ap (λ (f : Fields). f.number) (replied-by-book cs _ g replied)) ∙ e)

  -- If the draft passes 1 to 6, 0 exactly if no cell is missing (contract 8.5)
  pub close-taken : Simple o → (g.number ≡ 0) ↔ Convex (block o)
  close-taken h = rw (replied-by-book cs _ g replied) (Closes.close-taken-convex p k there place cs o draft h)

  -- With 0 the cell is the anchor, and with 9 the lowest missing cell, leftmost in its row
  pub close-named : CellNamed o g
  close-named = rw (replied-by-book cs _ g replied) (Closes.close-named p k there place cs o draft)

  -- "Same" exactly if the draft is taken and encloses the cells of the outline last taken at its place (contract 7.7)
  pub close-same : (v : Outline) → last_taken p k cs ≡ some v → (g.word ≡ same) ↔ ((g.number ≡ 0) × SameCells o v)
  close-same v last = (to, from)
    where
      to : g.word ≡ same → (g.number ≡ 0) × SameCells o v
      to e =
          let (n, a, s) = (word_same (equals_work o (last_taken p k cs)) (verdict_of o)).0 (sym (ap (λ (f : Fields). f.word) closed) ∙ e) in
          let both = (Closes.close-same p k there place cs o draft v last n a).0 (Closes.close-reply p k there place cs o draft ∙ s) in
          (close-number ∙ ap verdict_number both.0, both.1)

      from : (g.number ≡ 0) × SameCells o v → g.word ≡ same
      from e =
          let (n, a, t) = taken-by-number (verdict_of o) (sym close-number ∙ e.0) in
          let s = (Closes.close-same p k there place cs o draft v last n a).1 (t, e.1) in
          ap (λ (f : Fields). f.word) closed
          ∙ (word_same (equals_work o (last_taken p k cs)) (verdict_of o)).1 (n, a, sym (Closes.close-reply p k there place cs o draft) ∙ s)

  -- Never if nothing is at work
  pub close-not-same : last_taken p k cs ≡ none → g.word ≡ same → ⊥
  unfolding equals_work
  close-not-same last e =
      never-same (verdict_of o) (ap (λ (t : Bool). (reply_fields (closed_reply t (verdict_of o))).word) (sym (ap (equals_work o) last))
      ∙ sym (ap (λ (f : Fields). f.word) closed) ∙ e)

-- ---- a row

word-columns : (marked : ℕ → ℕ → Bool) (r : ℕ) (s : Span) → SpanExact marked r s → (reply_fields (span_reply s)).word ≡ columns
    → (c : ℕ) → (marked c r ≡ true) ↔ (((reply_fields (span_reply s)).col ≤ c) × (c ≤ (reply_fields (span_reply s)).row))
unfolding SpanExact span_reply reply_fields
word-columns marked r Empty exact e c = absurd (omega (arith, e))
word-columns marked r (Some t) exact e c = exact.1 c

word_none : (marked : ℕ → ℕ → Bool) (r : ℕ) (s : Span) → SpanExact marked r s → (reply_fields (span_reply s)).word ≡ none_word → (c : ℕ)
    → marked c r ≡ false
unfolding SpanExact span_reply reply_fields
word_none marked r Empty exact e c = exact c
word_none marked r (Some t) exact e c = absurd (omega (arith, e))

either-word : (s : Span) → ((reply_fields (span_reply s)).word ≡ columns) ⊎ ((reply_fields (span_reply s)).word ≡ none_word)
unfolding span_reply reply_fields
either-word Empty = inr refl
either-word (Some t) = inl refl

module _ (cs : List Entry) (p k : ℕ) (there : p < parties) (place : k < places) (r : ℕ) (row : r < side) (o : Outline)
    (last : last_taken p k cs ≡ some o) (g : Fields)
    (replied : Replied cs (by p (Ask k (OfRow r))) g) where
  spanned : g ≡ reply_fields (span_reply (row_span (block o) r))
  spanned = replied-by-book cs _ g replied ∙ ap reply_fields (Rows.row-reply p k there place cs r o last row)

  -- "Columns" if the outline last taken encloses cells of the row: exactly the columns
  -- between the two that are given. "None" if it encloses none (contract 7.9)
  pub row_word : (g.word ≡ columns) ⊎ (g.word ≡ none_word)
  row_word = rw spanned (either-word (row_span (block o) r))

  pub row-columns : g.word ≡ columns → (c : ℕ) → (block o c r ≡ true) ↔ ((g.col ≤ c) × (c ≤ g.row))
  row-columns e = let w = sym (ap (λ (f : Fields). f.word) spanned) ∙ e in
      rw spanned (word-columns (block o) r (row_span (block o) r) (Rows.row-exact p k there place cs r o last row) w)

  pub row-none : g.word ≡ none_word → (c : ℕ) → block o c r ≡ false
  row-none e =
      word_none (block o) r (row_span (block o) r) (Rows.row-exact p k there place cs r o last row)
      (sym (ap (λ (f : Fields). f.word) spanned) ∙ e)

-- ---- a reading

-- The word of a result
word_of : (l : Result Located Refusal)
    → (((reply_fields (located_reply l)).word ≡ inside) ↔ (located_reply l ≡ Ok Inside))
    × (((reply_fields (located_reply l)).word ≡ outside) ↔ (located_reply l ≡ Ok Outside))
    × (((reply_fields (located_reply l)).word ≡ undecided) ↔ (located_reply l ≡ Ok Undecided))
unfolding located_reply reply_fields
word_of (Ok IsInside) =
    ((λ e. refl, λ e. refl), (λ e. absurd (omega (arith, e)), λ e. differ cc), (λ e. absurd (omega (arith, e)), λ e. differ cc))
word_of (Ok IsOutside) =
    ((λ e. absurd (omega (arith, e)), λ e. differ cc), (λ e. refl, λ e. refl), (λ e. absurd (omega (arith, e)), λ e. differ cc))
word_of (Ok IsUndecided) =
    ((λ e. absurd (omega (arith, e)), λ e. differ cc), (λ e. absurd (omega (arith, e)), λ e. differ cc), (λ e. refl, λ e. refl))
word_of (Err why) = (
  (λ e. absurd (omega (arith, e, refusal-wordless why)), λ e. differ cc),
  (λ e. absurd (omega (arith, e, refusal-wordless why)), λ e. differ cc),
  (λ e. absurd (omega (arith, e, refusal-wordless why)), λ e. differ cc),
)

module _ (cs : List Entry) (p k : ℕ) (there : p < parties) (place : k < places) (x : Reading) (held : Held x) (good : bad_reading x ≡ false)
    (o : Outline) (last : last_taken p k cs ≡ some o)
    (g : Fields) (replied : Replied cs (by p (Ask k (OfReading x))) g) where
  abbrev found : Result Located Refusal
  found = located_of (border o).start (edges (border o)) x

  reply-is : g ≡ reply_fields (located_reply found)
  reply-is = replied-by-book cs _ g replied ∙ ap reply_fields (Readings.reading-reply p k there place cs x o last)

  -- The word determines the reply by value
  word-iff : {w : ℕ} {r : Reply} → ((reply_fields (located_reply found)).word ≡ w) ↔ (located_reply found ≡ r)
      → (g.word ≡ w) ↔ (reply_to cs (by p (Ask k (OfReading x))) ≡ r)
  word-iff i = (
    λ e. Readings.reading-reply p k there place cs x o last ∙ i.0 (sym (ap (λ (f : Fields). f.word) reply-is) ∙ e),
    λ e. ap (λ (f : Fields). f.word) reply-is ∙ i.1 (sym (Readings.reading-reply p k there place cs x o last) ∙ e),
  )

  -- "Inside" is said only of readings that are exactly inside, and "outside" only of
  -- readings that are not. "Undecided" is for the strip along the edges (contract 8.7)
  pub reading-inside : g.word ≡ inside → exactly_inside (border o).start (edges (border o)) x ≡ true
  reading-inside e = Readings.reading-inside p k there place cs x o last held good ((word-iff (word_of found).0).0 e)

  pub reading-outside : g.word ≡ outside → exactly_inside (border o).start (edges (border o)) x ≡ false
  reading-outside e = Readings.reading-outside p k there place cs x o last held good ((word-iff (word_of found).1).0 e)

  pub reading-undecided : (g.word ≡ undecided) ↔ Open (border o).start (edges (border o)) x
  reading-undecided =
      let i = word-iff (word_of found).2 in
      let j = Readings.reading-undecided p k there place cs x o last held good in
      (λ e. j.0 (i.0 e), λ e. i.1 (j.1 e))

  -- Rounding moves a side value by less than 1/64, in units of 2 ^ -149
  pub reading-close : (e : PlacedEdge) → Memᴰ e (edges_along (border o).start (edges (border o)))
      → nat_abs (value binary32 (computed_side x e) -ℤ exact_side x e) < 2 ^ 143
  reading-close = Readings.reading-close p k there place cs x o last held good

  -- A reading is decided if all its exact side values are at least 1/32, and also if one of them is at most -1/32
  pub reading-inner : ((e : PlacedEdge) → Memᴰ e (edges_along (border o).start (edges (border o)))
      → le_z (pos (2 ^ 144)) (exact_side x e) ≡ true) → g.word ≡ undecided → ⊥
  reading-inner all e = Readings.reading-inner p k there place cs x o last held good all ((word-iff (word_of found).2).0 e)

  pub reading-outer : (e : PlacedEdge) → Memᴰ e (edges_along (border o).start (edges (border o)))
      → le_z (exact_side x e) (neg_ℤ (pos (2 ^ 144))) ≡ true → g.word ≡ undecided → ⊥
  reading-outer e m far u = Readings.reading-outer p k there place cs x o last held good e m far ((word-iff (word_of found).2).0 u)

  -- At a cell's centre "inside" means that the cell is enclosed, and "outside" that it is not
  module _ (c : Point) (col : c.col < side) (row : c.row < side) (at : Centred x c) where
    pub centre-inside : g.word ≡ inside → block o c.col c.row ≡ true
    centre-inside e = Readings.centre-inside p k there place cs x o last held c col row at ((word-iff (word_of found).0).0 e)

    pub centre-outside : g.word ≡ outside → block o c.col c.row ≡ false
    centre-outside e = Readings.centre-outside p k there place cs x o last held c col row at ((word-iff (word_of found).1).0 e)

-- ---- a path command

module _ (cs : List Entry) (p k : ℕ) (there : p < parties) (place : k < places) (n : ℕ) (o : Outline) (last : last_taken p k cs ≡ some o)
  where
    -- The path command at position n of the drawing of the outline last taken: its word, and its point's cell (contract 7.11)
    pub piece-fields : (g : Fields) → Replied cs (by p (Ask k (OfPiece n))) g
        → g ≡ reply_fields (drawn_reply (stroke_at (border o).start (edges (border o)) n))
    piece-fields g replied = replied-by-book cs _ g replied ∙ ap reply_fields (Pieces.piece-reply p k there place cs o last n)

    -- The point that is written beside the reply: the two floats of a move or a line (contract 10.5)
    pub piece-point : (point point' : List Float) (reply : List ℕ) → Happened cs (Drew p k n point point' reply)
        → point' ≡ point_after (piece_in (drawn_reply (stroke_at (border o).start (edges (border o)) n))) point
    piece-point point point' reply e =
        point-by-book cs p k n point point' reply e
        ∙ ap (λ (r : Reply). point_after (piece_in r) point) (Pieces.piece-reply p k there place cs o last n)
