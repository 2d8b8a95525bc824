-- The stores of a call into a pile's arrays, one number each, in the order in which the code makes them. A query may interrupt a call
-- between any two (contract 12.8).
use Rattle.std.specs.Prelude.{ℕ, zero, suc, ◌+◌, ◌*◌, ◌≡◌, cond, ◌⊎◌, List, [], ◌∷◌, get_or, set, ltb, Result, Ok, Err}
use Rattle.chart.specs.Limits.{side}
use Rattle.chart.specs.Outline.{Outline}
use Rattle.chart.specs.declared.Point.{Point}
use Rattle.chart.specs.declared.Refusal.{Refusal}
use Rattle.chart.specs.declared.Taken.{Taken}
use Rattle.chart.specs.declared.Refusal.TheVariants.{NothingAtWork, Layer}
use Rattle.verdict.specs.Verdict.{verdict_of}
use Rattle.images.specs.Image.{is_image, held_in}
use Rattle.spans.specs.declared.Spans.{Spans}
use Rattle.spans.specs.Spans.{no_spans, spans_of}
use Rattle.span_list.specs.SpanList.{slot_bytes}
use Rattle.sections.specs.Sections.{last_layer}
use Rattle.pile_sections.specs.Sections.{dented_column, dented_row}
use Rattle.pile_replies.specs.Replies.{PileReply}
use Rattle.pile_model.specs.Calls.{PileCall, Set, SetEmpty, Check, Query, Restore}
use Rattle.pile_calls.specs.declared.Pile.{Pile}
use Rattle.pile_calls.specs.Arrays.{arrays, layers_in, passed_word, passed, position as position_of, query_of}
use Rattle.pile_calls.specs.Steps.{clear_at, tested_at}

pub data Store : Type 0 where
  word : ℕ → Store
  position : ℕ → Store
  byte : ℕ → ℕ → Store

unfoldable pub stored : Pile → Store → Pile
stored p (word w) = arrays p.rows (set p.state 0 w)
stored p (position k) = arrays p.rows (set p.state 1 k)
stored p (byte i v) = arrays (set p.rows i v) p.state

unfoldable pub stored_all : Pile → List Store → Pile
stored_all p [] = p
stored_all p (s ∷ ss) = stored_all (stored p s) ss

-- ---- the stores of each call

-- The pass goes: the word, then the position. It comes: the position, then the word
abbrev pub unpasses : List Store
unpasses = word 0 ∷ position 0 ∷ []

abbrev pub passes : List Store
passes = position 0 ∷ word passed_word ∷ []

-- n numbers of a list from its i-th on, into the rows from an index on, and then others
unfoldable pub bytes : ℕ → List ℕ → ℕ → ℕ → List Store → List Store
bytes at xs i zero rest = rest
bytes at xs i (suc n) rest = byte (at + i) (get_or xs i 0) ∷ bytes at xs (suc i) n rest

-- A layer is written after the pass is gone
unfoldable pub puts : ℕ → Spans → List Store
puts l x = word 0 ∷ position 0 ∷ bytes (slot_bytes * l) x.first 0 side (bytes (slot_bytes * l + side) x.past 0 side [])

unfoldable pub set_stores : ℕ → Outline → Result Taken Refusal → List Store
set_stores l o (Err f) = []
set_stores l o (Ok t) = puts l (spans_of o)

-- A restore makes the stores of the set or of the set empty that it is
unfoldable pub restore_stores : ℕ → Outline → List ℕ → List Store
restore_stores l o [] = puts l no_spans
restore_stores l o (a ∷ w) = set_stores l o (verdict_of o)

unfoldable pub fail_stores : Pile → List Store
fail_stores p = cond (passed p) unpasses []

unfoldable pub stores_of : Pile → PileCall → List Store
stores_of p (Set l o) = cond (ltb last_layer l) [] (set_stores l o (verdict_of o))
stores_of p (SetEmpty l) = cond (ltb last_layer l) [] (puts l no_spans)
stores_of p Check =
    cond (ltb (dented_column (layers_in p)) side) (fail_stores p) (cond (ltb (dented_row (layers_in p)) side) (fail_stores p) passes)
stores_of p (Query l x) = []
stores_of p (Restore l i) = cond (ltb last_layer l) [] (cond (is_image i) (restore_stores l (held_in i) (held_in i).letters) [])

-- A section of a check in steps
unfoldable pub step_stores_at : Pile → ℕ → List Store
step_stores_at p k =
    cond (clear_at (layers_in p) k) (cond (ltb k 509) (position (k + 1) ∷ []) passes) (cond (passed p) unpasses (position 0 ∷ []))

unfoldable pub step_stores : Pile → List Store
step_stores p = step_stores_at p (tested_at (position_of p))

-- ---- each moment

-- P holds before the first store, between any two, and after the last
unfoldable pub Throughout : (Pile → Type 0) → Pile → List Store → Type 0
Throughout P p [] = P p
Throughout P p (s ∷ ss) = P p × Throughout P (stored p s) ss

-- What a query replies of a pile that has not passed: 22, or 12
abbrev pub not_yet : ℕ → PileReply
not_yet l = cond (ltb last_layer l) (Err Layer) (Err NothingAtWork)

-- At x every query gets the reply that it gets of p, or 12, or the reply that it gets of q
abbrev pub Between : Pile → Pile → Pile → Type 0
Between p q x = (l : ℕ) (c : Point) → (query_of x l c ≡ query_of p l c) ⊎ ((query_of x l c ≡ not_yet l) ⊎ (query_of x l c ≡ query_of q l c))
