-- A pile is two arrays. What each call leaves in them and replies: an equation for every content (contract 12 and 13.11).
use Rattle.std.specs.Prelude.{ℕ, ◌≡◌, Bool, cond, List, [], ◌∷◌, length, get_or, replicate, ltb, eqb, Result, Ok, Err}
use Rattle.chart.specs.Limits.{side}
use Rattle.chart.specs.declared.Point.{Point}
use Rattle.chart.specs.declared.Refusal.{Refusal}
use Rattle.chart.specs.declared.Taken.{Taken}
use Rattle.chart.specs.Outline.{Outline}
use Rattle.chart.specs.declared.Refusal.TheVariants.{Cell, NothingAtWork, Section, Layer, Image}
use Rattle.chart.specs.declared.SectionKind.TheVariants.{Column, Row}
use Rattle.verdict.specs.Verdict.{verdict_of}
use Rattle.polygon.specs.Loose.{bad_cell}
use Rattle.images.specs.Image.{is_image, held_in}
use Rattle.spans.specs.declared.Spans.{Spans}
use Rattle.spans.specs.Spans.{no_spans, spans_of, in_spans}
use Rattle.sections.specs.Sections.{last_layer}
use Rattle.pile_sections.specs.Sections.{dented_column, dented_row}
use Rattle.pile_replies.specs.Replies.{PileReply}
use Rattle.pile_replies.specs.declared.PileAnswer.TheVariants.{Done, Inside, Outside, Taken as WasTaken}
use Rattle.pile_model.specs.Calls.{PileCall, Set, SetEmpty, Check, Query, Restore}
use Rattle.span_list.specs.SpanList.{spans_at, rows_put}
use Rattle.live_sections.specs.Layers.{layer_bytes, layers_of}
use Rattle.pile_calls.specs.declared.Pile.{Pile}
use Rattle.pile_calls.specs.declared.Piled.{Piled}

abbrev pub arrays : List ℕ → List ℕ → Pile
arrays r s = record { rows = r; state = s }

abbrev pub says : PileReply → Pile → Piled
says r p = record { reply = r; pile = p }

-- ---- what is read

abbrev pub layers_in : Pile → List Spans
layers_in p = layers_of p.rows

-- The first number of the state says whether the pile has passed: by this one word, 8 bits from 0 and from 65535. Any other number says no
abbrev pub passed_word : ℕ
passed_word = 23205

abbrev pub word : Pile → ℕ
word p = get_or p.state 0 0

abbrev pub passed : Pile → Bool
passed p = eqb (word p) passed_word

-- The second says where a check in steps stands
abbrev pub position : Pile → ℕ
position p = get_or p.state 1 0

-- ---- what is written

abbrev pub with_state : Pile → ℕ → ℕ → Pile
with_state p w k = arrays p.rows (w ∷ k ∷ [])

-- A layer is written, which makes the pile unchecked
abbrev pub layer_put : Pile → ℕ → Spans → Pile
layer_put p l x = arrays (rows_put p.rows l x) (0 ∷ 0 ∷ [])

-- A check has passed; a check has failed, which writes nothing unless the memory says that the pile has passed
abbrev pub passing : Pile → Pile
passing p = with_state p passed_word 0

unfoldable pub failing : Pile → Pile
failing p = cond (passed p) (with_state p 0 0) p

-- ---- the calls

-- A set, by the verdict of 1 to 9 on the outline
unfoldable pub set_as : Pile → ℕ → Outline → Result Taken Refusal → Piled
set_as p l o (Err f) = says (Err f) p
set_as p l o (Ok t) = says (Ok (WasTaken t)) (layer_put p l (spans_of o))

unfoldable pub set_of : Pile → ℕ → Outline → Piled
set_of p l o = cond (ltb last_layer l) (says (Err Layer) p) (set_as p l o (verdict_of o))

unfoldable pub empty_of : Pile → ℕ → Piled
empty_of p l = cond (ltb last_layer l) (says (Err Layer) p) (says (Ok Done) (layer_put p l no_spans))

-- 21 of a column, then of a row; otherwise the check passes
unfoldable pub check_of : Pile → Piled
check_of p =
    cond (ltb (dented_column (layers_in p)) side) (says (Err (Section Column (dented_column (layers_in p)))) (failing p))
    (cond (ltb (dented_row (layers_in p)) side) (says (Err (Section Row (dented_row (layers_in p)))) (failing p))
    (says (Ok Done) (passing p)))

-- 22, 12 and 11, checked in this order
unfoldable pub query_of : Pile → ℕ → Point → PileReply
query_of p l x =
    cond (ltb last_layer l) (Err Layer)
    (cond (passed p) (cond (bad_cell x) (Err Cell) (cond (in_spans (spans_at p.rows l) x.col x.row) (Ok Inside) (Ok Outside)))
    (Err NothingAtWork))

-- A restore of an outline with these letters: without letters a set empty, and otherwise a set
unfoldable pub restored_as : Pile → ℕ → Outline → List ℕ → Piled
restored_as p l o [] = says (Ok Done) (layer_put p l no_spans)
restored_as p l o (a ∷ w) = set_as p l o (verdict_of o)

-- 22 and 26, checked in this order. Then the outline whose image the bytes are decides
unfoldable pub restore_of : Pile → ℕ → List ℕ → Piled
restore_of p l bytes =
    cond (ltb last_layer l) (says (Err Layer) p)
    (cond (is_image bytes) (restored_as p l (held_in bytes) (held_in bytes).letters) (says (Err Image) p))

unfoldable pub answer_of : Pile → PileCall → Piled
answer_of p (Set l o) = set_of p l o
answer_of p (SetEmpty l) = empty_of p l
answer_of p Check = check_of p
answer_of p (Query l x) = says (query_of p l x) p
answer_of p (Restore l bytes) = restore_of p l bytes

-- ---- a fresh pile

-- Sixteen empty layers, unchecked
unfoldable pub fresh_pile : Pile
fresh_pile = arrays (replicate layer_bytes 0) (replicate 2 0)

-- ---- the lengths

-- The types of the code fix them
pub record Fits (p : Pile) : Type 0 where
  pub rows : length p.rows ≡ layer_bytes
  pub state : length p.state ≡ 2
