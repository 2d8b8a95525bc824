-- The model of a pile, which the contract calls the plain book (contract 12 and 13.11). It sees the calls and keeps
-- sixteen layers, each none or an outline, and whether the last check passed and nothing was set since. A
-- check is stated by hulls: no section has a missing cell, or the first that has one.
use Rattle.std.specs.Prelude.{ℕ, ◌≡◌, Bool, true, false, cond, List, [], ◌∷◌, ltb, Result, Ok, Err}
use Rattle.std.proofs.Math.Option.{Option, none, some}
use Rattle.base.specs.Put.{put}
use Rattle.chart.specs.declared.Point.{Point}
use Rattle.chart.specs.declared.Refusal.{Refusal}
use Rattle.chart.specs.declared.Taken.{Taken}
use Rattle.chart.specs.Outline.{Outline}
use Rattle.chart.specs.declared.Refusal.TheVariants.{Cell, NothingAtWork, Layer, Image}
use Rattle.convexity.specs.Clockwise.{block}
use Rattle.verdict.specs.Verdict.{verdict_of}
use Rattle.polygon.specs.Loose.{bad_cell}
use Rattle.images.specs.Image.{is_image, held_in}
use Rattle.sections.specs.Sections.{last_layer}
use Rattle.pile_replies.specs.Replies.{PileReply}
use Rattle.pile_replies.specs.declared.PileAnswer.TheVariants.{Done, Inside, Outside, Taken as WasTaken}
use Rattle.pile_replies.specs.Replies.{set_reply}
use Rattle.pile_model.specs.Calls.{PileCall, Set, SetEmpty, Check, Query, Restore}
use Rattle.pile_sections.specs.Meaning.{AllConvex, CheckedBy}

-- ---- the state

abbrev pub Layers : Type 0
Layers = ℕ → Option Outline

pub record PileBook : Type 0 where
  pub layers : Layers
  pub passed : Bool

-- Every layer is empty at first, and the pile is unchecked
unfoldable pub fresh : PileBook
fresh = record { layers = λ l. none; passed = false }

-- Layer l is set, which makes the pile unchecked
unfoldable pub put_layer : PileBook → ℕ → Option Outline → PileBook
put_layer b l v = record { layers = put b.layers l v; passed = false }

-- ---- what the layers mark

-- An empty layer marks no cell
unfoldable pub marks : Option Outline → ℕ → ℕ → Bool
marks none c r = false
marks (some o) c r = block o c r

-- The section at column c, a plane of layers and rows; the section at row r, a plane of layers and columns
unfoldable pub column_marks : Layers → ℕ → ℕ → ℕ → Bool
column_marks ls c l r = marks (ls l) c r

unfoldable pub row_marks : Layers → ℕ → ℕ → ℕ → Bool
row_marks ls r l c = marks (ls l) c r

-- ---- what a check says

-- Done if no section is dented, otherwise the first dented one, columns before rows
abbrev pub Checked : Layers → PileReply → Type 0
Checked ls = CheckedBy (column_marks ls) (row_marks ls)

-- No section is dented
abbrev pub NoneDented : Layers → Type 0
NoneDented ls = AllConvex (column_marks ls) (row_marks ls)

-- ---- the replies

-- Whether the layer has the cell
unfoldable pub located : Option Outline → Point → PileReply
located v x = cond (marks v x.col x.row) (Ok Inside) (Ok Outside)

-- 22, 12 and 11, checked in this order
unfoldable pub queried : PileBook → ℕ → Point → PileReply
queried b l x =
    cond (ltb last_layer l) (Err Layer)
    (cond b.passed (cond (bad_cell x) (Err Cell) (located (b.layers l) x)) (Err NothingAtWork))

-- The restore of an outline with these letters: without letters a set empty, and otherwise a set
unfoldable pub restored_reply : Outline → List ℕ → PileReply
restored_reply o [] = Ok Done
restored_reply o (a ∷ w) = set_reply (verdict_of o)

-- 22 and 26, checked in this order. Then the outline whose image the bytes are decides
unfoldable pub restored : ℕ → List ℕ → PileReply
restored l bytes =
    cond (ltb last_layer l) (Err Layer)
    (cond (is_image bytes) (restored_reply (held_in bytes) (held_in bytes).letters) (Err Image))

-- The reply is the model's
unfoldable pub Answers : PileBook → PileCall → PileReply → Type 0
Answers b (Set l o) r = r ≡ cond (ltb last_layer l) (Err Layer) (set_reply (verdict_of o))
Answers b (SetEmpty l) r = r ≡ cond (ltb last_layer l) (Err Layer) (Ok Done)
Answers b Check r = Checked b.layers r
Answers b (Query l x) r = r ≡ queried b l x
Answers b (Restore l bytes) r = r ≡ restored l bytes

-- ---- the model after a call

-- A taken outline becomes the layer. A refusal changes nothing
unfoldable pub set_book : PileBook → ℕ → Outline → Result Taken Refusal → PileBook
set_book b l o (Err f) = b
set_book b l o (Ok t) = put_layer b l (some o)

unfoldable pub restored_book : PileBook → ℕ → Outline → List ℕ → PileBook
restored_book b l o [] = put_layer b l none
restored_book b l o (a ∷ w) = set_book b l o (verdict_of o)

-- A check that passes replies done
unfoldable pub is_done : PileReply → Bool
is_done (Ok Done) = true
is_done (Ok Inside) = false
is_done (Ok Outside) = false
is_done (Ok (WasTaken t)) = false
is_done (Err f) = false

unfoldable pub next : PileBook → PileCall → PileReply → PileBook
next b (Set l o) r = cond (ltb last_layer l) b (set_book b l o (verdict_of o))
next b (SetEmpty l) r = cond (ltb last_layer l) b (put_layer b l none)
next b Check r = record { layers = b.layers; passed = is_done r }
next b (Query l x) r = b
next b (Restore l bytes) r = cond (ltb last_layer l) b (cond (is_image bytes) (restored_book b l (held_in bytes) (held_in bytes).letters) b)

-- Every reply to a list of calls is the model's, each call made on the model that the one before it left
unfoldable pub AllAnswer : PileBook → List PileCall → List PileReply → Type 0
AllAnswer b [] [] = Unit {0}
AllAnswer b [] (r ∷ rs) = ⊥
AllAnswer b (c ∷ cs) [] = ⊥
AllAnswer b (c ∷ cs) (r ∷ rs) = Answers b c r × AllAnswer (next b c r) cs rs

-- The model after the calls with these replies
unfoldable pub book_after : PileBook → List PileCall → List PileReply → PileBook
book_after b [] rs = b
book_after b (c ∷ cs) [] = b
book_after b (c ∷ cs) (r ∷ rs) = book_after (next b c r) cs rs
