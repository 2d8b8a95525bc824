-- The model of the holder, which the contract calls the plain book: it sees calls and restores and keeps outlines (contract 8 and 13.7).
use Rattle.std.specs.Prelude.{ℕ, Bool, false, cond, List, [], ◌∷◌, ◌++◌, length, leb, ltb, Result, Ok, Err}
use Rattle.std.specs.Bool.{beq}
use Rattle.std.proofs.Math.Option.{Option, none, some}
use Rattle.base.specs.Below.{every}
use Rattle.base.specs.Put.{put}
use Rattle.chart.specs.Limits.{side, longest}
use Rattle.chart.specs.Outline.{Outline}
use Rattle.chart.specs.declared.Point.{Point}
use Rattle.chart.specs.declared.Refusal.TheVariants.{Start, Letter, Cell, NothingAtWork, NoDraft, DraftOpen, DraftFull, Party, Place}
use Rattle.chart.specs.declared.Refusal.TheVariants.{Image}
use Rattle.chart.specs.declared.Refusal.{Refusal}
use Rattle.chart.specs.declared.Taken.{Taken}
use Rattle.lattice.specs.Refusals.{bad_start}
use Rattle.convexity.specs.Clockwise.{border, block}
use Rattle.convexity.specs.Pieces.{edges}
use Rattle.spans.specs.Spans.{row_span, span_reply}
use Rattle.verdict.specs.Verdict.{verdict_of}
use Rattle.polygon.specs.Loose.{bad_cell}
use Rattle.readings.specs.Located.{located_of}
use Rattle.readings.specs.Replies.{located_reply}
use Rattle.drawing.specs.Drawing.{stroke_at}
use Rattle.drawing.specs.Points.{drawn_reply}
use Rattle.images.specs.Image.{is_image, held_in}
use Rattle.calls.specs.Calls.{bad_party, bad_place}
use Rattle.calls.specs.declared.Call.{Call}
use Rattle.calls.specs.declared.Action.{Action}
use Rattle.calls.specs.declared.Action.TheVariants.{Begin, Add, Drop, Clear, Close, Ask}
use Rattle.calls.specs.declared.Question.{Question}
use Rattle.calls.specs.declared.Question.TheVariants.{Cell as OfCell, Row as OfRow, Reading as OfReading, Piece as OfPiece}
use Rattle.calls.specs.declared.Reading.{Reading}
use Rattle.calls.specs.Replies.{Reply}
use Rattle.calls.specs.declared.Answer.TheVariants.{Done, Inside, Outside, Taken as WasTaken, Same}

-- ---- the state

-- A party's state: its draft, and the outline at work at each place. Each may be none
pub record PartyModel : Type 0 where
  pub draft : Option Outline
  pub works : ℕ → Option Outline

abbrev pub put_draft : PartyModel → Option Outline → PartyModel
put_draft g d = record { draft = d; works = g.works }

abbrev pub put_work : PartyModel → ℕ → Option Outline → PartyModel
put_work g k w = record { draft = g.draft; works = put g.works k w }

-- A state for each party
abbrev pub Book : Type 0
Book = ℕ → PartyModel

abbrev pub drafted : Book → ℕ → Option Outline
drafted b p = (b p).draft

abbrev pub at_work : Book → ℕ → ℕ → Option Outline
at_work b p k = (b p).works k

-- All are none at first
unfoldable pub fresh : Book
fresh p = record { draft = none; works = λ k. none }

-- ---- what a call does to a draft: its reply, and the draft afterwards

pub record OnDraft : Type 0 where
  pub reply : Reply
  pub draft : Option Outline

-- Begin (contract 7.3). Checks 14 and then 2. The opened draft has no letters yet
unfoldable pub begins : Point → Option Outline → OnDraft
begins s (some d) = record { reply = Err DraftOpen; draft = some d }
begins s none =
    cond (bad_start s) (record { reply = Err Start; draft = none })
    (record { reply = Ok Done; draft = some (record { start = s; letters = [] }) })

-- Add (contract 7.4). Checks 13, 15 and then 3. The place of 3 is where the letter would have stood
unfoldable pub adds : ℕ → Option Outline → OnDraft
adds a none = record { reply = Err NoDraft; draft = none }
adds a (some d) =
    cond (leb longest (length d.letters)) (record { reply = Err DraftFull; draft = some d })
    (cond (ltb 3 a) (record { reply = Err (Letter (length d.letters)); draft = some d })
    (record { reply = Ok Done; draft = some (record { start = d.start; letters = d.letters ++ (a ∷ []) }) }))

-- Drop (contract 7.5)
unfoldable pub drops : Option Outline → OnDraft
drops none = record { reply = Err NoDraft; draft = none }
drops (some d) = record { reply = Ok Done; draft = none }

-- ---- what a close does to a work: its reply, and the work afterwards. The draft ends in any case

pub record OnWork : Type 0 where
  pub reply : Reply
  pub work : Option Outline

-- Two outlines enclose the same cells of the chart
unfoldable pub same_block : Outline → Outline → Bool
same_block o v = every (λ r. every (λ c. beq (block o c r) (block v c r)) side) side

-- The outline encloses the same cells as the one at work
unfoldable pub equals_work : Outline → Option Outline → Bool
equals_work o none = false
equals_work o (some v) = same_block o v

-- The reply, from the verdict of 1 to 9 on the draft and whether the same block is at work
unfoldable pub closed_reply : Bool → Result Taken Refusal → Reply
closed_reply same (Err f) = Err f
closed_reply same (Ok t) = cond same (Ok (Same t.edges t.anchor)) (Ok (WasTaken t.edges t.anchor))

-- A refusal leaves what is at work. A taken draft replaces it
unfoldable pub work_after : Option Outline → Outline → Result Taken Refusal → Option Outline
work_after w d (Err f) = w
work_after w d (Ok t) = some d

-- Close (contract 7.7). The verdict of 1 to 9 on the draft decides
unfoldable pub closes : Option Outline → Option Outline → OnWork
closes none w = record { reply = Err NoDraft; work = w }
closes (some d) w = record { reply = closed_reply (equals_work d w) (verdict_of d); work = work_after w d (verdict_of d) }

-- ---- questions about a work

-- Query (contract 7.8). Checks 12 and then 11. Then the enclosed cells decide
unfoldable pub asked : Point → Option Outline → Reply
asked x none = Err NothingAtWork
asked x (some o) = cond (bad_cell x) (Err Cell) (cond (block o x.col x.row) (Ok Inside) (Ok Outside))

-- Row (contract 7.9). Checks 12 and then 11. Then the first and the last enclosed column, found cell by cell
unfoldable pub asked_row : ℕ → Option Outline → Reply
asked_row r none = Err NothingAtWork
asked_row r (some o) = cond (leb side r) (Err Cell) (span_reply (row_span (block o) r))

-- Reading (contract 7.10). Checks 12. Then the outline's anchor and edges answer, including 11
unfoldable pub asked_reading : Reading → Option Outline → Reply
asked_reading x none = Err NothingAtWork
asked_reading x (some o) = located_reply (located_of (border o).start (edges (border o)) x)

-- Piece (contract 7.11). Checks 12. Then it takes the path command from the drawing of the outline's anchor and edges
unfoldable pub asked_piece : ℕ → Option Outline → Reply
asked_piece n none = Err NothingAtWork
asked_piece n (some o) = drawn_reply (stroke_at (border o).start (edges (border o)) n)

unfoldable pub asks : Question → Option Outline → Reply
asks (OfCell x) w = asked x w
asks (OfRow r) w = asked_row r w
asks (OfReading x) w = asked_reading x w
asks (OfPiece n) w = asked_piece n w

-- ---- the calls of a party

-- A reply, and the party's state after it
pub record OnParty : Type 0 where
  pub reply : Reply
  pub page : PartyModel

abbrev pub drafting : PartyModel → OnDraft → OnParty
drafting g a = record { reply = a.reply; page = put_draft g a.draft }

abbrev pub closing : PartyModel → ℕ → OnWork → OnParty
closing g k a = record { reply = a.reply; page = put_work (put_draft g none) k a.work }

-- Contract 7.3 to 7.11; a clear is 7.6. If the action names a place, 20 is checked first. A close refused by 20 still ends the draft
unfoldable pub acts : PartyModel → Action → OnParty
acts g (Begin s) = drafting g (begins s g.draft)
acts g (Add a) = drafting g (adds a g.draft)
acts g Drop = drafting g (drops g.draft)
acts g (Clear k) = cond (bad_place k) (record { reply = Err Place; page = g }) (record { reply = Ok Done; page = put_work g k none })
acts g (Close k) =
    cond (bad_place k) (record { reply = Err Place; page = put_draft g none }) (closing g k (closes g.draft (g.works k)))
acts g (Ask k q) = record { reply = cond (bad_place k) (Err Place) (asks q (g.works k)); page = g }

-- ---- restores

-- 26 (contract 5)
abbrev pub not_image : Reply
not_image = Err Image

-- What the restore of an outline with these letters does to a work: without letters as a clear, and otherwise as a close of that outline
unfoldable pub restores : Outline → List ℕ → Option Outline → OnWork
restores o [] w = record { reply = Ok Done; work = none }
restores o (a ∷ l) w = closes (some o) w

abbrev pub restoring : PartyModel → ℕ → OnWork → OnParty
restoring g k a = record { reply = a.reply; page = put_work g k a.work }

-- Restore (contract 13.6). Checks 20 and 26. Then the outline whose image the bytes are decides. The draft stays
unfoldable pub puts_back : ℕ → List ℕ → PartyModel → OnParty
puts_back k bytes g =
    cond (bad_place k) (record { reply = Err Place; page = g })
    (cond (is_image bytes) (restoring g k (restores (held_in bytes) (held_in bytes).letters (g.works k)))
    (record { reply = not_image; page = g }))

-- ---- the calls

-- The reply of a call, and the model after it
pub record Answer : Type 0 where
  pub reply : Reply
  pub next : Book

-- 19 is checked first (contract 7.2). Otherwise the call reads and changes its own party's state only
abbrev pub answer_by : Book → ℕ → (PartyModel → OnParty) → Answer
answer_by b p f =
    cond (bad_party p) (record { reply = Err Party; next = b })
    (record { reply = (f (b p)).reply; next = put b p (f (b p)).page })

unfoldable pub answer : Book → Call → Answer
answer b c = answer_by b c.party (λ g. acts g c.action)

unfoldable pub restored : Book → ℕ → ℕ → List ℕ → Answer
restored b p k bytes = answer_by b p (puts_back k bytes)

-- What the book sees: a call, or a restore of bytes to a party's place
pub data Entry : Type 0 where
  Entered : Call → Entry
  Restored : ℕ → ℕ → List ℕ → Entry

abbrev pub party_of : Entry → ℕ
party_of (Entered c) = c.party
party_of (Restored p k bytes) = p

abbrev pub entered : Book → Entry → Answer
entered b (Entered c) = answer b c
entered b (Restored p k bytes) = restored b p k bytes

-- The replies to a list of calls, each made on the model that the one before it left
unfoldable pub replies_from : Book → List Call → List Reply
replies_from b [] = []
replies_from b (c ∷ cs) = (answer b c).reply ∷ replies_from (answer b c).next cs

unfoldable pub replies : List Call → List Reply
replies cs = replies_from fresh cs

-- The model after a list of calls and restores
unfoldable pub book_after : Book → List Entry → Book
book_after b [] = b
book_after b (x ∷ xs) = book_after (entered b x).next xs
