-- A holder is four arrays. What each call leaves in them and replies: an equation for every content (contract 7 and 10.4).
use Rattle.std.specs.Prelude.{ℕ, ◌+◌, ◌*◌, min, Bool, cond, List, take, get_or, set, ℤ, leb, ltb, eqb, Result, Ok, Err}
use Rattle.chart.specs.Limits.{longest}
use Rattle.chart.specs.Outline.{Outline, at, outline}
use Rattle.chart.specs.declared.Point.{Point}
use Rattle.chart.specs.declared.Refusal.{Refusal}
use Rattle.chart.specs.declared.Refusal.TheVariants.{Start, Letter, NoDraft, DraftOpen, DraftFull, Party, Place}
use Rattle.chart.specs.declared.Taken.{Taken}
use Rattle.lattice.specs.Refusals.{bad_start}
use Rattle.judge.specs.declared.Judged.{Judged}
use Rattle.judge.specs.Judged.{judged_of}
use Rattle.spans.specs.declared.Spans.{Spans}
use Rattle.spans.specs.Spans.{spans_of}
use Rattle.calls.specs.Calls.{bad_party, bad_place}
use Rattle.calls.specs.declared.Call.{Call}
use Rattle.calls.specs.declared.Action.{Action}
use Rattle.calls.specs.declared.Action.TheVariants.{Begin, Add, Drop, Clear, Close, Ask}
use Rattle.calls.specs.Replies.{Reply}
use Rattle.calls.specs.declared.Answer.TheVariants.{Done, Taken as WasTaken, Same}
use Rattle.holder_records.specs.Work.{Work, listed, has_edges, answered}
use Rattle.windows.specs.Windows.{window}
use Rattle.span_list.specs.SpanList.{rows_put}
use Rattle.holder_memory.specs.Layout.{draft_head, place_word, Holder, arrays, numbers_put, open_put, slot_head_put, spot, work_at}
use Rattle.holder_memory.specs.Words.{word_of, slot_of, free_tag, free_slot}
use Rattle.holder_answers.specs.declared.Draft.{Draft}

-- A reply, and the next holder
pub record Answered : Type 0 where
  pub reply : Reply
  pub holder : Holder

abbrev pub reply : Reply → Holder → Answered
reply r h = record { reply = r; holder = h }

-- What a prepare replies, the word that it returns, and what it leaves
pub record Preparation : Type 0 where
  pub reply : Reply
  pub word : ℕ
  pub holder : Holder

abbrev pub preparation : Reply → ℕ → Holder → Preparation
preparation r w h = record { reply = r; word = w; holder = h }

-- ---- what is read

-- The flag, the count and the outline of party p's draft
abbrev pub begun : Holder → ℕ → Bool
begun h p = ltb 0 (get_or h.heads (draft_head p) 0)

abbrev pub draft_count : Holder → ℕ → ℕ
draft_count h p = get_or h.heads (draft_head p + 3) 0

unfoldable pub draft_in : Holder → ℕ → Outline
draft_in h p =
    outline (at (get_or h.heads (draft_head p + 1) 0) (get_or h.heads (draft_head p + 2) 0))
    (take (min (draft_count h p) longest) (window (longest * p) longest h.letters))

-- The slot that place k of party p names, and the work at the place
abbrev pub slot_in : Holder → ℕ → ℕ → ℕ
slot_in h p k = slot_of p (get_or h.heads (place_word (spot p k)) 0)

abbrev pub work_in : Holder → ℕ → ℕ → Work
work_in h p k = work_at h.rows h.numbers h.heads (slot_in h p k)

-- ---- what is written

abbrev pub with_heads : Holder → List ℕ → Holder
with_heads h heads = arrays h.letters h.rows h.numbers heads

-- A draft is opened, gets a letter, ends
abbrev pub opened : Holder → ℕ → Point → Holder
opened h p s = with_heads h (open_put h.heads (draft_head p) s)

abbrev pub lengthened : Holder → ℕ → ℕ → Holder
lengthened h p a =
    arrays (set h.letters (longest * p + draft_count h p) a) h.rows h.numbers (set h.heads (draft_head p + 3) (draft_count h p + 1))

abbrev pub ended : Holder → ℕ → Holder
ended h p = with_heads h (set h.heads (draft_head p) 0)

-- One number: the spot names what word w names
abbrev pub worded : Holder → ℕ → ℕ → Holder
worded h s w = with_heads h (set h.heads (place_word s) w)

-- Slot t is filled
abbrev pub filled : Holder → ℕ → Point → List ℤ → ℕ → Spans → Holder
filled h t a es n x = arrays h.letters (rows_put h.rows t x) (numbers_put h.numbers t es) (slot_head_put h.heads t a n)

-- ---- the calls of party p

unfoldable pub begin_of : Holder → ℕ → Point → Answered
begin_of h p s =
    cond (begun h p) (reply (Err DraftOpen) h)
    (cond (bad_start s) (reply (Err Start) h)
    (reply (Ok Done) (opened h p s)))

unfoldable pub add_of : Holder → ℕ → ℕ → Answered
add_of h p a =
    cond (begun h p)
    (cond (leb longest (draft_count h p)) (reply (Err DraftFull) h)
    (cond (ltb 3 a) (reply (Err (Letter (draft_count h p))) h)
    (reply (Ok Done) (lengthened h p a))))
    (reply (Err NoDraft) h)

unfoldable pub drop_of : Holder → ℕ → Answered
drop_of h p = cond (begun h p) (reply (Ok Done) (ended h p)) (reply (Err NoDraft) h)

unfoldable pub clear_of : Holder → ℕ → ℕ → Answered
clear_of h p k = cond (bad_place k) (reply (Err Place) h) (reply (Ok Done) (worded h (spot p k) 0))

-- An outline is prepared for place k: the reply, the word for commit, and the party's slot that no place names is filled. If it is refused
-- the word is 0, and nothing changes
unfoldable pub outline_prepared_by : Holder → ℕ → ℕ → Outline → Judged → Result Taken Refusal → Preparation
outline_prepared_by h p k o j (Err f) = preparation (Err f) 0 h
outline_prepared_by h p k o j (Ok t) =
    preparation (cond (has_edges (work_in h p k) t.anchor (listed j.numbers t.edges)) (Ok (Same t.edges t.anchor)) (Ok (WasTaken t.edges t.anchor)))
    (word_of (free_tag h.heads p))
    (filled h (free_slot h.heads p) t.anchor j.numbers t.edges (spans_of o))

abbrev pub outline_prepared : Holder → ℕ → ℕ → Outline → Preparation
outline_prepared h p k o = outline_prepared_by h p k o (judged_of o) (judged_of o).verdict

-- Close is prepare and commit. Prepare prepares the draft's outline and ends the draft; its word is 0 if it refuses
abbrev pub draft_ended : ℕ → Preparation → Preparation
draft_ended p q = preparation q.reply q.word (ended q.holder p)

unfoldable pub prepared_of : Holder → ℕ → ℕ → Preparation
prepared_of h p k =
    cond (bad_place k) (preparation (Err Place) 0 (ended h p))
    (cond (begun h p) (draft_ended p (outline_prepared h p k (draft_in h p)))
    (preparation (Err NoDraft) 0 h))

unfoldable pub prepare_of : Holder → ℕ → ℕ → Preparation
prepare_of h p k = cond (bad_party p) (preparation (Err Party) 0 h) (prepared_of h p k)

-- Commit writes a word that is not 0 at the spot, and nothing else
unfoldable pub commit_of : List ℕ → ℕ → ℕ → ℕ → List ℕ
commit_of heads p k w =
    cond (bad_party p) heads (cond (bad_place k) heads (cond (eqb w 0) heads (set heads (place_word (spot p k)) w)))

abbrev pub committed : ℕ → ℕ → Preparation → Answered
committed p k q = reply q.reply (with_heads q.holder (commit_of q.holder.heads p k q.word))

unfoldable pub close_of : Holder → ℕ → ℕ → Answered
close_of h p k = committed p k (prepared_of h p k)

unfoldable pub act_of : Holder → ℕ → Action → Answered
act_of h p (Begin s) = begin_of h p s
act_of h p (Add a) = add_of h p a
act_of h p Drop = drop_of h p
act_of h p (Clear k) = clear_of h p k
act_of h p (Close k) = close_of h p k
act_of h p (Ask k q) = reply (cond (bad_place k) (Err Place) (answered (work_in h p k) q)) h

unfoldable pub answer_of : Holder → Call → Answered
answer_of h c = cond (bad_party c.party) (reply (Err Party) h) (act_of h c.party c.action)

-- What a party drafts, or 19 or 13
abbrev pub Drafting : Type 0
Drafting = Result Draft Refusal

abbrev pub drafted : Point → ℕ → Drafting
drafted s n = Ok (record { start = s; count = n })

-- Whether party p has a draft, its start and its count
unfoldable pub draft_of : Holder → ℕ → Drafting
draft_of h p =
    cond (bad_party p) (Err Party)
    (cond (begun h p) (drafted (at (get_or h.heads (draft_head p + 1) 0) (get_or h.heads (draft_head p + 2) 0)) (draft_count h p))
    (Err NoDraft))
