-- What a call does to its party's draft and to the work at its place (contract 7.3 to 7.11).
use Rattle.std.specs.Prelude.{ℕ, cond, List, ℤ, Result, Ok, Err}
use Rattle.chart.specs.declared.Refusal.{Refusal}
use Rattle.chart.specs.declared.Taken.{Taken}
use Rattle.chart.specs.declared.Refusal.TheVariants.{NoDraft, Place}
use Rattle.judge.specs.declared.Judged.{Judged}
use Rattle.judge.specs.Judged.{judged_of}
use Rattle.spans.specs.Spans.{spans_of}
use Rattle.calls.specs.Calls.{bad_place}
use Rattle.calls.specs.declared.Action.{Action}
use Rattle.calls.specs.declared.Action.TheVariants.{Begin, Add, Drop, Clear, Close, Ask}
use Rattle.calls.specs.declared.Question.{Question}
use Rattle.calls.specs.Replies.{Reply}
use Rattle.calls.specs.declared.Answer.TheVariants.{Done, Taken as WasTaken, Same}
use Rattle.holder_records.specs.Draft.{Draft, Drafted, outline_of, end_of, begin_of, add_of, drop_of}
use Rattle.holder_records.specs.Work.{Work, listed, replaced, removed, has_edges, answered}

-- A reply, the next draft and the next work
pub record Acted : Type 0 where
  pub reply : Reply
  pub draft : Draft
  pub work : Work

abbrev pub acted : Reply → Draft → Work → Acted
acted r d w = record { reply = r; draft = d; work = w }

-- ---- begin, add and drop leave the work

abbrev pub redrafted : Drafted → Work → Acted
redrafted a w = acted a.reply a.draft w

-- ---- clear

unfoldable pub clear_of : Draft → Work → ℕ → Acted
clear_of d w k = cond (bad_place k) (acted (Err Place) d w) (acted (Ok Done) d (removed w))

-- ---- close

-- The word is "same" if the taken draft's anchor and edges are at work
unfoldable pub closed_reply : Work → List ℤ → Result Taken Refusal → Reply
closed_reply w es (Err f) = Err f
closed_reply w es (Ok t) = cond (has_edges w t.anchor (listed es t.edges)) (Ok (Same t.edges t.anchor)) (Ok (WasTaken t.edges t.anchor))

-- A refusal leaves what is at work. A taken draft replaces it, with the edges that were found and its rows
unfoldable pub closed_work : Draft → Work → List ℤ → Result Taken Refusal → Work
closed_work d w es (Err f) = w
closed_work d w es (Ok t) = replaced t.anchor es t.edges (spans_of (outline_of d))

-- The draft ends in any case
unfoldable pub closed_by : Draft → Work → Judged → Acted
closed_by d w j = acted (closed_reply w j.numbers j.verdict) (end_of d) (closed_work d w j.numbers j.verdict)

-- A close refused by 20 ends the draft too
unfoldable pub close_of : Draft → Work → ℕ → Acted
close_of d w k =
    cond (bad_place k) (acted (Err Place) (end_of d) w)
    (cond d.begun (closed_by d w (judged_of (outline_of d))) (acted (Err NoDraft) d w))

-- ---- questions about the work

unfoldable pub ask_of : Draft → Work → ℕ → Question → Acted
ask_of d w k q = acted (cond (bad_place k) (Err Place) (answered w q)) d w

-- ---- every action

unfoldable pub acted_of : Draft → Work → Action → Acted
acted_of d w (Begin s) = redrafted (begin_of d s) w
acted_of d w (Add a) = redrafted (add_of d a) w
acted_of d w Drop = redrafted (drop_of d) w
acted_of d w (Clear k) = clear_of d w k
acted_of d w (Close k) = close_of d w k
acted_of d w (Ask k q) = ask_of d w k q

-- The place whose work an action is given: the one that it names. An action that names none,
-- or is refused by 20, is given the first place's work and leaves it unchanged
unfoldable pub kept_place : ℕ → ℕ
kept_place k = cond (bad_place k) 0 k

unfoldable pub reached_by : Action → ℕ
reached_by (Begin s) = 0
reached_by (Add a) = 0
reached_by Drop = 0
reached_by (Clear k) = kept_place k
reached_by (Close k) = kept_place k
reached_by (Ask k q) = kept_place k
