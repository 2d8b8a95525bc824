-- Each action, done to its party's draft and to one work, replies as the model does
-- and leaves the model's next draft and work. Every other work stays.
use Rattle.std.specs.Prelude.{Result, Ok, Err}
use Prim.Native.Nat.{ℕ}
use mathlib.Core.Path.{◌≡◌, refl, sym, subst}
use mathlib.Core.Bool.{Bool, true, false, cond}
use mathlib.Core.Option.{Option, none, some}
use Rattle.base.proofs.PutLaws.{put-here, put-elsewhere}
use Rattle.chart.specs.Outline.{Outline}
use Rattle.chart.specs.declared.Refusal.{Refusal}
use Rattle.chart.specs.declared.Taken.{Taken}
use Rattle.chart.specs.declared.Refusal.TheVariants.{NoDraft, Place}
use Rattle.verdict.specs.Verdict.{verdict_of}
use Rattle.judge.specs.Judged.{judged_of}
use Rattle.judge.proofs.JudgedLaws.{judged-verdict, judged-numbers}
use Rattle.calls.specs.Calls.{bad_place}
use Rattle.calls.specs.declared.Action.{Action}
use Rattle.calls.specs.declared.Action.TheVariants.{Begin, Add, Drop, Clear, Close, Ask}
use Rattle.calls.specs.declared.Question.{Question}
use Rattle.calls.specs.Replies.{Reply}
use Rattle.calls.specs.declared.Answer.TheVariants.{Done}
use Rattle.holder_model.specs.Book.{PartyModel, put_draft, put_work, OnDraft, OnParty, work_after, closes, asks, drafting, closing, acts}
use Rattle.holder_records.specs.Draft.{Draft, Drafted, outline_of, end_of}
use Rattle.holder_records.specs.Work.{Work, removed, answered}
use Rattle.holder_records.specs.Acts.{Acted, acted, redrafted, clear_of, closed_work, closed_by, close_of, ask_of, acted_of, kept_place}
use Rattle.holder_records.specs.Acts.{reached_by}
use Rattle.holder_refinement.proofs.Drafts.{IsDraft, AgreesDraft, ended-stands, begin-agrees, add-agrees, drop_agrees}
use Rattle.holder_refinement.proofs.Works.{IsWork, numbers_of, taken-working, removed-stands, closed-agrees, answered-asked}

-- What was done to a draft and to the work at place k is what the model did to the party's state
pub record AgreesParty (g : PartyModel) (k : ℕ) (a : Acted) (n : OnParty) : Type 0 where
  pub reply : a.reply ≡ n.reply
  pub draft : IsDraft a.draft n.page.draft
  pub work : IsWork a.work (n.page.works k)
  pub others : (j : ℕ) → (j ≡ k → ⊥) → n.page.works j ≡ g.works j

module _ (g : PartyModel) (d : Draft) (w : Work) (draft : IsDraft d g.draft) where
  -- ---- begin, add and drop leave every work

  redraft-agrees : (k : ℕ) → IsWork w (g.works k) → (x : Drafted) (n : OnDraft) → AgreesDraft x n
      → AgreesParty g k (redrafted x w) (drafting g n)
  redraft-agrees k work x n (said, is) = record { reply = said; draft = is; work = work; others = λ j e. refl }

  -- ---- clear

  clear-agrees : (k : ℕ) → IsWork w (g.works (kept_place k)) → AgreesParty g (kept_place k) (clear_of d w k) (acts g (Clear k))
  unfolding kept_place clear_of acts
  clear-agrees k work = go (bad_place k) work
    where
      go : (t : Bool) → IsWork w (g.works (cond t 0 k))
          → AgreesParty g (cond t 0 k) (cond t (acted (Err Place) d w) (acted (Ok Done) d (removed w)))
          (cond t (record { reply = Err Place; page = g }) (record { reply = Ok Done; page = put_work g k none }))
      go true work = record { reply = refl; draft = draft; work = work; others = λ j e. refl }
      go false work =
          record {
            reply = refl;
            draft = draft;
            work = rw (put-here g.works k none) (removed-stands w);
            others = put-elsewhere g.works k none;
          }

  -- ---- close

  -- What a close leaves: no draft, and a work that represents the model's
  leaves : (k : ℕ) (a : Acted) (r : Reply) (v : Option Outline) → a.reply ≡ r → IsDraft a.draft none → IsWork a.work v
      → AgreesParty g k a (closing g k (record { reply = r; work = v }))
  leaves k a r v said over is =
      record { reply = said; draft = over; work = rw (put-here g.works k v) is; others = put-elsewhere g.works k v }

  -- The work becomes the draft's outline exactly if that was taken
  closed-stands : (v : Option Outline) → IsWork w v → (o : Outline) (t : Result Taken Refusal) → outline_of d ≡ o → verdict_of o ≡ t
      → IsWork (closed_work d w (numbers_of o t) t) (work_after v o t)
  unfolding closed_work work_after
  closed-stands v work o (Err f) own e = work
  closed-stands v work o (Ok t) own e = rw own (taken-working o t.edges t.anchor e)

  -- The draft's flag is known
  flagged : (b : Bool) (k : ℕ) (x y : Acted) (n : OnParty) → d.begun ≡ b → AgreesParty g k (cond b x y) n
      → AgreesParty g k (cond d.begun x y) n
  flagged b k x y n e = subst (λ (t : Bool). AgreesParty g k (cond t x y) n) (sym e)

  judged-agrees : (k : ℕ) → IsWork w (g.works k) → (o : Option Outline) → IsDraft d o
      → AgreesParty g k (cond d.begun (closed_by d w (judged_of (outline_of d))) (acted (Err NoDraft) d w))
      (closing g k (closes o (g.works k)))
  unfolding closed_by closes
  judged-agrees k work none is =
      flagged false k _ _ _ is.stands (leaves k (acted (Err NoDraft) d w) (Err NoDraft) (g.works k) refl is work)
  judged-agrees k work (some o) is =
      let own : outline_of d ≡ o = is.stands.outline in
      flagged true k _ _ _ is.stands.begun
      (subst (λ (x : Outline). AgreesParty g k (closed_by d w (judged_of x)) (closing g k (closes (some o) (g.works k)))) (sym own)
      (rw (judged-verdict o, judged-numbers o)
      (leaves k _ _ _ (closed-agrees w (g.works k) work o (verdict_of o) refl) (ended-stands is)
      (closed-stands (g.works k) work o (verdict_of o) own refl))))

  close-agrees : (k : ℕ) → IsWork w (g.works (kept_place k)) → AgreesParty g (kept_place k) (close_of d w k) (acts g (Close k))
  unfolding kept_place close_of acts
  close-agrees k work = go (bad_place k) work
    where
      go : (t : Bool) → IsWork w (g.works (cond t 0 k))
          → AgreesParty g (cond t 0 k)
          (cond t (acted (Err Place) (end_of d) w)
          (cond d.begun (closed_by d w (judged_of (outline_of d))) (acted (Err NoDraft) d w)))
          (cond t (record { reply = Err Place; page = put_draft g none }) (closing g k (closes g.draft (g.works k))))
      go true work = record { reply = refl; draft = ended-stands draft; work = work; others = λ j e. refl }
      go false work = judged-agrees k work g.draft draft

  -- ---- questions about the work

  ask-agrees : (k : ℕ) (q : Question) → IsWork w (g.works (kept_place k)) → AgreesParty g (kept_place k) (ask_of d w k q) (acts g (Ask k q))
  unfolding kept_place ask_of acts
  ask-agrees k q work = record { reply = asked (bad_place k) work; draft = draft; work = work; others = λ j e. refl }
    where
      asked : (t : Bool) → IsWork w (g.works (cond t 0 k))
          → cond t (Err Place) (answered w q) ≡ cond t (Err Place) (asks q (g.works k))
      asked true work = refl
      asked false work = answered-asked w q (g.works k) work

  -- ---- every action

  pub act-agrees : (a : Action) → IsWork w (g.works (reached_by a)) → AgreesParty g (reached_by a) (acted_of d w a) (acts g a)
  unfolding reached_by acted_of acts
  act-agrees (Begin s) work = redraft-agrees 0 work _ _ (begin-agrees d g.draft draft s)
  act-agrees (Add a) work = redraft-agrees 0 work _ _ (add-agrees d g.draft draft a)
  act-agrees Drop work = redraft-agrees 0 work _ _ (drop_agrees d g.draft draft)
  act-agrees (Clear k) work = clear-agrees k work
  act-agrees (Close k) work = close-agrees k work
  act-agrees (Ask k q) work = ask-agrees k q work
