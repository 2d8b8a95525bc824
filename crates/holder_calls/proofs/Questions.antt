-- A question's reply, from where it looks.
use Prim.Native.Nat.{ℕ, ◌≤◌, ◌<◌}
use mathlib.Core.Path.{◌≡◌, refl}
use mathlib.Core.Bool.{Bool, true, false}
use mathlib.Core.List.{List}
use lib.ListN.{get_or}
use borrow.Author.Tests.{le-leb, lt-leb}
use Rattle.chart.specs.declared.Refusal.TheVariants.{Party, Place}
use Rattle.calls.specs.Calls.{parties, places, bad_party, bad_place, by}
use Rattle.calls.specs.declared.Action.TheVariants.{Ask}
use Rattle.calls.specs.declared.Question.{Question}
use Rattle.calls.specs.Replies.{Reply}
use Rattle.holder_records.specs.Work.{answered}
use Rattle.holder_memory.specs.Layout.{Holder, place_word, spot, work_at}
use Rattle.holder_answers.specs.Arrays.{reply}
use Rattle.holder_answers.specs.Arrays.{act_of, answer_of}
use Rattle.holder_memory.specs.Words.{slot_of}
use Rattle.std.specs.Prelude.{Result, Ok, Err}
use Rattle.chart.specs.declared.Refusal.{Refusal}
use Rattle.holder_calls.specs.parts.Asked.{asked_at, asked_reply}

module _ (heads : List ℕ) (p k : ℕ) where
  pub asked-no-party : parties ≤ p → Err Party ≡ asked_at heads p k
  unfolding asked_at
  asked-no-party b = rw (le-leb parties p b)

  pub asked-no-place : p < parties → places ≤ k → Err Place ≡ asked_at heads p k
  unfolding asked_at
  asked-no-place l b = rw (lt-leb parties p l, le-leb places k b)

  pub asked-slot : p < parties → k < places → (t : ℕ) → t ≡ slot_of p (get_or heads (place_word (spot p k)) 0) → Ok t ≡ asked_at heads p k
  unfolding asked_at
  asked-slot l m t e = rw (lt-leb parties p l, lt-leb places k m, e)

module _ (h : Holder) (p k : ℕ) (q : Question) (x : Result ℕ Refusal) (e : x ≡ asked_at h.heads p k) where
  abbrev from : ℕ → Reply
  from t = answered (work_at h.rows h.numbers h.heads t) q

  asks : reply (asked_reply (asked_at h.heads p k) from) h ≡ answer_of h (by p (Ask k q))
  unfolding answer_of act_of asked_at asked_reply
  asks = go (bad_party p) (bad_place k) refl refl
    where
      go : (t u : Bool) → bad_party p ≡ t → bad_place k ≡ u
          → reply (asked_reply (asked_at h.heads p k) from) h ≡ answer_of h (by p (Ask k q))
      go true u b c = rw b
      go false true b c = rw (b, c)
      go false false b c = rw (b, c)

  -- The reply to a question, from where it looks
  pub asked-done : (r : Reply) → r ≡ asked_reply x from → reply r h ≡ answer_of h (by p (Ask k q))
  asked-done r d = rw (d, e) asks
