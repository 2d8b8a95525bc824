-- When a reply has number 19, 20, 12 or 11: the reply is the plain book's, and its number says why it is refused. What 19 and 20 leave, for
-- every content of memory: the arrays; a close refused by 20 ends its draft.
use Rattle.std.specs.Prelude.{Err}
use Prim.Native.Nat.{ℕ, ◌≤◌, ◌<◌}
use mathlib.Core.Path.{◌≡◌, sym, ap, ◌∙◌}
use mathlib.Core.Logic.{◌↔◌}
use mathlib.Core.Bool.{true, cond, true≢false}
use mathlib.Core.Option.{none, some}
use mathlib.Core.List.{List}
use borrow.Author.Tests.{le-leb, lt-leb}
use Rattle.chart.specs.Outline.{Outline}
use Rattle.chart.specs.declared.Fields.{Fields}
use Rattle.chart.specs.Fields.{numbered, numbers_of}
use Rattle.chart.specs.declared.Refusal.TheVariants.{Party, Place}
use Rattle.calls.specs.Calls.{parties, places, by}
use Rattle.calls.specs.declared.Call.{Call}
use Rattle.calls.specs.declared.Action.{Action}
use Rattle.calls.specs.declared.Action.TheVariants.{Begin, Add, Drop, Clear, Close, Ask}
use Rattle.calls.specs.declared.Question.{Question}
use Rattle.calls.specs.Replies.{reply_fields}
use Rattle.holder_model.specs.Book.{Entry}
use Rattle.holder_model.specs.LastTaken.{last_taken}
use Rattle.book_replies.specs.Refused.{no_such_place, off_chart}
use Rattle.book_replies.proofs.Refusals as Refusals
use Rattle.holder_memory.specs.Layout.{Holder}
use Rattle.holder_answers.specs.Arrays.{Answered, reply, Preparation, preparation, ended, prepared_of, prepare_of, commit_of, clear_of, close_of}
use Rattle.holder_answers.specs.Arrays.{act_of, answer_of}
use Rattle.holder_answers.proofs.Cases.{no-party, prepare-no-party}
use Rattle.holder_images.specs.Arrays.{prepare_image_of}
use Rattle.holder_image_calls.specs.Written.{ImagePrepared}
use Rattle.holder_written.specs.Written.{Done, Prepared}
use Rattle.holder_refinement.proofs.Unaltered.{closes}
use Rattle.holder_session.specs.Replied.{Replied}
use Rattle.holder_session.proofs.Entries.{replied-by-book}

-- 19 exactly if the party is above 1, whatever is called (contract 7.2)
pub party-refused : (cs : List Entry) (c : Call) (g : Fields) → Replied cs c g → (g.number ≡ 19) ↔ (parties ≤ c.party)
party-refused cs c g replied = rw (replied-by-book cs c g replied) (Refusals.party-refused cs c)

-- 20 exactly if a party's call names a place above 3 (contract 7.2)
pub place-refused : (cs : List Entry) (p : ℕ) → p < parties → (a : Action) (g : Fields) → Replied cs (by p a) g
    → (g.number ≡ 20) ↔ (no_such_place a ≡ true)
place-refused cs p there a g replied = rw (replied-by-book cs (by p a) g replied) (Refusals.place-refused cs p there a)

-- A query, a row, a reading or a piece at a place
module _ (cs : List Entry) (p k : ℕ) (there : p < parties) (place : k < places) (q : Question) (g : Fields)
    (replied : Replied cs (by p (Ask k q)) g) where
  -- 12 exactly if nothing was taken there since the last clear
  pub ask-nothing : (g.number ≡ 12) ↔ (last_taken p k cs ≡ none)
  ask-nothing = rw (replied-by-book cs _ g replied) (Refusals.ask-nothing cs p k there place q)

  -- Otherwise 11 exactly if the cell, the row or the reading is off the chart. A piece never has 11
  pub ask-off : (o : Outline) → last_taken p k cs ≡ some o → (g.number ≡ 11) ↔ (off_chart q ≡ true)
  ask-off o last = rw (replied-by-book cs _ g replied) (Refusals.ask-off cs p k there place q o last)

-- ---- what 19 and 20 leave

-- The reply has this number only, and the arrays are n
abbrev pub Leaves : Holder → List ℕ → ℕ → Holder → Type 0
Leaves n l number m = (l ≡ numbers_of (numbered number)) × (n ≡ m)

module _ (h n : Holder) (p : ℕ) (l : List ℕ) where
  by_answer : (c : Call) → Done h n c l → (x : Answered) → x ≡ answer_of h c → (l ≡ numbers_of (reply_fields x.reply)) × (n ≡ x.holder)
  by_answer c d x e = (
    d.replied ∙ ap (λ (y : Answered). numbers_of (reply_fields y.reply)) (sym e),
    d.holder ∙ ap (λ (y : Answered). y.holder) (sym e),
  )

  by-half : (k w : ℕ) → Prepared h n p k w l → (x : Preparation) → x ≡ prepare_of h p k
      → (l ≡ numbers_of (reply_fields x.reply)) × (n ≡ x.holder)
  by-half k w d x e = (
    d.replied ∙ ap (λ (y : Preparation). numbers_of (reply_fields y.reply)) (sym e),
    d.holder ∙ ap (λ (y : Preparation). y.holder) (sym e),
  )

  by-image : (k w : ℕ) (bytes : List ℕ) → ImagePrepared h n p k bytes w l → (x : Preparation) → x ≡ prepare_image_of h p k bytes
      → (l ≡ numbers_of (reply_fields x.reply)) × (n ≡ x.holder)
  by-image k w bytes d x e = (
    d.replied ∙ ap (λ (y : Preparation). numbers_of (reply_fields y.reply)) (sym e),
    d.holder ∙ ap (λ (y : Preparation). y.holder) (sym e),
  )

  -- 19 leaves every number: of any call, and of the first half of a close or a restore
  module _ (above : parties ≤ p) where
    pub party-leaves : (a : Action) → Done h n (by p a) l → Leaves n l 19 h
    unfolding reply_fields
    party-leaves a d = by_answer (by p a) d (reply (Err Party) h) (no-party h (by p a) above)

    pub party-leaves-half : (k w : ℕ) → Prepared h n p k w l → Leaves n l 19 h
    unfolding reply_fields
    party-leaves-half k w d = by-half k w d (preparation (Err Party) 0 h) (prepare-no-party h p k above)

    pub party-leaves-image : (k w : ℕ) (bytes : List ℕ) → ImagePrepared h n p k bytes w l → Leaves n l 19 h
    unfolding reply_fields prepare_image_of
    party-leaves-image k w bytes d = by-image k w bytes d (preparation (Err Party) 0 h) (rw (le-leb parties p above))

  -- 20 leaves every number too, except that a close ends its draft
  module _ (there : p < parties) where
    no_place : (a : Action) → no_such_place a ≡ true → reply (Err Place) (cond (closes a) (ended h p) h) ≡ answer_of h (by p a)
    unfolding no_such_place closes answer_of act_of clear_of close_of prepared_of commit_of
    no_place (Clear k) e = rw (lt-leb parties p there, e)
    no_place (Close k) e = rw (lt-leb parties p there, e)
    no_place (Ask k q) e = rw (lt-leb parties p there, e)
    no_place (Begin s) e = absurd (true≢false (sym e))
    no_place (Add a) e = absurd (true≢false (sym e))
    no_place Drop e = absurd (true≢false (sym e))

    pub place-leaves : (a : Action) → no_such_place a ≡ true → Done h n (by p a) l → Leaves n l 20 (cond (closes a) (ended h p) h)
    unfolding reply_fields
    place-leaves a e d = by_answer (by p a) d (reply (Err Place) (cond (closes a) (ended h p) h)) (no_place a e)

    module _ (k : ℕ) (above : places ≤ k) where
      pub place-leaves-half : (w : ℕ) → Prepared h n p k w l → Leaves n l 20 (ended h p)
      unfolding reply_fields prepare_of prepared_of
      place-leaves-half w d =
          by-half k w d (preparation (Err Place) 0 (ended h p)) (rw (lt-leb parties p there, le-leb places k above))

      pub place-leaves-image : (w : ℕ) (bytes : List ℕ) → ImagePrepared h n p k bytes w l → Leaves n l 20 h
      unfolding reply_fields prepare_image_of
      place-leaves-image w bytes d =
          by-image k w bytes d (preparation (Err Place) 0 h) (rw (lt-leb parties p there, le-leb places k above))
