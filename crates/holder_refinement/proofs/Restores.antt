-- A restore on the arrays does what the plain book says: as a close of the image's outline that leaves the draft, or as a clear. Its first
-- half leaves every work and every draft, or clears the place.
use Rattle.std.specs.Prelude.{Result, Ok, Err}
use Prim.Native.Nat.{ℕ, ◌<◌}
use mathlib.Core.Path.{◌≡◌, refl, sym, ap, subst, ◌∙◌}
use mathlib.Core.Bool.{Bool, true, false, cond}
use mathlib.Core.Option.{Option, none, some}
use mathlib.Core.List.{List, [], ◌∷◌}
use lib.ListN.{set}
use lib.IntN.{ℤ}
use lib.Dec.{eqb}
use borrow.Author.Tests.{leb-false, lt-leb, eqb-true}
use Rattle.base.specs.Put.{put}
use Rattle.base.proofs.PutLaws.{put-here, put-elsewhere}
use Rattle.chart.specs.Outline.{Outline}
use Rattle.chart.specs.declared.Point.{Point}
use Rattle.chart.specs.declared.Refusal.TheVariants.{Cell}
use Rattle.chart.specs.declared.Refusal.{Refusal}
use Rattle.chart.specs.declared.Taken.{Taken}
use Rattle.chart.specs.Taken.{taken_with}
use Rattle.verdict.specs.Verdict.{verdict_of}
use Rattle.judge.specs.Judged.{judged_of}
use Rattle.judge.proofs.JudgedLaws.{judged-verdict, judged-numbers}
use Rattle.spans.specs.Spans.{spans_of}
use Rattle.calls.specs.Calls.{parties, places, bad_party, bad_place, by}
use Rattle.calls.specs.declared.Action.TheVariants.{Clear}
use Rattle.calls.specs.Replies.{Reply}
use Rattle.calls.specs.declared.Answer.TheVariants.{Done, Taken as WasTaken, Same}
use Rattle.images.specs.Image.{is_image, held_in}
use Rattle.holder_model.specs.Book.{Book, PartyModel, OnParty, equals_work, closed_reply as closed_in_book, work_after, closes, acts}
use Rattle.holder_model.specs.Book.{restores, restoring, puts_back, answer, restored}
use Rattle.holder_records.specs.Work.{listed, has_edges, replaced}
use Rattle.holder_records.specs.Acts.{Acted, closed_reply}
use Rattle.holder_memory.specs.Layout.{Holder, place_word, spot}
use Rattle.holder_memory.specs.Words.{word_of, free_tag, free_slot}
use Rattle.holder_memory.proofs.Free.{tag_below, word-not-zero}
use Rattle.holder_answers.specs.Arrays.{Answered, reply, work_in, worded, filled, outline_prepared_by, outline_prepared}
use Rattle.holder_answers.specs.Arrays.{committed, clear_of, act_of, answer_of}
use Rattle.holder_answers.proofs.Cases.{commit-done}
use Rattle.holder_images.specs.Arrays.{image_prepared, prepare_image_of, restore_of}
use Rattle.holder_refinement.proofs.Sizes.{judged-size}
use Rattle.holder_refinement.proofs.Works.{IsWork, numbers_of, taken-working, closed-agrees}
use Rattle.holder_refinement.proofs.Actions.{AgreesParty}
use Rattle.holder_refinement.proofs.Turns as Turns
use Rattle.holder_refinement.proofs.Turns.{draft_of, Turned, commit-zero}
use Rattle.holder_refinement.proofs.ListTheorem.{Represents, next-book, call-agrees}

-- The same book, party by party
pub represents-same : (h : Holder) (b d : Book) → ((q : ℕ) → b q ≡ d q) → Represents h b → Represents h d
represents-same h b d e r = record { fits = r.fits; pages = λ q l. rw (sym (e q)) (r.pages q l) }

pub put-own : (b : Book) (p q : ℕ) → put b p (b p) q ≡ b q
unfolding put
put-own b p q = go (eqb q p) refl
  where
    go : (t : Bool) → eqb q p ≡ t → cond t (b p) (b q) ≡ b q
    go true e = ap b (sym (eqb-true q p e))
    go false e = refl

-- What a call replies and leaves is the book's
abbrev pub Agrees : Answered → Book → ℕ → OnParty → Type 0
Agrees x b p n = (x.reply ≡ n.reply) × Represents x.holder (put b p n.page)

module _ (h : Holder) (b : Book) (r : Represents h b) (p : ℕ) (there : p < parties) (k : ℕ) (inside : k < places) where
  abbrev g : PartyModel
  g = b p

  -- The draft is left, and the work at the place replaced
  leaves : (x : Reply) (y : Acted) (v : Option Outline) → y.reply ≡ x → y.draft ≡ draft_of h p → IsWork y.work v
      → AgreesParty g k y (restoring g k (record { reply = x; work = v }))
  leaves x y v e d w =
      record {
        reply = e;
        draft = rw d (r.pages p there).draft;
        work = rw (put-here g.works k v) w;
        others = put-elsewhere g.works k v;
      }

  by_turn : (x : Answered) (y : Acted) (n : OnParty) → Turned h p k x y → AgreesParty g k y n → Agrees x b p n
  by_turn x y n t a = (t.reply ∙ a.reply, next-book h p k there inside x y t b n r a)

  work : IsWork (work_in h p k) (g.works k)
  work = (r.pages p there).works k inside

  -- ---- an outline, both halves

  module _ (o : Outline) (n : ℕ) (a : Point) (e : (judged_of o).verdict ≡ taken_with n a) where
    taken : verdict_of o ≡ taken_with n a
    taken = sym (judged-verdict o) ∙ e

    abbrev es : List ℤ
    es = (judged_of o).numbers

    own : es ≡ numbers_of o (taken_with n a)
    own = judged-numbers o ∙ ap (numbers_of o) taken

    replied : cond (has_edges (work_in h p k) a (listed es n)) (Ok (Same n a)) (Ok (WasTaken n a))
        ≡ closed_in_book (equals_work o (g.works k)) (taken_with n a)
    unfolding closed_reply
    replied =
        ap (λ (l : List ℤ). closed_reply (work_in h p k) l (taken_with n a)) own
        ∙ closed-agrees (work_in h p k) (g.works k) work o (taken_with n a) taken

    works : IsWork (replaced a es n (spans_of o)) (some o)
    works = rw own (taken-working o n a taken)

  by-verdict : (o : Outline) (v : Result Taken Refusal) → (judged_of o).verdict ≡ v
      → Agrees (committed p k (outline_prepared_by h p k o (judged_of o) v)) b p
      (restoring g k (record { reply = closed_in_book (equals_work o (g.works k)) v; work = work_after (g.works k) o v }))
  unfolding outline_prepared_by closed_in_book work_after
  by-verdict o (Err f) e =
      rw (commit-zero h.heads p k)
      (by_turn _ _ _ (Turns.kept h r.fits p there k inside (Err f)) (leaves (Err f) _ (g.works k) refl refl work))
  by-verdict o (Ok t) e =
      let h₁ : Holder = filled h (free_slot h.heads p) t.anchor (es o t.edges t.anchor e) t.edges (spans_of o) in
      rw (sym (commit-done h₁.heads p k (word_of (free_tag h.heads p)) there inside
      (word-not-zero (free_tag h.heads p) (tag_below h.heads p))))
      (by_turn _ _ _ (Turns.restored h r.fits p there k inside t.anchor t.edges o (es o t.edges t.anchor e) (judged-size o) _)
      (leaves _ _ (some o) (replied o t.edges t.anchor e) refl (works o t.edges t.anchor e)))

  outline-agrees : (o : Outline) → Agrees (committed p k (outline_prepared h p k o)) b p (restoring g k (closes (some o) (g.works k)))
  unfolding closes
  outline-agrees o =
      subst
      (λ (v : Result Taken Refusal). Agrees (committed p k (outline_prepared h p k o)) b p
      (restoring g k (record { reply = closed_in_book (equals_work o (g.works k)) v; work = work_after (g.works k) o v })))
      (judged-verdict o) (by-verdict o (judged_of o).verdict refl)

  -- Without letters, as a clear
  cleared : Agrees (reply (Ok Done) (worded h (spot p k) 0)) b p (restoring g k (record { reply = Ok Done; work = none }))
  unfolding answer_of act_of clear_of answer acts
  cleared = rw (lt-leb parties p there, lt-leb places k inside) at (call-agrees h b r (by p (Clear k)))

  image-agrees : (o : Outline) (l : List ℕ)
      → Agrees (committed p k (image_prepared h p k o l)) b p (restoring g k (restores o l (g.works k)))
  unfolding image_prepared restores
  image-agrees o [] = rw (commit-zero (set h.heads (place_word (spot p k)) 0) p k) cleared
  image-agrees o (a ∷ l) = outline-agrees o

  -- ---- an outline, the first half: the book is as it was

  pub outline-half : (o : Outline) → Represents (outline_prepared h p k o).holder b
  unfolding outline_prepared_by
  outline-half o = go (judged_of o).verdict
    where
      go : (v : Result Taken Refusal) → Represents (outline_prepared_by h p k o (judged_of o) v).holder b
      go (Err f) = r
      go (Ok t) =
          represents-same _ (put b p g) b (put-own b p)
          (by_turn _ _ (record { reply = Err Cell; page = g })
          (Turns.brought h r.fits p there k inside t.anchor t.edges o (judged_of o).numbers (judged-size o) (Err Cell))
          (record { reply = refl; draft = (r.pages p there).draft; work = work; others = λ j e. refl })).1

-- ---- any restore

-- The reply is the book's, and the arrays are those of the book afterwards (contract 13.7)
pub restore-agrees : (h : Holder) (b : Book) → Represents h b → (p k : ℕ) (bytes : List ℕ)
    → ((restore_of h p k bytes).reply ≡ (restored b p k bytes).reply) × Represents (restore_of h p k bytes).holder (restored b p k bytes).next
unfolding restore_of prepare_image_of restored puts_back
restore-agrees h b r p k bytes = go (bad_party p) (bad_place k) (is_image bytes) refl refl refl
  where
    same : Represents h (put b p (b p))
    same = represents-same h b (put b p (b p)) (λ q. sym (put-own b p q)) r

    go : (t u i : Bool) → bad_party p ≡ t → bad_place k ≡ u → is_image bytes ≡ i
        → ((restore_of h p k bytes).reply ≡ (restored b p k bytes).reply)
        × Represents (restore_of h p k bytes).holder (restored b p k bytes).next
    go true u i e f m = rw (e, commit-zero h.heads p k) (refl, r)
    go false true i e f m = rw (e, f, commit-zero h.heads p k) (refl, same)
    go false false false e f m = rw (e, f, m, commit-zero h.heads p k) (refl, same)
    go false false true e f m =
        rw (e, f, m) (image-agrees h b r p (leb-false parties p e) k (leb-false places k f) (held_in bytes) (held_in bytes).letters)
