-- Every list of calls on a fresh holder gets the model's replies: the fresh arrays represent the fresh model, every call preserves that
-- and replies as the model does, and the rest is induction over the list.
use Prim.Native.Nat.{ℕ, ◌*◌, ◌<◌}
use native.Mathlib.Omega.{arith}
use mathlib.Core.Path.{◌≡◌, refl, sym, ap₂, ◌∙◌, subst}
use mathlib.Core.Bool.{Bool, true, false, true≢false}
use mathlib.Core.List.{List, [], ◌∷◌, map}
use lib.ListN.{length, replicate, length-replicate, get_or-replicate}
use lib.IntN.{pos}
use borrow.Author.Tests.{leb-false, eqb-true, eq-eqb}
use Rattle.chart.specs.Limits.{longest}
use Rattle.calls.specs.Calls.{parties, places, bad_party}
use Rattle.base.specs.Put.{put}
use Rattle.base.proofs.PutLaws.{put-here, put-elsewhere}
use Rattle.holder_model.specs.Book.{Book, PartyModel, OnParty, Entered, fresh, answer, replies_from, replies, book_after}
use Rattle.holder_model.specs.LastTaken.{last_taken}
use Rattle.holder_model.proofs.LastTaken.{work-last-taken}
use Rattle.holder_records.proofs.Places.{reached-below}
use Rattle.holder_refinement.proofs.Drafts.{IsDraft}
use Rattle.holder_refinement.proofs.Works.{IsWork}
use Rattle.holder_refinement.proofs.Actions.{AgreesParty, act-agrees}
use Rattle.calls.specs.declared.Call.{Call}
use lib.Dec.{eqb}
use Rattle.holder_records.specs.Acts.{Acted, reached_by}
use Rattle.windows.specs.Windows.{window}
use Rattle.windows.proofs.Fills.{window-replicate}
use Rattle.holder_memory.specs.Layout.{letter_bytes, Holder, place_word, spot, work_at, row_bytes, edge_numbers, head_numbers, Fits}
use Rattle.holder_refinement.proofs.Turns.{draft_at, draft_of, Turned, turns}
use Rattle.holder_answers.specs.Arrays.{Answered, work_in, answer_of}
use Rattle.holder_memory.specs.Words.{tag_of, slot_of}
use Rattle.holder_answers.specs.Run.{fresh_holder, handled_from, handled, holder_after, reply_after}

-- ---- the arrays represent the plain book

pub record HasParty (h : Holder) (p : ℕ) (g : PartyModel) : Type 0 where
  pub draft : IsDraft (draft_of h p) g.draft
  pub works : (k : ℕ) → k < places → IsWork (work_in h p k) (g.works k)

pub record Represents (h : Holder) (b : Book) : Type 0 where
  pub fits : Fits h
  pub pages : (p : ℕ) → p < parties → HasParty h p (b p)

differ : (m n : ℕ) → eqb m n ≡ false → m ≡ n → ⊥
differ m n e q = true≢false (sym (eq-eqb m n q) ∙ e)

module _ (h : Holder) (p k : ℕ) (there : p < parties) (inside : k < places) (x : Answered) (y : Acted) (t : Turned h p k x y) where
  next-page : (g : PartyModel) (n : OnParty) → HasParty h p g → AgreesParty g k y n → HasParty x.holder p n.page
  next-page g n was a = record { draft = rw t.draft a.draft; works = works }
    where
      works : (j : ℕ) → j < places → IsWork (work_in x.holder p j) (n.page.works j)
      works j m = go (eqb j k) refl
        where
          go : (u : Bool) → eqb j k ≡ u → IsWork (work_in x.holder p j) (n.page.works j)
          go true e = rw (eqb-true j k e) (t.work (n.page.works k) a.work)
          go false e =
              let apart : j ≡ k → ⊥ = differ j k e in
              rw (t.works p j there m (λ z. apart (omega (arith, z))), a.others j apart) (was.works j m)

  pub next-book : (b : Book) (n : OnParty) → Represents h b → AgreesParty (b p) k y n → Represents x.holder (put b p n.page)
  next-book b n r a = record { fits = t.fits; pages = pages }
    where
      pages : (q : ℕ) → q < parties → HasParty x.holder q (put b p n.page q)
      pages q m = go (eqb q p) refl
        where
          go : (u : Bool) → eqb q p ≡ u → HasParty x.holder q (put b p n.page q)
          go true e = rw (eqb-true q p e, put-here b p n.page) (next-page (b p) n (r.pages p there) a)
          go false e =
              let apart : q ≡ p → ⊥ = differ q p e in
              let was : HasParty h q (b q) = r.pages q m in
              rw (put-elsewhere b p n.page q apart)
              (record {
                draft = rw (t.drafts q m apart) was.draft;
                works = λ j i. rw (t.works q j m i (λ z. apart (omega (arith, z)))) (was.works j i);
              })

pub call-agrees : (h : Holder) (b : Book) → Represents h b → (c : Call)
    → ((answer_of h c).reply ≡ (answer b c).reply) × Represents (answer_of h c).holder (answer b c).next
unfolding answer_of answer
call-agrees h b r c = go (bad_party c.party) refl
  where
    go : (u : Bool) → bad_party c.party ≡ u
        → ((answer_of h c).reply ≡ (answer b c).reply) × Represents (answer_of h c).holder (answer b c).next
    go true e = rw e (refl, r)
    go false e =
        let there : c.party < parties = leb-false parties c.party e in
        let page = r.pages c.party there in
        let k = reached_by c.action in
        let inside : k < places = reached-below c.action in
        let a = act-agrees (b c.party) _ _ page.draft c.action (page.works k inside) in
        let t = turns h r.fits c.party there c.action in
        rw e (t.reply ∙ a.reply, next-book h c.party k there inside _ _ t b _ r a)

-- ---- the list theorem

fresh-fits : Fits fresh_holder
unfolding fresh_holder
fresh-fits =
    record {
      letters = length-replicate {A = ℕ} letter_bytes 0;
      rows = length-replicate {A = ℕ} row_bytes 0;
      numbers = length-replicate edge_numbers (pos 0);
      heads = length-replicate {A = ℕ} head_numbers 0;
    }

pub represents-fresh : Represents fresh_holder fresh
unfolding fresh_holder fresh draft_at work_at slot_of tag_of
represents-fresh =
    record {
      fits = fresh-fits;
      pages = λ p l. record {
        draft = record { space = space p l; stands = rw (get_or-replicate {A = ℕ} head_numbers (4 * p) 0 0 (omega arith)) };
        works = λ k m. rw (get_or-replicate {A = ℕ} head_numbers (place_word (spot p k)) 0 0 (omega arith));
      };
    }
  where
    space : (p : ℕ) → p < parties → length (window {A = ℕ} (longest * p) longest (replicate letter_bytes 0)) ≡ longest
    space p l = rw (window-replicate {A = ℕ} (longest * p) longest letter_bytes 0 (omega arith)) (length-replicate {A = ℕ} longest 0)

handled-from : (h : Holder) (b : Book) → Represents h b → (cs : List Call) → handled_from h cs ≡ replies_from b cs
unfolding handled_from replies_from
handled-from h b r [] = refl
handled-from h b r (c ∷ cs) = ap₂ ◌∷◌ (call-agrees h b r c).0 (handled-from (answer_of h c).holder _ (call-agrees h b r c).1 cs)

-- For every list of calls of both parties, whatever their arguments, each reply of fresh arrays is the model's (contract 8.2)
pub list-theorem : (cs : List Call) → handled cs ≡ replies cs
unfolding handled replies
list-theorem cs = handled-from fresh_holder fresh represents-fresh cs

-- ---- after a list of calls

represents-from : (h : Holder) (b : Book) → Represents h b → (cs : List Call) → Represents (holder_after h cs) (book_after b (map Entered cs))
unfolding holder_after book_after
represents-from h b k [] = k
represents-from h b k (c ∷ cs) = represents-from (answer_of h c).holder _ (call-agrees h b k c).1 cs

pub represents-after : (cs : List Call) → Represents (holder_after fresh_holder cs) (book_after fresh (map Entered cs))
represents-after cs = represents-from fresh_holder fresh represents-fresh cs

-- The reply of one more call
pub reply-after : (cs : List Call) (c : Call) → reply_after cs c ≡ (answer (book_after fresh (map Entered cs)) c).reply
unfolding reply_after
reply-after cs c = (call-agrees _ _ (represents-after cs) c).0

-- So at each place of each party the arrays keep the anchor and the edges of the outline last taken there (contract 8.3)
pub holder-last-taken : (p k : ℕ) → p < parties → k < places → (cs : List Call)
    → IsWork (work_in (holder_after fresh_holder cs) p k) (last_taken p k (map Entered cs))
holder-last-taken p k there inside cs =
    subst (IsWork (work_in (holder_after fresh_holder cs) p k)) (work-last-taken p k (map Entered cs))
    (((represents-after cs).pages p there).works k inside)
