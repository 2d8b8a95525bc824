-- A party's state comes from its own calls and restores alone, and so do the replies to it. A close ends the draft as a drop does, and a
-- drop leaves what is at work.
use Prim.Native.Nat.{ℕ}
use mathlib.Core.Path.{◌≡◌, refl, sym, ap, ◌∙◌}
use mathlib.Core.Bool.{Bool, true, false, cond}
use mathlib.Core.Option.{Option, none, some}
use mathlib.Core.List.{List, [], ◌∷◌, ◌++◌, append-nil}
use lib.Dec.{eqb}
use borrow.Author.Tests.{eqb-true, eq-eqb}
use Rattle.base.specs.Put.{put}
use Rattle.chart.specs.Outline.{Outline}
use Rattle.calls.specs.Calls.{bad_party, bad_place, by}
use Rattle.calls.specs.declared.Action.{Action}
use Rattle.calls.specs.declared.Action.TheVariants.{Drop, Close}
use Rattle.holder_model.specs.Book.{Book, PartyModel, OnParty, Entry, Entered, Restored, party_of, fresh, drops, acts, puts_back}
use Rattle.holder_model.specs.Book.{answer_by, answer, restored, entered, book_after}
use Rattle.holder_model.specs.Parties.{entries_of}
use Rattle.book_replies.specs.After.{reply_to}
use Rattle.book_replies.proofs.Taken.{reply-after}

-- ---- one more

pub book-append : (b : Book) (xs ys : List Entry) → book_after b (xs ++ ys) ≡ book_after (book_after b xs) ys
unfolding book_after
book-append b [] ys = refl
book-append b (x ∷ xs) ys = book-append (entered b x).next xs ys

pub book-next : (b : Book) (xs : List Entry) (x : Entry) → book_after b (xs ++ (x ∷ [])) ≡ (entered (book_after b xs) x).next
unfolding book_after
book-next b xs x = book-append b xs (x ∷ [])

-- ---- one party

module _ (p : ℕ) where
  -- The reply to party p, and its state afterwards, from its state before
  reply-by : (b d : Book) (f : PartyModel → OnParty) → b p ≡ d p → (answer_by b p f).reply ≡ (answer_by d p f).reply
  reply-by b d f e = go (bad_party p) refl
    where
      go : (t : Bool) → bad_party p ≡ t → (answer_by b p f).reply ≡ (answer_by d p f).reply
      go true h = rw h
      go false h = rw h (ap (λ (g : PartyModel). (f g).reply) e)

  next-by : (b d : Book) (f : PartyModel → OnParty) → b p ≡ d p → (answer_by b p f).next p ≡ (answer_by d p f).next p
  unfolding put
  next-by b d f e = go (bad_party p) refl
    where
      go : (t : Bool) → bad_party p ≡ t → (answer_by b p f).next p ≡ (answer_by d p f).next p
      go true h = rw h e
      go false h = rw (h, eq-eqb p p refl) (ap (λ (g : PartyModel). (f g).page) e)

  -- What another party does leaves it
  other-by : (b : Book) (q : ℕ) (f : PartyModel → OnParty) → eqb p q ≡ false → (answer_by b q f).next p ≡ b p
  unfolding put
  other-by b q f e = go (bad_party q) refl
    where
      go : (t : Bool) → bad_party q ≡ t → (answer_by b q f).next p ≡ b p
      go true h = rw h
      go false h = rw (h, e)

  next-from : (b d : Book) (x : Entry) → eqb p (party_of x) ≡ true → b p ≡ d p → (entered b x).next p ≡ (entered d x).next p
  unfolding answer restored
  next-from b d (Entered c) q e = rw (sym (eqb-true p c.party q)) (next-by b d (λ g. acts g c.action) e)
  next-from b d (Restored r k bytes) q e = rw (sym (eqb-true p r q)) (next-by b d (puts_back k bytes) e)

  pub next-other : (b : Book) (x : Entry) → eqb p (party_of x) ≡ false → (entered b x).next p ≡ b p
  unfolding answer restored
  next-other b (Entered c) e = other-by b c.party (λ g. acts g c.action) e
  next-other b (Restored q k bytes) e = other-by b q (puts_back k bytes) e

  own-from : (b d : Book) → b p ≡ d p → (xs : List Entry) → book_after b xs p ≡ book_after d (entries_of p xs) p
  unfolding book_after entries_of
  own-from b d e [] = e
  own-from b d e (x ∷ xs) = go (eqb p (party_of x)) refl (λ f same. own-from (entered b x).next f same xs)
    where
      go : (t : Bool) → eqb p (party_of x) ≡ t
          → ((f : Book) → (entered b x).next p ≡ f p → book_after (entered b x).next xs p ≡ book_after f (entries_of p xs) p)
          → book_after b (x ∷ xs) p ≡ book_after d (entries_of p (x ∷ xs)) p
      go true q rest = rw q (rest (entered d x).next (next-from b d x q e))
      go false q rest = rw q (rest d (next-other b x q ∙ e))

  -- Its state after a list of calls and restores is that after its own
  pub own-page : (xs : List Entry) → book_after fresh xs p ≡ book_after fresh (entries_of p xs) p
  own-page xs = own-from fresh fresh refl xs

  pub own-reply : (xs : List Entry) (a : Action) → reply_to xs (by p a) ≡ reply_to (entries_of p xs) (by p a)
  unfolding answer
  own-reply xs a =
      reply-after xs (by p a) ∙ reply-by (book_after fresh xs) (book_after fresh (entries_of p xs)) (λ g. acts g a) (own-page xs)
      ∙ sym (reply-after (entries_of p xs) (by p a))

  pub own-restored : (xs : List Entry) (k : ℕ) (bytes : List ℕ)
      → (restored (book_after fresh xs) p k bytes).reply ≡ (restored (book_after fresh (entries_of p xs)) p k bytes).reply
  unfolding restored
  own-restored xs k bytes = reply-by (book_after fresh xs) (book_after fresh (entries_of p xs)) (puts_back k bytes) (own-page xs)

  -- ---- the calls and restores of a party, and more

  pub own-append : (xs ys : List Entry) → entries_of p (xs ++ ys) ≡ entries_of p xs ++ entries_of p ys
  unfolding entries_of
  own-append [] ys = refl
  own-append (x ∷ xs) ys = go (eqb p (party_of x)) (own-append xs ys)
    where
      go : (t : Bool) → entries_of p (xs ++ ys) ≡ entries_of p xs ++ entries_of p ys
          → cond t (x ∷ entries_of p (xs ++ ys)) (entries_of p (xs ++ ys)) ≡ cond t (x ∷ entries_of p xs) (entries_of p xs) ++ entries_of p ys
      go true rest = ap (λ (l : List Entry). x ∷ l) rest
      go false rest = rest

  pub own-more : (xs : List Entry) (x : Entry) → eqb p (party_of x) ≡ true → entries_of p (xs ++ (x ∷ [])) ≡ entries_of p xs ++ (x ∷ [])
  unfolding entries_of
  own-more xs x e = own-append xs (x ∷ []) ∙ rw e

  pub own-others : (xs : List Entry) (x : Entry) → eqb p (party_of x) ≡ false → entries_of p (xs ++ (x ∷ [])) ≡ entries_of p xs
  unfolding entries_of
  own-others xs x e = own-append xs (x ∷ []) ∙ rw e (append-nil (entries_of p xs))

-- ---- a drop, and a close

drops-none : (d : Option Outline) → (drops d).draft ≡ none
unfolding drops
drops-none none = refl
drops-none (some o) = refl

ends-draft : (t : Bool) (x y : OnParty) → x.page.draft ≡ none → y.page.draft ≡ none → (cond t x y).page.draft ≡ none
ends-draft true x y e f = e
ends-draft false x y e f = f

acts-ends : (g : PartyModel) (k : ℕ) → (acts g (Close k)).page.draft ≡ (acts g Drop).page.draft
unfolding acts
acts-ends g k = ends-draft (bad_place k) _ _ refl refl ∙ sym (drops-none g.draft)

module _ (b : Book) (p q : ℕ) where
  -- Both end the draft, and leave every other
  pub close-ends : (k : ℕ) → ((answer b (by p (Close k))).next q).draft ≡ ((answer b (by p Drop)).next q).draft
  unfolding answer put
  close-ends k = go (bad_party p) (eqb q p) refl refl
    where
      go : (t u : Bool) → bad_party p ≡ t → eqb q p ≡ u → ((answer b (by p (Close k))).next q).draft ≡ ((answer b (by p Drop)).next q).draft
      go true u e f = rw e
      go false true e f = rw (e, f) (acts-ends (b p) k)
      go false false e f = rw (e, f)

  -- A drop leaves what is at work
  pub drop-works : ((answer b (by p Drop)).next q).works ≡ (b q).works
  unfolding answer put acts
  drop-works = go (bad_party p) (eqb q p) refl refl
    where
      go : (t u : Bool) → bad_party p ≡ t → eqb q p ≡ u → ((answer b (by p Drop)).next q).works ≡ (b q).works
      go true u e f = rw e
      go false true e f = rw (e, f) (ap (λ (n : ℕ). (b n).works) (sym (eqb-true q p f)))
      go false false e f = rw (e, f)
