-- Between any two calls the arrays represent the book after the calls and restores that it has seen; between two halves they represent it
-- as a reset would leave it. Every call keeps that and gets the book's reply, and the rest is induction over the session.
use Prim.Native.Nat.{ℕ, ◌<◌}
use mathlib.Core.Path.{◌≡◌, refl, sym, ap, ap₂, ◌∙◌}
use mathlib.Core.Bool.{Bool, true, false, cond, true≢false}
use mathlib.Core.List.{List, [], ◌∷◌, ◌++◌, append-nil}
use lib.Ieee.{Float}
use borrow.Author.Tests.{leb-false, leb-true}
use Rattle.chart.specs.Fields.{numbers_of}
use Rattle.calls.specs.Calls.{parties, bad_party, by}
use Rattle.calls.specs.Replies.{Reply, reply_fields, piece_in}
use Rattle.calls.specs.declared.Call.{Call}
use Rattle.calls.specs.declared.Action.{Action}
use Rattle.calls.specs.declared.Action.TheVariants.{Begin, Add, Drop, Clear, Close, Ask}
use Rattle.calls.specs.declared.Question.{Question}
use Rattle.drawing.specs.Points.{point_after}
use Rattle.holder_model.specs.Book.{Book, Entry, Entered, Restored, fresh, answer, book_after}
use Rattle.book_replies.specs.After.{reply_to}
use Rattle.book_replies.proofs.Taken.{reply-after}
use Rattle.book_replies.proofs.Parties.{book-append, book-next, drop-works}
use Rattle.wire.specs.Wire.{Decoded}
use Rattle.std.specs.Prelude.{Some, None}
use Rattle.wire.specs.Wire.{decoded}
use Rattle.holder_memory.specs.Layout.{Holder}
use Rattle.holder_answers.specs.Arrays.{Drafting}
use Rattle.holder_answers.specs.Arrays.{with_heads, commit_of, answer_of, draft_of}
use Rattle.holder_written.specs.Written.{Done, Prepared, draft_fields}
use Rattle.holder_answers.proofs.Cases.{draft-unknown}
use Rattle.holder_refinement.proofs.Turns.{commit-zero}
use Rattle.holder_refinement.proofs.ListTheorem.{Represents, call-agrees, represents-fresh}
use Rattle.holder_refinement.specs.Told.{told}
use Rattle.holder_refinement.proofs.Drafting.{draft-told}
use Rattle.holder_bytes.specs.Responded.{next_holder, reply_by, Responded}
use Rattle.holder_session.specs.Session.{Event, Fresh, Called, Drew, Sent, Drafted, Began, RestoreBegan, Ended, Cut}
use Rattle.holder_session.specs.Session.{piece_call}
use Rattle.holder_image_calls.specs.Written.{ImagePrepared}
use Rattle.holder_session.specs.Session.{Made, fresh as was-fresh, called, drew, sent, drafted, is_question, asks_only, asking}
use Rattle.holder_session.specs.Session.{Stage, Idle, Closing, allowed, Session, end, one, begin, bring, commit}
use Rattle.holder_session.specs.Session.{reset as was-reset}
use Rattle.holder_session.specs.Booked.{State, After, Between, seen, more, told_by, drafting, numbers_to, numbers_for, calls_in}
use Rattle.holder_session.specs.Booked.{clears, booked, ended, reset, next, booked_from, after_all}
use Rattle.holder_session.proofs.Halves.{asks-leave, prepare-reply, commit-represents, prepare-represents, asks-works}
use Rattle.holder_session.proofs.Halves.{asks-book, clears-word, image-reply, image-done, image-cleared, image-half}

-- ---- arrays that represent the book after some calls

module _ (h : Holder) (xs : List Entry) (r : Represents h (book_after fresh xs)) where
  reply-is : (c : Call) → (answer_of h c).reply ≡ reply_to xs c
  reply-is c = (call-agrees h _ r c).0 ∙ sym (reply-after xs c)

  more-is : (c : Call) → Represents (answer_of h c).holder (book_after fresh (xs ++ (Entered c ∷ [])))
  more-is c = rw (book-next fresh xs (Entered c)) (call-agrees h _ r c).1

  draft-is : (q : ℕ) → draft_of h q ≡ told_by (book_after fresh xs) q
  unfolding told_by
  draft-is q = go (bad_party q) refl
    where
      go : (t : Bool) → bad_party q ≡ t → draft_of h q ≡ told_by (book_after fresh xs) q
      go true e = rw e (sym (draft-unknown h q (leb-true parties q e)))
      go false e =
          let there : q < parties = leb-false parties q e in
          rw e (draft-told h q there _ (r.pages q there).draft)

-- The numbers of a reply, and a point, from the reply
numbers_of-same : (r r' : Reply) → r ≡ r' → numbers_of (reply_fields r) ≡ numbers_of (reply_fields r')
numbers_of-same r r' e = ap (λ (x : Reply). numbers_of (reply_fields x)) e

point-of : (r r' : Reply) (point : List Float) → r ≡ r' → point_after (piece_in r) point ≡ point_after (piece_in r') point
point-of r r' point e = ap (λ (x : Reply). point_after (piece_in x) point) e

-- ---- what holds between calls

-- Between the halves: as the arrays are, and what is at work there; and with the second half
pub record Half (h : Holder) (xs : List Entry) (p k w : ℕ) (done cut : List Entry) : Type 0 where
  pub here : Represents h (book_after fresh (xs ++ cut))
  pub works : (q : ℕ) → (book_after fresh (xs ++ cut) q).works ≡ (book_after fresh xs q).works
  pub after : Represents (with_heads h (commit_of h.heads p k w)) (book_after fresh (xs ++ done))

pub data Holds : Stage → Holder → State → Type 0 where
  idle : {h : Holder} {xs : List Entry} → Represents h (book_after fresh xs) → Holds Idle h (After xs)
  closing : {h : Holder} {xs : List Entry} {p k w : ℕ} {done cut : List Entry} → Half h xs p k w done cut
      → Holds (Closing p k w) h (Between xs p done cut)

-- An event is the book's, and what holds is kept
abbrev Kept : Stage → Holder → State → Event → Type 0
Kept s n t x = (x ≡ booked t x) × Holds s n (next t x)

-- ---- nothing is under way

module _ (h : Holder) (xs : List Entry) (r : Represents h (book_after fresh xs)) where
  by_call : (n : Holder) (c : Call) (reply : List ℕ) → Done h n c reply
      → (reply ≡ numbers_to xs c) × Holds Idle n (After (xs ++ (Entered c ∷ [])))
  by_call n c reply d =
      (d.replied ∙ numbers_of-same _ _ (reply-is h xs r c), idle {h = n} {xs = xs ++ (Entered c ∷ [])} (rw d.holder (more-is h xs r c)))

  by_bytes : (n : Holder) (d : Decoded) (reply reply' : List ℕ) (b : Bool) → Responded h n d reply reply' b
      → (reply' ≡ numbers_for xs d reply) × Holds Idle n (After (xs ++ calls_in d))
  unfolding next_holder reply_by numbers_for calls_in
  by_bytes n None reply reply' b m = (m.replied, rw (append-nil xs) (idle {h = n} {xs = xs} (rw m.holder r)))
  by_bytes n (Some c) reply reply' b m = by_call n c reply' (record { holder = m.holder; replied = m.replied })

  made-idle : (n : Holder) (x : Event) → Made h x n → Kept Idle n (After xs) x
  unfolding booked next more seen drafting book_after
  made-idle n Fresh (was-fresh e) = (refl, idle {h = n} {xs = []} (rw e represents-fresh))
  made-idle n (Called c reply) (called d) = let (same, kept) = by_call n c reply d in (ap (Called c) same, kept)
  made-idle n (Drew p k i point point' reply) (drew d e) =
      let (same, kept) = by_call n (piece_call p k i) reply d in (
        ap₂ (λ (a : List Float) (l : List ℕ). Drew p k i point a l) (e ∙ point-of _ _ point (reply-is h xs r (piece_call p k i))) same,
        kept,
      )
  made-idle n (Sent bytes reply reply' b) (sent m) =
      let (same, kept) = by_bytes n (decoded bytes) reply reply' b m in
      (ap₂ (λ (l : List ℕ) (t : Bool). Sent bytes reply l t) same m.done, kept)
  made-idle n (Drafted p reply) (drafted e) =
      (ap (Drafted p) (e ∙ ap (λ (d : Drafting). numbers_of (draft_fields d)) (draft-is h xs r p)), idle r)
  made-idle n (Began _ _ _) m = elim m [ ]
  made-idle n (RestoreBegan _ _ _ _) m = elim m [ ]
  made-idle n (Ended _ _) m = elim m [ ]
  made-idle n (Cut _ _) m = elim m [ ]

-- ---- between the halves of a close or a restore

module _ (h : Holder) (xs : List Entry) (p k w : ℕ) (done cut : List Entry) (half : Half h xs p k w done cut) where
  -- A question leaves what is to come
  asked : (q j : ℕ) (x : Question) (ys : List Entry)
      → book_after fresh ((xs ++ (Entered (by q (Ask j x)) ∷ [])) ++ ys) ≡ book_after fresh (xs ++ ys)
  asked q j x ys =
      book-append fresh (xs ++ (Entered (by q (Ask j x)) ∷ [])) ys
      ∙ ap (λ (b : Book). book_after b ys) (book-next fresh xs (Entered (by q (Ask j x))) ∙ asks-book (book_after fresh xs) q j x)
      ∙ sym (book-append fresh xs ys)

  later : (q j : ℕ) (x : Question) → Half h (xs ++ (Entered (by q (Ask j x)) ∷ [])) p k w done cut
  later q j x =
      record {
        here = rw (asked q j x cut) half.here;
        works = λ n.
            ap (λ (b : Book). (b n).works) (asked q j x cut) ∙ half.works n
            ∙ sym (ap (λ (b : Book). (b n).works) (book-next fresh xs (Entered (by q (Ask j x))) ∙ asks-book (book_after fresh xs) q j x));
        after = rw (asked q j x done) half.after;
      }

  -- A question has the answer that it would have had before, and leaves the arrays
  by-question : (n : Holder) (c : Call) → is_question c.action ≡ true → n ≡ (answer_of h c).holder
      → ((answer_of h c).reply ≡ reply_to xs c) × Holds (Closing p k w) n (Between (xs ++ (Entered c ∷ [])) p done cut)
  unfolding is_question
  by-question n c = go c.party c.action
    where
      go : (q : ℕ) (a : Action) → is_question a ≡ true → n ≡ (answer_of h (by q a)).holder
          → ((answer_of h (by q a)).reply ≡ reply_to xs (by q a))
          × Holds (Closing p k w) n (Between (xs ++ (Entered (by q a) ∷ [])) p done cut)
      go q (Ask j x) t e = (
        reply-is h (xs ++ cut) half.here (by q (Ask j x)) ∙ reply-after (xs ++ cut) (by q (Ask j x))
            ∙ asks-works (book_after fresh (xs ++ cut)) (book_after fresh xs) q j x (half.works q) ∙ sym (reply-after xs (by q (Ask j x))),
        rw (e, asks-leave h q j x) (closing (later q j x)),
      )
      go q (Begin s) t e = absurd (true≢false (sym t))
      go q (Add a) t e = absurd (true≢false (sym t))
      go q Drop t e = absurd (true≢false (sym t))
      go q (Clear j) t e = absurd (true≢false (sym t))
      go q (Close j) t e = absurd (true≢false (sym t))

  question-bytes : (n : Holder) (d : Decoded) → asks_only d ≡ true → (reply reply' : List ℕ) (b : Bool) → Responded h n d reply reply' b
      → (reply' ≡ numbers_for xs d reply) × Holds (Closing p k w) n (Between (xs ++ calls_in d) p done cut)
  unfolding asks_only next_holder reply_by numbers_for calls_in
  question-bytes n None t reply reply' b m = (m.replied, rw (append-nil xs, m.holder) (closing half))
  question-bytes n (Some c) t reply reply' b m =
      let (same, kept) = by-question n c t m.holder in
      (m.replied ∙ numbers_of-same _ _ same, kept)

  made-closing : (n : Holder) (x : Event) → asking x ≡ true → Made h x n → Kept (Closing p k w) n (Between xs p done cut) x
  unfolding asking is_question booked next more seen drafting
  made-closing n Fresh t m = absurd (true≢false (sym t))
  made-closing n (Called c reply) t (called d) =
      let (same, kept) = by-question n c t d.holder in
      (ap (Called c) (d.replied ∙ numbers_of-same _ _ same), kept)
  made-closing n (Drew q j i point point' reply) t (drew d e) =
      let (same, kept) = by-question n (piece_call q j i) refl d.holder in (
        ap₂ (λ (a : List Float) (l : List ℕ). Drew q j i point a l) (e ∙ point-of _ _ point same) (d.replied ∙ numbers_of-same _ _ same),
        kept,
      )
  made-closing n (Sent bytes reply reply' b) t (sent m) =
      let (same, kept) = question-bytes n (decoded bytes) t reply reply' b m in
      (ap₂ (λ (l : List ℕ) (u : Bool). Sent bytes reply l u) same m.done, kept)
  made-closing n (Drafted q reply) t (drafted e) =
      (ap (Drafted q) (e ∙ ap (λ (d : Drafting). numbers_of (draft_fields d)) (draft-is h (xs ++ cut) half.here q)), closing half)
  made-closing n (Began _ _ _) t m = elim m [ ]
  made-closing n (RestoreBegan _ _ _ _) t m = elim m [ ]
  made-closing n (Ended _ _) t m = elim m [ ]
  made-closing n (Cut _ _) t m = elim m [ ]

-- ---- a session

step : (s : Stage) (h n : Holder) (t : State) → Holds s h t → (x : Event) → allowed s x ≡ true → Made h x n → Kept s n t x
unfolding allowed
step s h n t (idle {h = _} {xs = xs} r) x a m = made-idle h xs r n x m
step s h n t (closing {h = _} {xs = xs} {p = p} {k = k} {w = w} {done = done} {cut = cut} half) x a m =
    made-closing h xs p k w done cut half n x a m

begins : (h m : Holder) (t : State) → Holds Idle h t → (p k w : ℕ) (reply : List ℕ) → Prepared h m p k w reply
    → Kept (Closing p k w) m t (Began p k reply)
unfolding booked next seen
begins h m t (idle {h = _} {xs = xs} r) p k w reply q = (
  ap (Began p k) (q.replied ∙ numbers_of-same _ _ (prepare-reply h p k ∙ reply-is h xs r (by p (Close k)))),
  closing {h = m} {xs = xs} {p = p} {k = k} {w = w} {done = Entered (by p (Close k)) ∷ []} {cut = Entered (by p Drop) ∷ []} (record {
    here = rw (q.holder, book-next fresh xs (Entered (by p Drop))) (prepare-represents h p k _ r);
    works = λ n. ap (λ (b : Book). (b n).works) (book-next fresh xs (Entered (by p Drop))) ∙ drop-works (book_after fresh xs) p n;
    after = rw (q.holder, q.word, book-next fresh xs (Entered (by p (Close k)))) (commit-represents h p k _ r);
  }),
)

brings : (h m : Holder) (t : State) → Holds Idle h t → (p k w : ℕ) (bytes reply : List ℕ) → ImagePrepared h m p k bytes w reply
    → Kept (Closing p k w) m t (RestoreBegan p k bytes reply)
unfolding booked next seen
brings h m t (idle {h = _} {xs = xs} r) p k w bytes reply q =
    (ap (RestoreBegan p k bytes) (q.replied ∙ numbers_of-same _ _ (image-reply h p k bytes _ r)), go (clears bytes) refl)
  where
    -- The image of an empty place: all is done
    at_once : clears bytes ≡ true → Half m (xs ++ (Restored p k bytes ∷ [])) p k w [] []
    at_once e =
        let now : Represents m (book_after fresh ((xs ++ (Restored p k bytes ∷ [])) ++ [])) =
        rw (append-nil (xs ++ (Restored p k bytes ∷ [])), book-next fresh xs (Restored p k bytes), q.holder)
        (image-cleared h p k bytes _ r e) in
        record {
          here = now;
          works = λ n. rw (append-nil (xs ++ (Restored p k bytes ∷ [])));
          after = rw (q.word ∙ clears-word h p k bytes e, commit-zero m.heads p k) now;
        }

    -- Otherwise nothing is, before the second half
    in_two : clears bytes ≡ false → Half m xs p k w (Restored p k bytes ∷ []) []
    in_two e =
        record {
          here = rw (append-nil xs, q.holder) (image-half h p k bytes _ r e);
          works = λ n. rw (append-nil xs);
          after = rw (q.holder, q.word, book-next fresh xs (Restored p k bytes)) (image-done h p k bytes _ r);
        }

    go : (u : Bool) → clears bytes ≡ u
        → Holds (Closing p k w) m (cond u (Between (xs ++ (Restored p k bytes ∷ [])) p [] []) (Between xs p (Restored p k bytes ∷ []) []))
    go true e = closing (at_once e)
    go false e = closing (in_two e)

commits : (h : Holder) (t : State) (p k w : ℕ) → Holds (Closing p k w) h t → (heads : List ℕ) → heads ≡ commit_of h.heads p k w
    → Kept Idle (with_heads h heads) t (Ended p k)
unfolding booked next ended
commits h t p k w (closing {h = _} {xs = xs} {p = _} {k = _} {w = _} {done = done} {cut = cut} half) heads q = (
  refl,
  idle {h = with_heads h heads} {xs = xs ++ done} (rw q half.after),
)

resets : (h : Holder) (t : State) (p k w : ℕ) → Holds (Closing p k w) h t → Kept Idle h t (Cut p k)
unfolding booked next reset
resets h t p k w (closing {h = _} {xs = xs} {p = _} {k = _} {w = _} {done = done} {cut = cut} half) =
    (refl, idle {h = h} {xs = xs ++ cut} half.here)

session-agrees : (s : Stage) (h n : Holder) (t : State) → Holds s h t → (es : List Event) → Session s h es n
    → (es ≡ booked_from t es) × ((u : Stage) × Holds u n (after_all t es))
unfolding booked_from after_all
session-agrees s h n t holds [] end = (refl, (s, holds))
session-agrees s h n t holds (x ∷ es) (one {s = _} {h = _} {m = m} a made rest) =
    let (same, kept) = step s h m t holds x a made in
    let (later, left) = session-agrees s m n (next t x) kept es rest in
    (ap₂ ◌∷◌ same later, left)
session-agrees s h n t holds (x ∷ es) (begin {h = _} {m = m} {n = _} {p = p} {k = k} {w = w} {reply = reply} q rest) =
    let (same, kept) = begins h m t holds p k w reply q in
    let (later, left) = session-agrees (Closing p k w) m n (next t x) kept es rest in
    (ap₂ ◌∷◌ same later, left)
session-agrees s h n t holds (x ∷ es) (bring {h = _} {m = m} {n = _} {p = p} {k = k} {w = w} {bytes = bytes} {reply = reply} q rest) =
    let (same, kept) = brings h m t holds p k w bytes reply q in
    let (later, left) = session-agrees (Closing p k w) m n (next t x) kept es rest in
    (ap₂ ◌∷◌ same later, left)
session-agrees s h n t holds (x ∷ es) (commit {h = _} {n = _} {p = p} {k = k} {w = w} {heads = heads} q rest) =
    let (same, kept) = commits h t p k w holds heads q in
    let (later, left) = session-agrees Idle (with_heads h heads) n (next t x) kept es rest in
    (ap₂ ◌∷◌ same later, left)
session-agrees s h n t holds (x ∷ es) (was-reset {h = _} {n = _} {p = p} {k = k} {w = w} rest) =
    let (same, kept) = resets h t p k w holds in
    let (later, left) = session-agrees Idle h n (next t x) kept es rest in
    (ap₂ ◌∷◌ same later, left)

-- ---- the theorem

-- Memory of any content that is made fresh first
from-fresh : (h n : Holder) (es : List Event) → Session Idle h (Fresh ∷ es) n
    → (es ≡ booked_from (After []) es) × ((u : Stage) × Holds u n (after_all (After []) es))
unfolding book_after
from-fresh h n es (one {s = _} {h = _} {m = m} a (was-fresh e) rest) =
    session-agrees Idle m n (After []) (idle {h = m} {xs = []} (rw e represents-fresh)) es rest

-- Every reply and every point is the plain book's, whatever is called, in any mixture: by arguments and as bytes, with closes in their two
-- halves, restores in theirs, questions between the halves, and second halves that never come (contract 8.2, 10.4 and 13.7)
pub session-theorem : (h n : Holder) (es : List Event) → Session Idle h (Fresh ∷ es) n → es ≡ booked_from (After []) es
session-theorem h n es session = (from-fresh h n es session).0

pub session-left : (h n : Holder) (es : List Event) → Session Idle h (Fresh ∷ es) n → (u : Stage) × Holds u n (after_all (After []) es)
session-left h n es session = (from-fresh h n es session).1
