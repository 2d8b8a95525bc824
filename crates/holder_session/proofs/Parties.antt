-- A party's events get what its own events alone would get in the plain book, because the book answers a party from its own calls and
-- restores. So they depend on nothing else, points included.
use Prim.Native.Nat.{ℕ}
use mathlib.Core.Path.{◌≡◌, refl, sym, ap, ap₂, ◌∙◌}
use mathlib.Core.Bool.{Bool, true, false, cond, true≢false}
use mathlib.Core.List.{List, [], ◌∷◌, ◌++◌, append-nil, map}
use lib.Dec.{eqb}
use lib.Ieee.{Float}
use borrow.Author.Tests.{eqb-true}
use Rattle.chart.specs.Fields.{numbers_of}
use Rattle.calls.specs.Calls.{by}
use Rattle.calls.specs.Replies.{Reply, reply_fields, piece_in}
use Rattle.calls.specs.declared.Call.{Call}
use Rattle.calls.specs.declared.Action.TheVariants.{Drop, Close}
use Rattle.drawing.specs.Points.{point_after}
use Rattle.holder_model.specs.Book.{Entry, Entered, Restored, party_of, fresh, book_after}
use Rattle.holder_model.specs.Parties.{entries_of}
use Rattle.book_replies.specs.After.{reply_to}
use Rattle.book_replies.proofs.Parties.{own-page, own-reply, own-restored, own-append, own-more, own-others}
use Rattle.wire.specs.Wire.{Decoded}
use Rattle.std.specs.Prelude.{Some, None}
use Rattle.wire.specs.Wire.{decoded}
use Rattle.holder_memory.specs.Layout.{Holder}
use Rattle.holder_answers.specs.Arrays.{Drafting}
use Rattle.holder_answers.specs.Arrays.{with_heads}
use Rattle.holder_written.specs.Written.{draft_fields}
use Rattle.holder_bytes.specs.Responded.{is_call}
use Rattle.holder_refinement.specs.Told.{told}
use Rattle.holder_session.specs.Session.{Event, Fresh, Called, Drew, Sent, Drafted, Began, RestoreBegan, Ended, Cut}
use Rattle.holder_session.specs.Session.{Made, fresh as was-fresh, called, drew, sent, drafted, asking, Stage, Idle, Closing, allowed}
use Rattle.holder_session.specs.Session.{piece_call, Session, end, one, begin, bring, commit, reset as was-reset}
use Rattle.holder_session.specs.Booked.{State, After, Between, seen, more, told_by, drafting, numbers_to, numbers_for, calls_in}
use Rattle.holder_session.specs.Booked.{restored_to, clears, booked, ended, reset, next, booked_from}
use Rattle.holder_session.specs.Own.{is_of, is_own, own_of, request}
use Rattle.holder_session.proofs.Theorem.{session-theorem}

-- ---- what is given back plays no part

request-booked : (s : State) (x : Event) → booked s (request x) ≡ booked s x
unfolding booked request
request-booked s Fresh = refl
request-booked s (Called c reply) = refl
request-booked s (Drew p k i point point' reply) = refl
request-booked s (Sent bytes reply reply' r) = refl
request-booked s (Drafted p reply) = refl
request-booked s (Began p k reply) = refl
request-booked s (RestoreBegan p k bytes reply) = refl
request-booked s (Ended p k) = refl
request-booked s (Cut p k) = refl

request-next : (s : State) (x : Event) → next s (request x) ≡ next s x
unfolding next request
request-next s Fresh = refl
request-next s (Called c reply) = refl
request-next s (Drew p k i point point' reply) = refl
request-next s (Sent bytes reply reply' r) = refl
request-next s (Drafted p reply) = refl
request-next s (Began p k reply) = refl
request-next s (RestoreBegan p k bytes reply) = refl
request-next s (Ended p k) = refl
request-next s (Cut p k) = refl

requests-booked : (s : State) (es : List Event) → booked_from s (map request es) ≡ booked_from s es
unfolding booked_from
requests-booked s [] = refl
requests-booked s (x ∷ es) =
    ap₂ ◌∷◌ (request-booked s x) (ap (λ (t : State). booked_from t (map request es)) (request-next s x) ∙ requests-booked (next s x) es)

-- ---- the book's state with one party's calls and restores only

module _ (p : ℕ) where
  unfoldable own : State → State
  own (After xs) = After (entries_of p xs)
  own (Between xs q done cut) = cond (eqb p q) (Between (entries_of p xs) q done cut) (After (entries_of p xs))

  -- All of a list are party q's
  abbrev Of : ℕ → List Entry → Type 0
  Of q ys = (eqb p q ≡ true → entries_of p ys ≡ ys) × (eqb p q ≡ false → entries_of p ys ≡ [])

  of_one : (x : Entry) → Of (party_of x) (x ∷ [])
  unfolding entries_of
  of_one x = (λ e. rw e, λ e. rw e)

  of_none : (q : ℕ) → Of q []
  unfolding entries_of
  of_none q = (λ e. refl, λ e. refl)

  -- So it is with what is to come between the halves
  abbrev Tame : State → Type 0
  Tame (After xs) = Unit {0}
  Tame (Between xs q done cut) = Of q done × Of q cut

  own-seen : (t : State) → seen (own t) ≡ entries_of p (seen t)
  unfolding own seen
  own-seen (After xs) = refl
  own-seen (Between xs q done cut) = go (eqb p q)
    where
      go : (u : Bool) → seen (cond u (Between (entries_of p xs) q done cut) (After (entries_of p xs))) ≡ entries_of p xs
      go true = refl
      go false = refl

  -- A call of the party, and one of another party
  more-own : (t : State) (c : Call) → eqb p c.party ≡ true → own (more t (Entered c ∷ [])) ≡ more (own t) (Entered c ∷ [])
  unfolding own more
  more-own (After xs) c e = ap After (own-more p xs (Entered c) e)
  more-own (Between xs q done cut) c e = go (eqb p q)
    where
      go : (u : Bool) → cond u (Between (entries_of p (xs ++ (Entered c ∷ []))) q done cut) (After (entries_of p (xs ++ (Entered c ∷ []))))
          ≡ more (cond u (Between (entries_of p xs) q done cut) (After (entries_of p xs))) (Entered c ∷ [])
      go true = ap (λ (l : List Entry). Between l q done cut) (own-more p xs (Entered c) e)
      go false = ap After (own-more p xs (Entered c) e)

  more-others : (t : State) (c : Call) → eqb p c.party ≡ false → own (more t (Entered c ∷ [])) ≡ own t
  unfolding own more
  more-others (After xs) c e = ap After (own-others p xs (Entered c) e)
  more-others (Between xs q done cut) c e =
      ap (λ (l : List Entry). cond (eqb p q) (Between l q done cut) (After l)) (own-others p xs (Entered c) e)

  more-none : (t : State) → own (more t []) ≡ own t
  unfolding more
  more-none (After xs) = rw (append-nil xs)
  more-none (Between xs q done cut) = rw (append-nil xs)

  -- The reply to a call of the party, and what it drafts
  reply-own : (t : State) (c : Call) → eqb p c.party ≡ true → reply_to (seen t) c ≡ reply_to (seen (own t)) c
  reply-own t c e =
      rw (own-seen t) (rw (eqb-true p c.party e) (own-reply c.party (seen t) c.action))

  told-own : (xs : List Entry) → told_by (book_after fresh xs) p ≡ told_by (book_after fresh (entries_of p xs)) p
  unfolding told_by
  told-own xs = rw (own-page p xs)

  drafting-own : (t : State) → Tame t → drafting t p ≡ drafting (own t) p
  unfolding drafting own
  drafting-own (After xs) tame = told-own xs
  drafting-own (Between xs q done cut) tame = go (eqb p q) refl
    where
      go : (u : Bool) → eqb p q ≡ u
          → drafting (Between xs q done cut) p ≡ drafting (cond u (Between (entries_of p xs) q done cut) (After (entries_of p xs))) p
      go true e = told-own (xs ++ cut) ∙ rw (own-append p xs cut, tame.1.0 e)
      go false e = told-own (xs ++ cut) ∙ rw (own-append p xs cut, tame.1.1 e, append-nil (entries_of p xs))

  -- ---- one event

  still-own : (t : State) (x : Event) → is_own p (booked t x) ≡ is_own p x
  unfolding is_own booked
  still-own t Fresh = refl
  still-own t (Called c reply) = refl
  still-own t (Drew q k i point point' reply) = refl
  still-own t (Sent bytes reply reply' r) = refl
  still-own t (Drafted q reply) = refl
  still-own t (Began q k reply) = refl
  still-own t (RestoreBegan q k bytes reply) = refl
  still-own t (Ended q k) = refl
  still-own t (Cut q k) = refl

  numbers-own : (t : State) (c : Call) → eqb p c.party ≡ true → numbers_to (seen t) c ≡ numbers_to (seen (own t)) c
  numbers-own t c e = ap (λ (r : Reply). numbers_of (reply_fields r)) (reply-own t c e)

  sent-own : (t : State) (d : Decoded) (reply : List ℕ) → is_of p d ≡ true → numbers_for (seen t) d reply ≡ numbers_for (seen (own t)) d reply
  unfolding is_of numbers_for
  sent-own t None reply e = refl
  sent-own t (Some c) reply e = numbers-own t c e

  restored-own : (t : State) (q k : ℕ) (bytes : List ℕ) → eqb p q ≡ true
      → restored_to (seen t) q k bytes ≡ restored_to (seen (own t)) q k bytes
  restored-own t q k bytes e =
      rw (own-seen t) (rw (sym (eqb-true p q e)) (ap (λ (r : Reply). numbers_of (reply_fields r)) (own-restored p (seen t) k bytes)))

  booked-own : (t : State) → Tame t → (x : Event) → is_own p x ≡ true → booked t x ≡ booked (own t) x
  unfolding is_own booked
  booked-own t tame Fresh e = refl
  booked-own t tame (Called c reply) e = ap (Called c) (numbers-own t c e)
  booked-own t tame (Drew q k i point point' reply) e =
      ap₂ (λ (a : List Float) (l : List ℕ). Drew q k i point a l)
      (ap (λ (r : Reply). point_after (piece_in r) point) (reply-own t (piece_call q k i) e)) (numbers-own t (piece_call q k i) e)
  booked-own t tame (Sent bytes reply reply' r) e =
      ap (λ (l : List ℕ). Sent bytes reply l (is_call (decoded bytes))) (sent-own t (decoded bytes) reply e)
  booked-own t tame (Drafted q reply) e =
      ap (λ (d : Drafting). Drafted q (numbers_of (draft_fields d))) (rw (sym (eqb-true p q e)) (drafting-own t tame))
  booked-own t tame (Began q k reply) e = ap (Began q k) (numbers-own t (by q (Close k)) e)
  booked-own t tame (RestoreBegan q k bytes reply) e = ap (RestoreBegan q k bytes) (restored-own t q k bytes e)
  booked-own t tame (Ended q k) e = refl
  booked-own t tame (Cut q k) e = refl

  -- ---- the state after it

  -- The book waits for the second half of the close or restore that is under way
  data Shape : Stage → State → Type 0 where
    idle : {xs : List Entry} → Shape Idle (After xs)
    closing : {xs : List Entry} {q k w : ℕ} {done cut : List Entry} → Of q done → Of q cut → Shape (Closing q k w) (Between xs q done cut)

  tame : (s : Stage) (t : State) → Shape s t → Tame t
  tame s t idle = tt
  tame s t (closing a b) = (a, b)

  -- An event with a call, or with bytes that may be one
  sent-next : (t : State) (d : Decoded)
      → (is_of p d ≡ true → own (more t (calls_in d)) ≡ more (own t) (calls_in d)) × (is_of p d ≡ false → own (more t (calls_in d)) ≡ own t)
  unfolding is_of calls_in
  sent-next t None = (λ e. absurd (true≢false (sym e)), λ e. more-none t)
  sent-next t (Some c) = (more-own t c, more-others t c)

  -- An event of the party turns its state, and another leaves it
  abbrev Turns : State → Event → Type 0
  Turns t x = (is_own p x ≡ true → own (next t x) ≡ next (own t) x) × (is_own p x ≡ false → own (next t x) ≡ own t)

  made-turns : (h n : Holder) (t : State) (x : Event) → Made h x n → Turns t x
  unfolding is_own next own entries_of
  made-turns h n t Fresh (was-fresh e) = (λ f. refl, λ f. absurd (true≢false f))
  made-turns h n t (Called c reply) (called d) = (more-own t c, more-others t c)
  made-turns h n t (Drew q k i point point' reply) (drew d e) = (more-own t (piece_call q k i), more-others t (piece_call q k i))
  made-turns h n t (Sent bytes reply reply' r) (sent m) = sent-next t (decoded bytes)
  made-turns h n t (Drafted q reply) (drafted e) = (λ f. refl, λ f. refl)
  made-turns h n t (Began _ _ _) m = elim m [ ]
  made-turns h n t (RestoreBegan _ _ _ _) m = elim m [ ]
  made-turns h n t (Ended _ _) m = elim m [ ]
  made-turns h n t (Cut _ _) m = elim m [ ]

  begins-turns : (xs : List Entry) (q k : ℕ) (reply : List ℕ) → Turns (After xs) (Began q k reply)
  unfolding is_own next own seen
  begins-turns xs q k reply = (λ e. rw e, λ e. rw e)

  brings-turns : (xs : List Entry) (q k : ℕ) (bytes reply : List ℕ) → Turns (After xs) (RestoreBegan q k bytes reply)
  unfolding is_own next own seen
  brings-turns xs q k bytes reply = (λ e. go e (clears bytes), λ e. other e (clears bytes))
    where
      go : eqb p q ≡ true → (u : Bool)
          → own (cond u (Between (xs ++ (Restored q k bytes ∷ [])) q [] []) (Between xs q (Restored q k bytes ∷ []) []))
          ≡ cond u (Between (entries_of p xs ++ (Restored q k bytes ∷ [])) q [] []) (Between (entries_of p xs) q (Restored q k bytes ∷ []) [])
      go e true = rw e (ap (λ (l : List Entry). Between l q [] []) (own-more p xs (Restored q k bytes) e))
      go e false = rw e

      other : eqb p q ≡ false → (u : Bool)
          → own (cond u (Between (xs ++ (Restored q k bytes ∷ [])) q [] []) (Between xs q (Restored q k bytes ∷ []) []))
          ≡ After (entries_of p xs)
      other e true = rw e (ap After (own-others p xs (Restored q k bytes) e))
      other e false = rw e

  -- The second half, or a reset: ys come after
  with-turns : (xs ys : List Entry) (q : ℕ) → Of q ys
      → (eqb p q ≡ true → After (entries_of p (xs ++ ys)) ≡ After (entries_of p xs ++ ys))
      × (eqb p q ≡ false → After (entries_of p (xs ++ ys)) ≡ After (entries_of p xs))
  with-turns xs ys q mine = (
    λ e. ap After (own-append p xs ys ∙ rw (mine.0 e)),
    λ e. ap After (own-append p xs ys ∙ rw (mine.1 e) (append-nil (entries_of p xs))),
  )

  ends-turns : (xs done cut : List Entry) (q k : ℕ) → Of q done → Turns (Between xs q done cut) (Ended q k)
  unfolding is_own next own ended
  ends-turns xs done cut q k mine =
      let both = with-turns xs done q mine in
      (λ e. rw e (both.0 e), λ e. rw e (both.1 e))

  cut-turns : (xs done cut : List Entry) (q k : ℕ) → Of q cut → Turns (Between xs q done cut) (Cut q k)
  unfolding is_own next own reset
  cut-turns xs done cut q k mine =
      let both = with-turns xs cut q mine in
      (λ e. rw e (both.0 e), λ e. rw e (both.1 e))

  -- ---- a session

  -- One more event in front
  in-front : (t : State) → Tame t → (x : Event) (es : List Event) → Turns t x
      → own_of p (booked_from (next t x) es) ≡ booked_from (own (next t x)) (own_of p es)
      → own_of p (booked_from t (x ∷ es)) ≡ booked_from (own t) (own_of p (x ∷ es))
  unfolding own_of booked_from
  in-front t tame x es turns rest = rw (still-own t x) (go (is_own p x) refl)
    where
      go : (u : Bool) → is_own p x ≡ u
          → cond u (booked t x ∷ own_of p (booked_from (next t x) es)) (own_of p (booked_from (next t x) es))
          ≡ booked_from (own t) (cond u (x ∷ own_of p es) (own_of p es))
      go true e = ap₂ ◌∷◌ (booked-own t tame x e) (rest ∙ ap (λ (s : State). booked_from s (own_of p es)) (turns.0 e))
      go false e = rest ∙ ap (λ (s : State). booked_from s (own_of p es)) (turns.1 e)

  shape-kept : (h n : Holder) (s : Stage) (t : State) → Shape s t → (x : Event) → allowed s x ≡ true → Made h x n → Shape s (next t x)
  unfolding allowed asking next more
  shape-kept h n s t idle Fresh a m = idle
  shape-kept h n s t idle (Called c reply) a m = idle
  shape-kept h n s t idle (Drew q k i point point' reply) a m = idle
  shape-kept h n s t idle (Sent bytes reply reply' r) a m = idle
  shape-kept h n s t idle (Drafted q reply) a m = idle
  shape-kept h n s t (closing d c) (Called x reply) a m = closing d c
  shape-kept h n s t (closing d c) (Drew q k i point point' reply) a m = closing d c
  shape-kept h n s t (closing d c) (Sent bytes reply reply' r) a m = closing d c
  shape-kept h n s t (closing d c) (Drafted q reply) a m = closing d c
  shape-kept h n s t (closing d c) Fresh a m = absurd (true≢false (sym a))
  shape-kept h n s t idle (Began _ _ _) a m = elim m [ ]
  shape-kept h n s t idle (RestoreBegan _ _ _ _) a m = elim m [ ]
  shape-kept h n s t idle (Ended _ _) a m = elim m [ ]
  shape-kept h n s t idle (Cut _ _) a m = elim m [ ]
  shape-kept h n s t (closing d c) (Began _ _ _) a m = elim m [ ]
  shape-kept h n s t (closing d c) (RestoreBegan _ _ _ _) a m = elim m [ ]
  shape-kept h n s t (closing d c) (Ended _ _) a m = elim m [ ]
  shape-kept h n s t (closing d c) (Cut _ _) a m = elim m [ ]

  waits : (xs : List Entry) (q k w : ℕ) (bytes : List ℕ) (u : Bool)
      → Shape (Closing q k w)
      (cond u (Between (xs ++ (Restored q k bytes ∷ [])) q [] []) (Between xs q (Restored q k bytes ∷ []) []))
  waits xs q k w bytes true = closing (of_none q) (of_none q)
  waits xs q k w bytes false = closing (of_one (Restored q k bytes)) (of_none q)

  own-booked : (s : Stage) (h n : Holder) (t : State) → Shape s t → (es : List Event) → Session s h es n
      → own_of p (booked_from t es) ≡ booked_from (own t) (own_of p es)
  unfolding own_of booked_from next seen ended reset
  own-booked s h n t shape [] end = refl
  own-booked s h n t shape (x ∷ es) (one {s = _} {h = _} {m = m} a made rest) =
      in-front t (tame s t shape) x es (made-turns h m t x made)
      (own-booked s m n (next t x) (shape-kept h m s t shape x a made) es rest)
  own-booked s h n t (idle {xs = xs}) (x ∷ es) (begin {h = _} {m = m} {n = _} {p = q} {k = k} {w = w} {reply = reply} d rest) =
      in-front (After xs) tt (Began q k reply) es (begins-turns xs q k reply)
      (own-booked (Closing q k w) m n _ (closing (of_one (Entered (by q (Close k)))) (of_one (Entered (by q Drop)))) es rest)
  own-booked s h n t (idle {xs = xs}) (x ∷ es)
      (bring {h = _} {m = m} {n = _} {p = q} {k = k} {w = w} {bytes = bytes} {reply = reply} d rest) =
      in-front (After xs) tt (RestoreBegan q k bytes reply) es (brings-turns xs q k bytes reply)
      (own-booked (Closing q k w) m n _ (waits xs q k w bytes (clears bytes)) es rest)
  own-booked s h n t (closing {xs = xs} {done = done} {cut = cut} a b) (x ∷ es)
      (commit {h = _} {n = _} {p = q} {k = k} {w = w} {heads = heads} d rest) =
      in-front (Between xs q done cut) (a, b) (Ended q k) es (ends-turns xs done cut q k a)
      (own-booked Idle (with_heads h heads) n (After (xs ++ done)) idle es rest)
  own-booked s h n t (closing {xs = xs} {done = done} {cut = cut} a b) (x ∷ es) (was-reset {h = _} {n = _} {p = q} {k = k} {w = w} rest) =
      in-front (Between xs q done cut) (a, b) (Cut q k) es (cut-turns xs done cut q k b)
      (own-booked Idle h n (After (xs ++ cut)) idle es rest)

  own_fresh : (h n : Holder) (es : List Event) → Session Idle h (Fresh ∷ es) n
      → own_of p (booked_from (After []) es) ≡ booked_from (After []) (own_of p es)
  unfolding own entries_of
  own_fresh h n es (one {s = _} {h = _} {m = m} a made rest) = own-booked Idle m n (After []) idle es rest

  -- A party's events are what the book has for its own events alone: no other party's call plays a part (contract 8.6)
  pub session-alone : (h n : Holder) (es : List Event) → Session Idle h (Fresh ∷ es) n → own_of p es ≡ booked_from (After []) (own_of p es)
  session-alone h n es session = ap (own_of p) (session-theorem h n es session) ∙ own_fresh h n es session

-- So two sessions in which a party asks the same give it the same replies, points included, whatever else is called
pub received-independent : (p : ℕ) (h n : Holder) (es : List Event) → Session Idle h (Fresh ∷ es) n
    → (h' n' : Holder) (es' : List Event) → Session Idle h' (Fresh ∷ es') n'
    → map request (own_of p es) ≡ map request (own_of p es') → own_of p es ≡ own_of p es'
received-independent p h n es session h' n' es' session' same =
    session-alone p h n es session ∙ sym (requests-booked (After []) (own_of p es)) ∙ ap (booked_from (After [])) same
    ∙ requests-booked (After []) (own_of p es') ∙ sym (session-alone p h' n' es' session')
