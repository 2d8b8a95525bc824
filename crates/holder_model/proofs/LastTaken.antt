-- The outline last taken is at work, because what is at work at a place changes exactly if a call or a restore puts something there.
use Rattle.std.specs.Prelude.{Result, Ok, Err}
use Prim.Native.Nat.{ℕ}
use native.Mathlib.Omega.{arith}
use mathlib.Core.Path.{◌≡◌, refl, sym, ap, ◌∙◌}
use mathlib.Core.Bool.{Bool, true, false, cond, ◌&&◌}
use mathlib.Core.Option.{Option, none, some}
use mathlib.Core.List.{List, [], ◌∷◌, ◌++◌, append_assoc, append-nil}
use lib.Dec.{eqb}
use borrow.Author.Tests.{eqb-true, ne_eqb}
use Rattle.base.specs.Put.{put}
use Rattle.chart.specs.Outline.{Outline}
use Rattle.chart.specs.Fields.{refusal_fields}
use Rattle.chart.proofs.RefusalLaws.{refusal-number}
use Rattle.chart.specs.declared.Refusal.{Refusal}
use Rattle.chart.specs.declared.Taken.{Taken}
use Rattle.verdict.specs.Verdict.{verdict_of}
use Rattle.images.specs.Image.{is_image, held_in}
use Rattle.holder_model.specs.Book.{Book, PartyModel, OnParty, Entry, Entered, Restored, at_work, drafted, fresh}
use Rattle.holder_model.specs.Book.{equals_work, closed_reply, work_after, closes, acts, restores, puts_back, answer_by, answer}
use Rattle.holder_model.specs.Book.{restored, entered, book_after}
use Rattle.holder_model.specs.LastTaken.{left, put_back, left_by, mark, marks, last_or, last_taken}
use Rattle.calls.specs.Calls.{bad_party, bad_place}
use Rattle.calls.specs.Replies.{Reply, reply_fields}
use Rattle.calls.specs.declared.Action.{Action}
use Rattle.calls.specs.declared.Action.TheVariants.{Begin, Add, Drop, Clear, Close, Ask}

-- No refusal has number 0
pub refusal-numbered : (f : Refusal) → eqb (refusal_fields f).number 0 ≡ false
refusal-numbered f = ne_eqb (refusal_fields f).number 0 (omega (arith, refusal-number f))

-- A reply that is not a refusal
abbrev clean : Reply → Bool
clean r = eqb (reply_fields r).number 0

-- ---- one action, on its party's state

-- After a close its place has what the close put there, or what was there before
closed-work : (w : Option Outline) (o : Outline) (t : Bool) (v : Result Taken Refusal) (ms : List (Option Outline)) →
    last_or w (cond (clean (closed_reply t v)) (some o ∷ []) [] ++ ms) ≡ last_or (work_after w o v) ms
unfolding last_or reply_fields closed_reply work_after
closed-work w o t (Err f) ms = rw (refusal-numbered f)
closed-work w o true (Ok t) ms = refl
closed-work w o false (Ok t) ms = refl

close-work : (d w : Option Outline) (ms : List (Option Outline))
    → last_or w (cond (clean (closes d w).reply) (d ∷ []) [] ++ ms) ≡ last_or (closes d w).work ms
unfolding closes
close-work none w ms = unfold reply_fields in refl
close-work (some o) w ms = closed-work w o (equals_work o w) (verdict_of o) ms

module _ (k : ℕ) (g : PartyModel) (ms : List (Option Outline)) where
  -- An action that puts nothing
  nothing : (r : Reply) (w : Option Outline) → last_or w (cond (clean r) [] [] ++ ms) ≡ last_or w ms
  nothing r w = go (clean r)
    where
      go : (t : Bool) → last_or w (cond t [] [] ++ ms) ≡ last_or w ms
      go true = refl
      go false = refl

  act-work : (a : Action)
      → last_or (g.works k) (cond (clean (acts g a).reply) (left k g.draft a) [] ++ ms) ≡ last_or ((acts g a).page.works k) ms
  unfolding acts left put reply_fields
  act-work (Begin s) = nothing (acts g (Begin s)).reply (g.works k)
  act-work (Add a) = nothing (acts g (Add a)).reply (g.works k)
  act-work Drop = nothing (acts g Drop).reply (g.works k)
  act-work (Ask j q) = nothing (acts g (Ask j q)).reply (g.works k)
  act-work (Clear j) = go (bad_place j) (eqb k j) refl refl
    where
      go : (b e : Bool) → bad_place j ≡ b → eqb k j ≡ e
          → last_or (g.works k) (cond (clean (acts g (Clear j)).reply) (left k g.draft (Clear j)) [] ++ ms)
          ≡ last_or ((acts g (Clear j)).page.works k) ms
      go true e p q = rw p
      go false true p q = rw (p, q) (unfold last_or in refl)
      go false false p q = rw (p, q)
  act-work (Close j) = go (bad_place j) (eqb k j) refl refl
    where
      go : (b e : Bool) → bad_place j ≡ b → eqb k j ≡ e
          → last_or (g.works k) (cond (clean (acts g (Close j)).reply) (left k g.draft (Close j)) [] ++ ms)
          ≡ last_or ((acts g (Close j)).page.works k) ms
      go true e p q = rw p
      go false true p q = rw (p, q, eqb-true k j q) (close-work g.draft (g.works j) ms)
      go false false p q = rw (p, q) (nothing (closes g.draft (g.works j)).reply (g.works k))

  -- The restore of an outline
  restores-work : (o : Outline) (l : List ℕ) (w : Option Outline)
      → last_or w (cond (clean (restores o l w).reply) (put_back o l ∷ []) [] ++ ms) ≡ last_or (restores o l w).work ms
  unfolding restores put_back
  restores-work o [] w = unfold reply_fields last_or in refl
  restores-work o (a ∷ l) w = close-work (some o) w ms

  restore-work : (j : ℕ) (bytes : List ℕ)
      → last_or (g.works k)
      (cond (clean (puts_back j bytes g).reply) (cond (eqb k j) (put_back (held_in bytes) (held_in bytes).letters ∷ []) []) [] ++ ms)
      ≡ last_or ((puts_back j bytes g).page.works k) ms
  unfolding puts_back put
  restore-work j bytes = go (bad_place j) (is_image bytes) (eqb k j) refl refl refl
    where
      go : (b i e : Bool) → bad_place j ≡ b → is_image bytes ≡ i → eqb k j ≡ e
          → last_or (g.works k)
          (cond (clean (puts_back j bytes g).reply) (cond (eqb k j) (put_back (held_in bytes) (held_in bytes).letters ∷ []) []) [] ++ ms)
          ≡ last_or ((puts_back j bytes g).page.works k) ms
      go true i e p h q = rw p (unfold reply_fields in refl)
      go false false e p h q = rw (p, h) (unfold reply_fields in refl)
      go false true true p h q = rw (p, h, q, eqb-true k j q) (restores-work (held_in bytes) (held_in bytes).letters (g.works j))
      go false true false p h q = rw (p, h, q) (nothing (restores (held_in bytes) (held_in bytes).letters (g.works j)).reply (g.works k))

-- ---- a list of calls and restores

module _ (p k : ℕ) where
  -- What a call or a restore puts there, from what it puts into its party's state
  put-work : (b : Book) (q : ℕ) (f : PartyModel → OnParty) (l ms : List (Option Outline))
      → last_or ((b p).works k) (cond (clean (f (b p)).reply) l [] ++ ms) ≡ last_or ((f (b p)).page.works k) ms
      → last_or (at_work b p k) (cond (eqb p q && clean (answer_by b q f).reply) l [] ++ ms) ≡ last_or (at_work (answer_by b q f).next p k) ms
  unfolding put
  put-work b q f l ms own = go (bad_party q) (eqb p q) refl refl
    where
      go : (t e : Bool) → bad_party q ≡ t → eqb p q ≡ e
          → last_or (at_work b p k) (cond (eqb p q && clean (answer_by b q f).reply) l [] ++ ms)
          ≡ last_or (at_work (answer_by b q f).next p k) ms
      go true false h e = rw (h, e)
      go false false h e = rw (h, e) (rw (e, at_work))
      go true true h e = rw (h, e) (unfold reply_fields in refl)
      go false true h e = rw (h, e) (rw (e, at_work) (rw (sym (eqb-true p q e)) own))

  -- One of them: the last of what it and the later ones put there
  mark-work : (b : Book) (x : Entry) (ms : List (Option Outline))
      → last_or (at_work b p k) (mark p k b x ++ ms) ≡ last_or (at_work (entered b x).next p k) ms
  unfolding mark left_by answer restored
  mark-work b (Entered c) ms =
      put-work b c.party (λ g. acts g c.action) (left k (drafted b p) c.action) ms (act-work k (b p) ms c.action)
  mark-work b (Restored q j bytes) ms = put-work b q (puts_back j bytes) _ ms (restore-work k (b p) ms j bytes)

  from-book : (b : Book) (xs : List Entry) → at_work (book_after b xs) p k ≡ last_or (at_work b p k) (marks p k b xs)
  unfolding book_after marks last_or
  from-book b [] = refl
  from-book b (x ∷ xs) = from-book (entered b x).next xs ∙ sym (mark-work b x (marks p k (entered b x).next xs))

  -- One more at the end
  marks-next : (b : Book) (xs : List Entry) (x : Entry) → marks p k b (xs ++ (x ∷ [])) ≡ marks p k b xs ++ mark p k (book_after b xs) x
  unfolding marks book_after
  marks-next b [] x = append-nil (mark p k b x)
  marks-next b (y ∷ xs) x =
      rw (marks-next (entered b y).next xs x)
      (sym (append_assoc (mark p k b y) (marks p k (entered b y).next xs) (mark p k (book_after (entered b y).next xs) x)))

last-append : (was : Option Outline) (ms ns : List (Option Outline)) → last_or was (ms ++ ns) ≡ last_or (last_or was ms) ns
unfolding last_or
last-append was [] ns = refl
last-append was (m ∷ ms) ns = last-append m ms ns

-- The outline last taken after one more call or restore: what that puts there, or the one before
pub last-taken-next : (p k : ℕ) (xs : List Entry) (x : Entry)
    → last_taken p k (xs ++ (x ∷ [])) ≡ last_or (last_taken p k xs) (mark p k (book_after fresh xs) x)
unfolding last_taken
last-taken-next p k xs x = ap (last_or none) (marks-next p k fresh xs x)
    ∙ last-append none (marks p k fresh xs) (mark p k (book_after fresh xs) x)

-- ---- the theorem

-- After any list of calls and restores on a fresh model the outline last taken at a party's place is at
-- work there: none before the first taking, and none from a clear to the next taking
pub work-last-taken : (p k : ℕ) (xs : List Entry) → at_work (book_after fresh xs) p k ≡ last_taken p k xs
unfolding last_taken fresh
work-last-taken p k xs = from-book p k fresh xs
