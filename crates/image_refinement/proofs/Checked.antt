-- After every session each place is whole: its word is 0 or names a slot, and what is at work is a work of the plain book. So a check says
-- yes, and a save gives the image of the border of the outline last taken.
use Prim.Native.Nat.{ℕ, ◌≤◌, ◌<◌}
use native.Mathlib.Omega.{arith}
use mathlib.Core.Path.{◌≡◌, refl, sym, ap, ◌∙◌}
use mathlib.Core.Logic.{◌⊎◌, inl, inr, ⊎_elim}
use mathlib.Core.Bool.{Bool, true, false, ◌||◌, true≢false}
use mathlib.Core.Option.{Option, none, some}
use mathlib.Core.List.{List, [], ◌∷◌}
use lib.ListN.{length, take}
use lib.Dec.{eqb}
use borrow.Author.Tests.{eq-eqb, ne_eqb, lt-leb, lt-ltb}
use Rattle.chart.specs.Outline.{Outline}
use Rattle.convexity.proofs.Border.{border-form}
use Rattle.calls.specs.Calls.{parties, places}
use Rattle.calls.specs.declared.Answer.TheVariants.{Done}
use Rattle.wire.specs.Wire.{Decoded}
use Rattle.std.specs.Prelude.{Some, None, Ok}
use Rattle.wire.specs.Wire.{decoded}
use Rattle.holder_model.specs.LastTaken.{last_taken}
use Rattle.holder_model.proofs.LastTaken.{work-last-taken}
use Rattle.holder_memory.specs.Layout.{Holder, own, slots, spot, slot_own, work_at}
use Rattle.holder_memory.specs.Words.{tag_of}
use Rattle.holder_memory.proofs.Free.{slot-named}
use Rattle.holder_answers.specs.Arrays.{work_in, with_heads}
use Rattle.holder_bytes.specs.Responded.{next_holder}
use Rattle.holder_images.specs.Whole.{own_border, whole, word_in, whole_at, border_in}
use Rattle.images.specs.Image.{image_bytes, image_of}
use Rattle.holder_images.specs.Arrays.{check_of, save_of}
use Rattle.holder_images.proofs.WholeLaws.{whole-iff}
use Rattle.holder_refinement.proofs.Works.{IsWork}
use Rattle.holder_session.specs.Session.{Event, Fresh, Made, fresh as was-fresh, called, drew, sent, drafted, Stage, Idle, Closing}
use Rattle.holder_session.specs.Session.{Session, end, one, begin, bring, commit, reset}
use Rattle.holder_session.specs.Booked.{State, After, seen, after_all}
use Rattle.holder_session.proofs.Theorem.{Holds, idle, closing, session-left}
use Rattle.image_refinement.proofs.Restored.{working-has, working-work}
use Rattle.image_refinement.specs.Saved.{saved_outline}
use Rattle.image_refinement.proofs.SaveRestore.{nothing, saved-image}
use Rattle.image_refinement.proofs.Tidy.{Named, Tidy, call-tidy, fresh-tidy, prepare-tidy, bring-tidy, commit-tidy}

-- ---- the words, along a session

abbrev Waits : Stage → Type 0
Waits Idle = Unit {0}
Waits (Closing p k w) = Named w

sent-tidy : (h : Holder) → Tidy h.heads → (d : Decoded) → Tidy (next_holder h d).heads
unfolding next_holder
sent-tidy h t None = t
sent-tidy h t (Some c) = call-tidy h t c

made_tidy : (h n : Holder) (x : Event) → Made h x n → Tidy h.heads → Tidy n.heads
made_tidy h n x (was-fresh e) t = rw e fresh-tidy
made_tidy h n x (called {h = _} {n = _} {c = c} d) t = rw d.holder (call-tidy h t c)
made_tidy h n x (drew {h = _} {n = _} {p = p} {k = k} {i = i} d e) t = rw d.holder (call-tidy h t _)
made_tidy h n x (sent {h = _} {n = _} {bytes = bytes} m) t = rw m.holder (sent-tidy h t (decoded bytes))
made_tidy h n x (drafted e) t = t

session-tidy : (s : Stage) (h n : Holder) (es : List Event) → Session s h es n → Tidy h.heads → Waits s → Tidy n.heads
session-tidy s h n [] end t w = t
session-tidy s h n (x ∷ es) (one {s = _} {h = _} {m = m} a made rest) t w = session-tidy s m n es rest (made_tidy h m x made t) w
session-tidy s h n (x ∷ es) (begin {h = _} {m = m} {n = _} {p = p} {k = k} {w = v} q rest) t w =
    let (a, b) = prepare-tidy h t p k in
    session-tidy (Closing p k v) m n es rest (rw q.holder a) (rw q.word b)
session-tidy s h n (x ∷ es) (bring {h = _} {m = m} {n = _} {p = p} {k = k} {w = v} {bytes = bytes} q rest) t w =
    let (a, b) = bring-tidy h t p k bytes in
    session-tidy (Closing p k v) m n es rest (rw q.holder a) (rw q.word b)
session-tidy s h n (x ∷ es) (commit {h = _} {n = _} {p = p} {k = k} {w = v} {heads = heads} q rest) t w =
    session-tidy Idle (with_heads h heads) n es rest (rw q (commit-tidy h.heads p k v w t)) tt
session-tidy s h n (x ∷ es) (reset rest) t w = session-tidy Idle h n es rest t tt

left-tidy : (h n : Holder) (es : List Event) → Session Idle h (Fresh ∷ es) n → Tidy n.heads
left-tidy h n es (one {s = _} {h = _} {m = m} a (was-fresh e) rest) = session-tidy Idle m n es rest (rw e fresh-tidy) tt

-- ---- the works

-- At each place the work of the outline last taken there
holds-work : (u : Stage) (n : Holder) (t : State) → Holds u n t → (p k : ℕ) → p < parties → k < places
    → IsWork (work_in n p k) (last_taken p k (seen t))
unfolding seen
holds-work u n t (idle {h = _} {xs = xs} r) p k there inside =
    rw (sym (work-last-taken p k xs)) ((r.pages p there).works k inside)
holds-work u n t (closing {h = _} {xs = xs} half) p k there inside =
    rw (sym (work-last-taken p k xs), sym (half.works p)) ((half.here.pages p there).works k inside)

-- ---- whole

module _ (n : Holder) (p k : ℕ) (named : Named (word_in n p k)) (v : Option Outline) (is : IsWork (work_in n p k) v) where
  -- A word that names a slot has something at work
  busy : tag_of (word_in n p k) < own → p < parties → (work_in n p k).taken ≡ true
  unfolding work_at
  busy l there =
      rw (sym (slot-named p (word_in n p k) (tag_of (word_in n p k)) refl l))
      (lt-ltb (slot_own p (tag_of (word_in n p k))) slots (omega arith))

  either : (a b : Bool) → (a ≡ true) ⊎ (b ≡ true) → (a || b) ≡ true
  either true b e = refl
  either false b e = ⊎_elim (λ z. absurd (true≢false (sym z))) (λ z. z) e

  module _ (there : p < parties) where
    pub whole-at : whole_at n p k ≡ true
    unfolding whole_at
    whole-at =
        either (eqb (word_in n p k) 0) (whole (work_in n p k))
        (⊎_elim (λ z. inl (eq-eqb (word_in n p k) 0 z)) (λ l. inr (works v is (busy l there))) named)
      where
        works : (u : Option Outline) → IsWork (work_in n p k) u → (work_in n p k).taken ≡ true → whole (work_in n p k) ≡ true
        works none i t = absurd (true≢false (sym t ∙ i))
        works (some o) i t = (whole-iff (work_in n p k)).1 (t, (o, working-work (work_in n p k) o i))

    pub border-saved : border_in n p k ≡ saved_outline v
    unfolding border_in saved_outline
    border-saved = go v is
      where
        go : (u : Option Outline) → IsWork (work_in n p k) u → border_in n p k ≡ saved_outline u
        go none i =
            ⊎_elim (λ z. rw (eq-eqb (word_in n p k) 0 z) refl) (λ l. absurd (true≢false (sym (busy l there) ∙ i))) named
        go (some o) i =
            rw (ne_eqb (word_in n p k) 0 (λ z. true≢false (sym i.taken ∙ nothing n p k z)))
            (unfold own_border in sym (border-form (working-has (work_in n p k) o i)))

-- ---- after a session

module _ (h n : Holder) (es : List Event) (session : Session Idle h (Fresh ∷ es) n)
    (p k : ℕ) (there : p < parties) (inside : k < places) where
  word : Named (word_in n p k)
  word = left-tidy h n es session (spot p k) (omega arith)

  abbrev last : Option Outline
  last = last_taken p k (seen (after_all (After []) es))

  at-work : IsWork (work_in n p k) last
  at-work =
      let (u, holds) = session-left h n es session in
      holds-work u n (after_all (After []) es) holds p k there inside

  -- A check of each place replies 0, also between the halves of a close or a restore (contract 13.7)
  pub session-whole : whole_at n p k ≡ true
  session-whole = whole-at n p k word last at-work there

  pub session-checked : check_of n p k ≡ Ok Done
  unfolding check_of
  session-checked = rw (lt-leb parties p there, lt-leb places k inside, session-whole)

  -- A save gives the image of the border of the outline last taken there, or of an empty place
  pub session-saved : (buffer : List ℕ) → image_bytes ≤ length buffer
      → take image_bytes (save_of n p k buffer).buffer ≡ image_of (saved_outline last)
  session-saved buffer room =
      saved-image n p k there inside session-whole buffer room ∙ ap image_of (border-saved n p k word last at-work there)
