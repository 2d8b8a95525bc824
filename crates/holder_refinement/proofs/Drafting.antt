-- What is drafted: the answer is the plain book's after every list of calls. A begin that is cut short opens no draft, and an add that is
-- cut short adds no letter.
use Prim.Native.Nat.{ℕ, ◌+◌, ◌*◌, ◌≤◌, ◌<◌, min}
use native.Mathlib.Omega.{arith}
use mathlib.Core.Path.{◌≡◌, refl, sym, ap, ap₂, ◌∙◌}
use mathlib.Core.List.{List, [], ◌∷◌, map}
use mathlib.Core.Option.{Option, none, some}
use lib.ListN.{length, get_or, set, length-take}
use lib.Seq.{get_or-set_other, take-set-le}
use Rattle.windows.specs.Windows.{window}
use Rattle.windows.proofs.Slots.{window-set}
use borrow.Author.Tests.{lt-leb}
use Rattle.chart.specs.Limits.{longest}
use Rattle.chart.specs.Outline.{Outline, at}
use Rattle.chart.specs.declared.Point.{Point}
use Rattle.calls.specs.Calls.{parties}
use Rattle.calls.specs.declared.Call.{Call}
use Rattle.holder_records.specs.Draft.{Draft, outline_of}
use Rattle.holder_refinement.proofs.Turns.{draft_at}
use Rattle.holder_refinement.specs.Told.{told}
use Rattle.holder_model.specs.Book.{Entered, fresh, book_after}
use Rattle.holder_refinement.proofs.Drafts.{IsDraft}
use Rattle.holder_memory.specs.Layout.{Holder, draft_head}
use Rattle.holder_answers.specs.Arrays.{Drafting, drafted, begun, draft_count, draft_in, opened, lengthened, draft_of}
use Rattle.holder_answers.specs.Run.{fresh_holder, holder_after}
use Rattle.holder_refinement.specs.Stores.{Store, stored, stored_all}
use Rattle.holder_refinement.specs.Stores.Store.{letter, head}
use Rattle.holder_refinement.proofs.ListTheorem.{represents-after}

-- ---- the question

kept-length : (d : Draft) → length d.letters ≡ longest → d.letter_count ≤ longest → length (outline_of d).letters ≡ d.letter_count
unfolding outline_of
kept-length d space fits = rw length-take (omega (arith, space, fits))

module _ (h : Holder) (p : ℕ) (there : p < parties) where
  abbrev d : Draft
  d = draft_at h.letters h.heads p

  counted : d.letter_count ≡ draft_count h p
  unfolding draft_at
  counted = refl

  started : (outline_of d).start ≡ at (get_or h.heads (draft_head p + 1) 0) (get_or h.heads (draft_head p + 2) 0)
  unfolding outline_of draft_at
  started = refl

  flagged : d.begun ≡ begun h p
  unfolding draft_at
  flagged = refl

  pub draft-told : (g : Option Outline) → IsDraft d g → draft_of h p ≡ told g
  unfolding draft_of told
  draft-told none k = rw (lt-leb parties p there, sym flagged, k.stands)
  draft-told (some o) k =
      rw (lt-leb parties p there, sym flagged, k.stands.begun)
      (ap₂ drafted (sym started ∙ ap (λ (x : Outline). x.start) k.stands.outline)
      (sym counted ∙ sym (kept-length d k.space k.stands.fits) ∙ ap (λ (x : Outline). length x.letters) k.stands.outline))

-- After every list of calls from a fresh holder, whatever their arguments
pub draft-theorem : (cs : List Call) (p : ℕ) → p < parties → draft_of (holder_after fresh_holder cs) p ≡ told
    (book_after fresh (map Entered cs) p).draft
draft-theorem cs p there =
    draft-told (holder_after fresh_holder cs) p there _ ((represents-after cs).pages p there).draft

-- ---- begin, cut short

module _ (h : Holder) (p : ℕ) (s : Point) where
  abbrev flag_in : Holder → ℕ
  flag_in n = get_or n.heads (draft_head p) 0

  abbrev first : Store
  first = head (draft_head p + 1) s.col

  abbrev second : Store
  second = head (draft_head p + 2) s.row

  abbrev third : Store
  third = head (draft_head p + 3) 0

  abbrev last : Store
  last = head (draft_head p) 1

  -- The four stores of a begin, in their order. Before the last, the flag is as it was
  pub begin-cut : (flag_in (stored_all h (first ∷ [])) ≡ flag_in h) × ((flag_in (stored_all h (first ∷ second ∷ [])) ≡ flag_in h)
      × ((flag_in (stored_all h (first ∷ second ∷ third ∷ [])) ≡ flag_in h)
      × (stored_all h (first ∷ second ∷ third ∷ last ∷ []) ≡ opened h p s)))
  unfolding stored_all stored
  begin-cut =
      let one : flag_in (stored_all h (first ∷ [])) ≡ flag_in h = get_or-set_other h.heads (draft_head p + 1) (draft_head p) s.col 0
      (λ q. omega arith) in
      let two : flag_in (stored_all h (first ∷ second ∷ [])) ≡ flag_in h =
      get_or-set_other (set h.heads (draft_head p + 1) s.col) (draft_head p + 2) (draft_head p) s.row 0 (λ q. omega arith) ∙ one in
      let three : flag_in (stored_all h (first ∷ second ∷ third ∷ [])) ≡ flag_in h =
      get_or-set_other (set (set h.heads (draft_head p + 1) s.col) (draft_head p + 2) s.row) (draft_head p + 3) (draft_head p) 0 0
      (λ q. omega arith) ∙ two in
      (one, (two, (three, refl)))

-- ---- add, cut short

module _ (h : Holder) (p a : ℕ) (room : draft_count h p < longest) where
  abbrev written : Store
  written = letter (longest * p + draft_count h p) a

  abbrev counted-up : Store
  counted-up = head (draft_head p + 3) (draft_count h p + 1)

  -- The two stores of an add, in their order. Before the last, the draft is as it was
  pub add-cut : (draft_in (stored_all h (written ∷ [])) p ≡ draft_in h p) × (stored_all h (written ∷ counted-up ∷ []) ≡ lengthened h p a)
  unfolding stored_all stored draft_in
  add-cut = (
    rw (
      window-set (longest * p) longest (draft_count h p) h.letters a room,
      take-set-le (min (draft_count h p) longest) (window (longest * p) longest h.letters) (draft_count h p) a (omega arith),
    ),
    refl,
  )
