-- What is written into the slot that no place names, in any part and any order, leaves the outline that is read at every place.
use Rattle.std.specs.Prelude.{Result, Ok, Err}
use Prim.Native.Nat.{ℕ, ◌+◌, ◌*◌, ◌≤◌, ◌<◌}
use native.Mathlib.Omega.{arith}
use mathlib.Core.Path.{◌≡◌, refl, ◌∙◌}
use mathlib.Core.Bool.{Bool, true, false, cond}
use mathlib.Core.Logic.{◌⊎◌, inl, inr, ⊎_elim}
use mathlib.Core.List.{List, [], ◌∷◌}
use lib.ListN.{length, get_or, set}
use lib.Seq.{get_or-set_same, get_or-set_other}
use lib.IntN.{ℤ}
use lib.Dec.{eqb}
use borrow.Author.Tests.{leb-false}
use Rattle.chart.specs.Limits.{side, most_numbers}
use Rattle.chart.specs.Outline.{Outline}
use Rattle.chart.specs.declared.Point.{Point}
use Rattle.chart.specs.declared.Refusal.{Refusal}
use Rattle.chart.specs.declared.Taken.{Taken}
use Rattle.judge.specs.Judged.{judged_of}
use Rattle.spans.specs.declared.Spans.{Spans}
use Rattle.spans.specs.Spans.{spans_of}
use Rattle.calls.specs.Calls.{parties, places, bad_party, bad_place, by}
use Rattle.calls.specs.declared.Action.TheVariants.{Ask, Close}
use Rattle.calls.specs.declared.Question.{Question}
use Rattle.windows.specs.Windows.{window}
use Rattle.windows.proofs.Slots.{window-before, window-after, window-paste-before, window-paste-after, order}
use Rattle.span_list.specs.SpanList.{slot_bytes, spans_at, SpansPut, rows_put}
use Rattle.span_list.proofs.SlotLaws.{copies-put}
use Rattle.holder_memory.specs.Words.{slot_of, free_slot}
use Rattle.holder_memory.specs.Layout.{place_word, Holder, arrays, spot, slot_head, work_at, numbers_put, slot_head_put, head_numbers, draft_head}
use Rattle.holder_memory.specs.Layout.{Fits, place_words, slot_numbers}
use Rattle.holder_answers.specs.Arrays.{Preparation, begun, slot_in, work_in, with_heads, ended, worded, filled, draft_ended}
use Rattle.holder_answers.specs.Arrays.{outline_prepared_by, prepared_of, prepare_of, commit_of, close_of, act_of, answer_of}
use Rattle.holder_memory.proofs.Free.{free-below, free-apart}
use Rattle.holder_refinement.specs.Stores.{Store, stored, stored_all, Within, AllWithin, SameWorks}
use Rattle.holder_refinement.specs.Stores.Store.{letter, row, number, head}
use Rattle.holder_refinement.proofs.Sizes.{judged-size, first-size, past-size}

-- ---- the second holder differs from the first at most in its drafts and in slot t

pub record Beside (h h' : Holder) (t : ℕ) : Type 0 where
  pub spans : (u : ℕ) → (u ≡ t → ⊥) → spans_at h'.rows u ≡ spans_at h.rows u
  pub numbers : (u : ℕ) → (u ≡ t → ⊥)
      → window (most_numbers * u) most_numbers h'.numbers ≡ window (most_numbers * u) most_numbers h.numbers
  pub heads : (i : ℕ) → place_words ≤ i → (i < slot_head t) ⊎ (slot_head t + slot_numbers ≤ i) → get_or h'.heads i 0 ≡ get_or h.heads i 0

pub beside-self : (h : Holder) (t : ℕ) → Beside h h t
beside-self h t = record { spans = λ u d. refl; numbers = λ u d. refl; heads = λ i b o. refl }

pub beside-next : (h h₁ h₂ : Holder) (t : ℕ) → Beside h h₁ t → Beside h₁ h₂ t → Beside h h₂ t
beside-next h h₁ h₂ t a b =
    record {
      spans = λ u d. b.spans u d ∙ a.spans u d;
      numbers = λ u d. b.numbers u d ∙ a.numbers u d;
      heads = λ i l o. b.heads i l o ∙ a.heads i l o;
    }

module _ (h h' : Holder) (t : ℕ) (b : Beside h h' t) where
  slot-beside : (u : ℕ) → (u ≡ t → ⊥) → work_at h'.rows h'.numbers h'.heads u ≡ work_at h.rows h.numbers h.heads u
  unfolding work_at
  slot-beside u d =
      ⊎_elim
      (λ o. rw (
        b.spans u d,
        b.numbers u d,
        b.heads (slot_head u) (omega arith) (inl (omega arith)),
        b.heads (slot_head u + 1) (omega arith) (inl (omega arith)),
        b.heads (slot_head u + 2) (omega arith) (inl (omega arith)),
      ))
      (λ o. rw (
        b.spans u d,
        b.numbers u d,
        b.heads (slot_head u) (omega arith) (inr (omega arith)),
        b.heads (slot_head u + 1) (omega arith) (inr (omega arith)),
        b.heads (slot_head u + 2) (omega arith) (inr (omega arith)),
      ))
      (order u t d)

  pub word-beside : (q j : ℕ) → q < parties → j < places
      → get_or h'.heads (place_word (spot q j)) 0 ≡ get_or h.heads (place_word (spot q j)) 0
  word-beside q j l m = b.heads (place_word (spot q j)) (omega arith) (inl (omega arith))

  pub work-beside : (q j : ℕ) → q < parties → j < places → (slot_in h q j ≡ t → ⊥) → work_in h' q j ≡ work_in h q j
  work-beside q j l m d = rw (word-beside q j l m) (slot-beside (slot_in h q j) d)

-- For any content: if only drafts and a slot that no place names differ, every place has the same outline at work
pub keeps : (h h' : Holder) (p : ℕ) → p < parties → Beside h h' (free_slot h.heads p) → SameWorks h h'
keeps h h' p there b q j l m = work-beside h h' (free_slot h.heads p) b q j l m (free-apart h.heads p there q j l m)

-- And every question of every party at every place has the same answer
pub asks-same : (h h' : Holder) → SameWorks h h' → (p k : ℕ) (q : Question)
    → (answer_of h' (by p (Ask k q))).reply ≡ (answer_of h (by p (Ask k q))).reply
unfolding answer_of act_of
asks-same h h' same p k q = go (bad_party p) (bad_place k) refl refl
  where
    go : (t u : Bool) → bad_party p ≡ t → bad_place k ≡ u → (answer_of h' (by p (Ask k q))).reply ≡ (answer_of h (by p (Ask k q))).reply
    go true u e f = rw e
    go false true e f = rw (e, f)
    go false false e f = rw (e, f, same p k (leb-false parties p e) (leb-false places k f))

-- ---- any store into the slot or into a draft

-- Two of the heads are apart
heads-set : (heads : List ℕ) (t i v : ℕ) → (i < place_words) ⊎ ((slot_head t ≤ i) × (i < slot_head t + slot_numbers)) → (j : ℕ) → place_words ≤ j
    → (j < slot_head t) ⊎ (slot_head t + slot_numbers ≤ j) → get_or (set heads i v) j 0 ≡ get_or heads j 0
heads-set heads t i v w j b o =
    get_or-set_other heads i j v 0 (λ q. ⊎_elim (λ x. omega arith) (λ x. ⊎_elim (λ y. omega (arith, x.0)) (λ y. omega (arith, x.1)) o) w)

pub store_beside : (h : Holder) (t : ℕ) (x : Store) → Within t x → Beside h (stored h x) t
unfolding Within stored spans_at
store_beside h t (letter i v) w = record { spans = λ u d. refl; numbers = λ u d. refl; heads = λ j b o. refl }
store_beside h t (row i v) (lo, hi) =
    record {
      spans = λ u d.
          ⊎_elim
          (λ o. rw (
            window-after (slot_bytes * u) side i h.rows v (omega arith),
            window-after (slot_bytes * u + side) side i h.rows v (omega arith),
          ))
          (λ o. rw (
            window-before (slot_bytes * u) side i h.rows v (omega arith),
            window-before (slot_bytes * u + side) side i h.rows v (omega arith),
          ))
          (order u t d);
      numbers = λ u d. refl;
      heads = λ j b o. refl;
    }
store_beside h t (number i v) (lo, hi) =
    record {
      spans = λ u d. refl;
      numbers = λ u d.
          ⊎_elim (λ o. window-after (most_numbers * u) most_numbers i h.numbers v (omega arith))
          (λ o. window-before (most_numbers * u) most_numbers i h.numbers v (omega arith)) (order u t d);
      heads = λ j b o. refl;
    }
store_beside h t (head i v) w = record { spans = λ u d. refl; numbers = λ u d. refl; heads = heads-set h.heads t i v w }

stores-beside : (h : Holder) (t : ℕ) (xs : List Store) → AllWithin t xs → Beside h (stored_all h xs) t
unfolding stored_all AllWithin
stores-beside h t [] w = beside-self h t
stores-beside h t (x ∷ xs) (w, ws) = beside-next h (stored h x) _ t (store_beside h t x w) (stores-beside (stored h x) t xs ws)

-- For any content, any list of stores into drafts and into a slot that no place names, wherever it is cut
pub stores-keep : (h : Holder) (p : ℕ) → p < parties → (xs : List Store) → AllWithin (free_slot h.heads p) xs
    → SameWorks h (stored_all h xs)
stores-keep h p there xs w = keeps h (stored_all h xs) p there (stores-beside h (free_slot h.heads p) xs w)

-- And every question of either party at every place gets the same answer
pub stores-asks : (h : Holder) (p : ℕ) → p < parties → (xs : List Store) → AllWithin (free_slot h.heads p) xs → (q k : ℕ) (x : Question)
    → (answer_of (stored_all h xs) (by q (Ask k x))).reply ≡ (answer_of h (by q (Ask k x))).reply
stores-asks h p there xs w = asks-same h (stored_all h xs) (stores-keep h p there xs w)

-- ---- the steps of a prepare

module _ (h : Holder) (t : ℕ) where
  pub rows-beside : (x : Spans) → slot_bytes * t + slot_bytes ≤ length h.rows → length x.first ≡ side → length x.past ≡ side
      → Beside h (arrays h.letters (rows_put h.rows t x) h.numbers h.heads) t
  rows-beside x room l r =
      let put : SpansPut h.rows (rows_put h.rows t x) t x = copies-put h.rows t x room l r _ refl _ refl in
      record { spans = put.elsewhere; numbers = λ u d. refl; heads = λ i b o. refl }

  pub numbers-beside : (es : List ℤ) → most_numbers * t + most_numbers ≤ length h.numbers → length es ≡ most_numbers
      → Beside h (arrays h.letters h.rows (numbers_put h.numbers t es) h.heads) t
  numbers-beside es room all =
      record {
        spans = λ u d. refl;
        numbers = λ u d.
            ⊎_elim
            (λ o. window-paste-before h.numbers (most_numbers * t) most_numbers es room all (most_numbers * u) most_numbers (omega arith))
            (λ o. window-paste-after h.numbers (most_numbers * t) most_numbers es room all (most_numbers * u) most_numbers (omega arith))
            (order u t d);
        heads = λ i b o. refl;
      }

  pub head-beside : (a : Point) (n : ℕ) → Beside h (with_heads h (slot_head_put h.heads t a n)) t
  head-beside a n =
      record {
        spans = λ u d. refl;
        numbers = λ u d. refl;
        heads = λ j b o.
            heads-set (set (set h.heads (slot_head t) a.col) (slot_head t + 1) a.row) t (slot_head t + 2) n
            (inr (omega arith, omega arith)) j b o
            ∙ heads-set (set h.heads (slot_head t) a.col) t (slot_head t + 1) a.row (inr (omega arith, omega arith)) j b o
            ∙ heads-set h.heads t (slot_head t) a.col (inr (omega arith, omega arith)) j b o;
      }

  pub ended-beside : (p : ℕ) → p < parties → Beside h (ended h p) t
  ended-beside p l =
      record { spans = λ u d. refl; numbers = λ u d. refl; heads = heads-set h.heads t (draft_head p) 0 (inl (omega arith)) }

-- ---- prepare

module _ (h : Holder) (fit : Fits h) (p : ℕ) (l : p < parties) where
  abbrev free : ℕ
  free = free_slot h.heads p

  pub filled_beside : (a : Point) (es : List ℤ) (n : ℕ) (o : Outline) → length es ≡ most_numbers
      → Beside h (filled h free a es n (spans_of o)) free
  filled_beside a es n o all =
      let h₁ : Holder = arrays h.letters (rows_put h.rows free (spans_of o)) h.numbers h.heads in
      let h₂ : Holder = arrays h.letters (rows_put h.rows free (spans_of o)) (numbers_put h.numbers free es) h.heads in
      beside-next h h₁ _ free
      (rows-beside h free (spans_of o) (omega (arith, fit.rows, free-below h.heads p l)) (first-size o) (past-size o))
      (beside-next h₁ h₂ _ free (numbers-beside h₁ free es (omega (arith, fit.numbers, free-below h.heads p l)) all)
      (head-beside h₂ free a n))

  by-verdict : (k : ℕ) (o : Outline) (v : Result Taken Refusal)
      → Beside h (draft_ended p (outline_prepared_by h p k o (judged_of o) v)).holder free
  unfolding outline_prepared_by
  by-verdict k o (Err f) = ended-beside h free p l
  by-verdict k o (Ok t) =
      beside-next h (filled h free t.anchor (judged_of o).numbers t.edges (spans_of o)) _ free
      (filled_beside t.anchor (judged_of o).numbers t.edges o (judged-size o)) (ended-beside _ free p l)

  either : (t : Bool) (x y : Preparation) → Beside h x.holder free → Beside h y.holder free → Beside h (cond t x y).holder free
  either true x y a b = a
  either false x y a b = b

  pub prepared-beside : (k : ℕ) → Beside h (prepared_of h p k).holder free
  unfolding prepared_of
  prepared-beside k = either (bad_place k) _ _ (ended-beside h free p l) (either (begun h p) _ _ (by-verdict _ _ _) (beside-self h free))

-- A prepare leaves the outline at work at every place, and so the answer to every question
pub prepare-keeps : (h : Holder) → Fits h → (p k : ℕ) → SameWorks h (prepare_of h p k).holder
unfolding prepare_of
prepare-keeps h fit p k q j l m = go (bad_party p) refl
  where
    go : (t : Bool) → bad_party p ≡ t → work_in (prepare_of h p k).holder q j ≡ work_in h q j
    go true e = rw e
    go false e =
        let there : p < parties = leb-false parties p e in
        rw e (keeps h (prepared_of h p k).holder p there (prepared-beside h fit p there k) q j l m)

pub prepare-asks : (h : Holder) → Fits h → (p k q j : ℕ) (x : Question)
    → (answer_of (prepare_of h p k).holder (by q (Ask j x))).reply ≡ (answer_of h (by q (Ask j x))).reply
prepare-asks h fit p k = asks-same h (prepare_of h p k).holder (prepare-keeps h fit p k)

-- ---- one store of a word, as clear and commit make it

module _ (h : Holder) (z w : ℕ) (l : z < parties * places) where
  slot_kept : (u : ℕ) → work_at h.rows h.numbers (set h.heads (place_word z) w) u ≡ work_at h.rows h.numbers h.heads u
  unfolding work_at
  slot_kept u =
      rw (
        get_or-set_other h.heads (place_word z) (slot_head u) w 0 (λ q. omega arith),
        get_or-set_other h.heads (place_word z) (slot_head u + 1) w 0 (λ q. omega arith),
        get_or-set_other h.heads (place_word z) (slot_head u + 2) w 0 (λ q. omega arith),
      )

  -- Every other place keeps its outline
  pub worded-else : (q j : ℕ) → (spot q j ≡ z → ⊥) → work_in (worded h z w) q j ≡ work_in h q j
  worded-else q j d =
      rw (get_or-set_other h.heads (place_word z) (place_word (spot q j)) w 0 (λ e. d (omega arith))) (slot_kept (slot_in h q j))

  -- The place has the outline in the slot that the word names
  pub worded-here : (p k : ℕ) → spot p k ≡ z → length h.heads ≡ head_numbers
      → work_in (worded h z w) p k ≡ work_at h.rows h.numbers h.heads (slot_of p w)
  worded-here p k e size =
      rw (e, get_or-set_same h.heads (place_word z) w 0 (omega arith)) (slot_kept (slot_of p w))

-- A commit writes nothing, or one number
pub commit-one : (heads : List ℕ) (p k w : ℕ)
    → (commit_of heads p k w ≡ heads) ⊎ ((spot p k < parties * places) × (commit_of heads p k w ≡ set heads (place_word (spot p k)) w))
unfolding commit_of
commit-one heads p k w = go (bad_party p) (bad_place k) (eqb w 0) refl refl refl
  where
    go : (t u v : Bool) → bad_party p ≡ t → bad_place k ≡ u → eqb w 0 ≡ v
        → (commit_of heads p k w ≡ heads) ⊎ ((spot p k < parties * places) × (commit_of heads p k w ≡ set heads (place_word (spot p k)) w))
    go true u v e f g = inl (rw e)
    go false true v e f g = inl (rw (e, f))
    go false false true e f g = inl (rw (e, f, g))
    go false false false e f g = inr (omega (arith, leb-false parties p e, leb-false places k f), rw (e, f, g))

-- ---- a close

-- A close leaves the outline at every other place
pub close-else : (h : Holder) → Fits h → (p k q j : ℕ) → q < parties → j < places → (spot q j ≡ spot p k → ⊥)
    → work_in (answer_of h (by p (Close k))).holder q j ≡ work_in h q j
unfolding answer_of act_of close_of prepare_of
close-else h fit p k q j l m d = go (bad_party p) refl (prepare-keeps h fit p k q j l m)
  where
    after : (n : Holder) (w : ℕ) → work_in (with_heads n (commit_of n.heads p k w)) q j ≡ work_in n q j
    after n w = ⊎_elim (λ e. rw e) (λ e. rw e.1 (worded-else n (spot p k) w e.0 q j d)) (commit-one n.heads p k w)

    go : (t : Bool) → bad_party p ≡ t → work_in (prepare_of h p k).holder q j ≡ work_in h q j
        → work_in (answer_of h (by p (Close k))).holder q j ≡ work_in h q j
    go true e kept = rw e
    go false e kept = rw e (after (prepared_of h p k).holder (prepared_of h p k).word ∙ (rw e at kept))
