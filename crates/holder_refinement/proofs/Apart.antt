-- A call of one party, or any store into its parts of the arrays, leaves the draft and every work of the other party, for any content.
use Prim.Native.Nat.{ℕ, ◌+◌, ◌*◌, ◌≤◌, ◌<◌}
use native.Mathlib.Omega.{arith}
use mathlib.Core.Path.{◌≡◌, refl, sym, ◌∙◌}
use mathlib.Core.Bool.{Bool, true, false}
use mathlib.Core.Logic.{◌⊎◌, inl, inr, ⊎_elim}
use mathlib.Core.List.{List, [], ◌∷◌}
use lib.ListN.{get_or}
use lib.Seq.{get_or-set_other}
use borrow.Author.Tests.{leb-false}
use Rattle.chart.specs.Limits.{side, longest, most_numbers}
use Rattle.calls.specs.Calls.{parties, places, bad_party, by}
use Rattle.calls.specs.declared.Action.{Action}
use Rattle.windows.specs.Windows.{window}
use Rattle.windows.proofs.Slots.{window-before, window-after, order}
use Rattle.span_list.specs.SpanList.{slot_bytes, spans_at}
use Rattle.holder_refinement.proofs.Turns.{draft_at, turns}
use Rattle.holder_records.proofs.Places.{reached-below}
use Rattle.holder_memory.specs.Layout.{Holder, own, place_word, spot, slot_head, work_at, Fits}
use Rattle.holder_memory.specs.Words.{slot_of}
use Rattle.holder_answers.specs.Arrays.{slot_in, work_in, answer_of}
use Rattle.holder_memory.proofs.Free.{slot-own}
use Rattle.holder_refinement.specs.Stores.{Store, stored, stored_all}
use Rattle.holder_refinement.specs.Stores.Store.{letter, row, number, head}

-- The draft and the four works of party q are the same
pub record SameParty (h h' : Holder) (q : ℕ) : Type 0 where
  pub draft : draft_at h'.letters h'.heads q ≡ draft_at h.letters h.heads q
  pub works : (j : ℕ) → j < places → work_in h' q j ≡ work_in h q j

-- ---- a call

pub call-apart : (h : Holder) → Fits h → (p : ℕ) (a : Action) (q : ℕ) → q < parties → (q ≡ p → ⊥)
    → SameParty h (answer_of h (by p a)).holder q
unfolding answer_of
call-apart h fit p a q m d = go (bad_party p) refl
  where
    go : (t : Bool) → bad_party p ≡ t → SameParty h (answer_of h (by p a)).holder q
    go true e = rw e (record { draft = refl; works = λ j i. refl })
    go false e =
        let there : p < parties = leb-false parties p e in
        let t = turns h fit p there a in
        rw e (record { draft = t.drafts q m d; works = λ j i. t.works q j m i (λ z. d (omega (arith, z, i, reached-below a))) })

-- ---- a store

-- A number of the heads that belongs to party p: of its draft, of its places, of its slots; and one that does not
abbrev pub HeadOf : ℕ → ℕ → Type 0
HeadOf p i =
    ((4 * p ≤ i) × (i < 4 * p + 4)) ⊎ (((place_word (spot p 0) ≤ i) × (i < place_word (spot p 4)))
    ⊎ ((slot_head (own * p) ≤ i) × (i < slot_head (own * p + own))))

abbrev pub NoHeadOf : ℕ → ℕ → Type 0
NoHeadOf p i =
    ((i < 4 * p) ⊎ (4 * p + 4 ≤ i)) × (((i < place_word (spot p 0)) ⊎ (place_word (spot p 4) ≤ i))
    × ((i < slot_head (own * p)) ⊎ (slot_head (own * p + own) ≤ i)))

-- A store into the parts of party p
unfoldable pub Own : ℕ → Store → Type 0
Own p (letter i v) = (longest * p ≤ i) × (i < longest * p + longest)
Own p (row i v) = (slot_bytes * (own * p) ≤ i) × (i < slot_bytes * (own * p + own))
Own p (number i v) = (most_numbers * (own * p) ≤ i) × (i < most_numbers * (own * p + own))
Own p (head i v) = HeadOf p i

unfoldable pub AllOwn : ℕ → List Store → Type 0
AllOwn p [] = Unit {0}
AllOwn p (x ∷ xs) = Own p x × AllOwn p xs

-- All but the parts of party p is the same
record Aside (h h' : Holder) (p : ℕ) : Type 0 where
  letters : (q : ℕ) → (q ≡ p → ⊥) → window (longest * q) longest h'.letters ≡ window (longest * q) longest h.letters
  spans : (u : ℕ) → (u < own * p) ⊎ (own * p + own ≤ u) → spans_at h'.rows u ≡ spans_at h.rows u
  numbers : (u : ℕ) → (u < own * p) ⊎ (own * p + own ≤ u)
      → window (most_numbers * u) most_numbers h'.numbers ≡ window (most_numbers * u) most_numbers h.numbers
  heads : (i : ℕ) → NoHeadOf p i → get_or h'.heads i 0 ≡ get_or h.heads i 0

aside-self : (h : Holder) (p : ℕ) → Aside h h p
aside-self h p = record { letters = λ q d. refl; spans = λ u o. refl; numbers = λ u o. refl; heads = λ i o. refl }

aside-next : (h h₁ h₂ : Holder) (p : ℕ) → Aside h h₁ p → Aside h₁ h₂ p → Aside h h₂ p
aside-next h h₁ h₂ p a b =
    record {
      letters = λ q d. b.letters q d ∙ a.letters q d;
      spans = λ u o. b.spans u o ∙ a.spans u o;
      numbers = λ u o. b.numbers u o ∙ a.numbers u o;
      heads = λ i o. b.heads i o ∙ a.heads i o;
    }

outside : (lo hi i j : ℕ) → (lo ≤ i) × (i < hi) → (j < lo) ⊎ (hi ≤ j) → i ≡ j → ⊥
outside lo hi i j x o e = ⊎_elim (λ y. omega (arith, x.0)) (λ y. omega (arith, x.1)) o

pub differ : (p i j : ℕ) → HeadOf p i → NoHeadOf p j → i ≡ j → ⊥
differ p i j w o e =
    ⊎_elim (λ x. outside _ _ i j x o.0 e) (⊎_elim (λ x. outside _ _ i j x o.1.0 e) (λ x. outside _ _ i j x o.1.1 e)) w

store-aside : (h : Holder) (p : ℕ) (x : Store) → Own p x → Aside h (stored h x) p
unfolding Own stored spans_at
store-aside h p (letter i v) (lo, hi) =
    record {
      letters = λ q d.
          ⊎_elim (λ o. window-after (longest * q) longest i h.letters v (omega arith))
          (λ o. window-before (longest * q) longest i h.letters v (omega arith)) (order q p d);
      spans = λ u o. refl;
      numbers = λ u o. refl;
      heads = λ j o. refl;
    }
store-aside h p (row i v) (lo, hi) =
    record {
      letters = λ q d. refl;
      spans = λ u.
          ⊎_elim
          (λ o. rw (
            window-after (slot_bytes * u) side i h.rows v (omega arith),
            window-after (slot_bytes * u + side) side i h.rows v (omega arith),
          ))
          (λ o. rw (
            window-before (slot_bytes * u) side i h.rows v (omega arith),
            window-before (slot_bytes * u + side) side i h.rows v (omega arith),
          ));
      numbers = λ u o. refl;
      heads = λ j o. refl;
    }
store-aside h p (number i v) (lo, hi) =
    record {
      letters = λ q d. refl;
      spans = λ u o. refl;
      numbers = λ u.
          ⊎_elim (λ o. window-after (most_numbers * u) most_numbers i h.numbers v (omega arith))
          (λ o. window-before (most_numbers * u) most_numbers i h.numbers v (omega arith));
      heads = λ j o. refl;
    }
store-aside h p (head i v) w =
    record {
      letters = λ q d. refl;
      spans = λ u o. refl;
      numbers = λ u o. refl;
      heads = λ j o. get_or-set_other h.heads i j v 0 (λ e. differ p i j w o (sym e));
    }

stores-aside : (h : Holder) (p : ℕ) (xs : List Store) → AllOwn p xs → Aside h (stored_all h xs) p
unfolding stored_all AllOwn
stores-aside h p [] w = aside-self h p
stores-aside h p (x ∷ xs) (w, ws) = aside-next h (stored h x) _ p (store-aside h p x w) (stores-aside (stored h x) p xs ws)

module _ (h h' : Holder) (p q : ℕ) (l : p < parties) (m : q < parties) (d : q ≡ p → ⊥) (a : Aside h h' p) where
  -- A number that lies in no part of party p
  beyond : (i : ℕ) → (i < 4 * p) ⊎ (4 * p + 4 ≤ i) → (i < place_word (spot p 0)) ⊎ (place_word (spot p 4) ≤ i)
      → (i < slot_head (own * p)) ⊎ (slot_head (own * p + own) ≤ i) → get_or h'.heads i 0 ≡ get_or h.heads i 0
  beyond i x y z = a.heads i (x, (y, z))

  draft-number : (n : ℕ) → n < 4 → get_or h'.heads (4 * q + n) 0 ≡ get_or h.heads (4 * q + n) 0
  draft-number n b =
      beyond (4 * q + n) (⊎_elim (λ o. inl (omega arith)) (λ o. inr (omega arith)) (order q p d)) (inl (omega arith)) (inl (omega arith))

  same-draft : draft_at h'.letters h'.heads q ≡ draft_at h.letters h.heads q
  unfolding draft_at
  same-draft = rw (a.letters q d, flag, draft-number 1 (omega arith), draft-number 2 (omega arith), draft-number 3 (omega arith))
    where
      flag : get_or h'.heads (4 * q) 0 ≡ get_or h.heads (4 * q) 0
      flag = beyond (4 * q) (⊎_elim (λ o. inl (omega arith)) (λ o. inr (omega arith)) (order q p d)) (inl (omega arith)) (inl (omega arith))

  same_word : (j : ℕ) → j < places → get_or h'.heads (place_word (spot q j)) 0 ≡ get_or h.heads (place_word (spot q j)) 0
  same_word j b =
      beyond (place_word (spot q j)) (inr (omega arith))
      (⊎_elim (λ o. inl (omega arith)) (λ o. inr (omega arith)) (order q p d)) (inl (omega arith))

  same-slot : (u : ℕ) → (u < own * p) ⊎ (own * p + own ≤ u)
      → work_at h'.rows h'.numbers h'.heads u ≡ work_at h.rows h.numbers h.heads u
  unfolding work_at
  same-slot u o = rw (a.spans u o, a.numbers u o, first, at 1 (omega arith), at 2 (omega arith))
    where
      first : get_or h'.heads (slot_head u) 0 ≡ get_or h.heads (slot_head u) 0
      first = beyond (slot_head u) (inr (omega arith)) (inr (omega arith)) (⊎_elim (λ x. inl (omega arith)) (λ x. inr (omega arith)) o)

      at : (n : ℕ) → n < 3 → get_or h'.heads (slot_head u + n) 0 ≡ get_or h.heads (slot_head u + n) 0
      at n b = beyond (slot_head u + n) (inr (omega arith)) (inr (omega arith)) (⊎_elim (λ x. inl (omega arith)) (λ x. inr (omega arith)) o)

  -- A place of party q names a slot of q or none
  foreign : (w : ℕ) → (slot_of q w < own * p) ⊎ (own * p + own ≤ slot_of q w)
  foreign w =
      ⊎_elim
      (λ x. ⊎_elim (λ o. inl (omega (arith, x.0, x.1))) (λ o. inr (omega (arith, x.0, x.1))) (order q p d))
      (λ x. inr (omega (arith, x.1))) (slot-own q w)

  same-party : SameParty h h' q
  same-party = record { draft = same-draft; works = λ j b. rw (same_word j b) (same-slot (slot_in h q j) (foreign _)) }

-- For any content, any list of stores into the parts of one party, wherever it is cut, leaves the other party's draft and works
pub stores_apart : (h : Holder) (p : ℕ) → p < parties → (xs : List Store) → AllOwn p xs → (q : ℕ) → q < parties → (q ≡ p → ⊥)
    → SameParty h (stored_all h xs) q
stores_apart h p l xs w q m d = same-party h (stored_all h xs) p q l m d (stores-aside h p xs w)
