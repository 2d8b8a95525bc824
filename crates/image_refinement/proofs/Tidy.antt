-- After calls and restores a place's word is 0 or names a slot: only a clear and a commit write a place, and a commit only a slot's word.
use Rattle.std.specs.Prelude.{Result, Ok, Err}
use Prim.Native.Nat.{ℕ, ◌+◌, ◌≤◌, ◌<◌}
use native.Mathlib.Decide.{dec_lt, ℕ_discrete}
use native.Mathlib.Omega.{arith}
use mathlib.Core.Path.{◌≡◌, refl}
use mathlib.Core.Logic.{◌⊎◌, inl, inr, ⊎_elim}
use mathlib.Core.Bool.{Bool, true, false, cond}
use mathlib.Core.List.{List, [], ◌∷◌}
use lib.ListN.{length, get_or, set, length-set, get_or-eq_default, get_or-replicate}
use lib.Seq.{get_or-set_same, get_or-set_other}
use lib.Dec.{ltb, leb}
use borrow.Author.Tests.{leb-false, ltb-true}
use Rattle.base.specs.Below.{every}
use Rattle.base.proofs.BelowLaws.{every-at}
use Rattle.chart.specs.Limits.{longest}
use Rattle.chart.specs.Outline.{Outline}
use Rattle.chart.specs.declared.Point.{Point}
use Rattle.chart.specs.declared.Refusal.{Refusal}
use Rattle.chart.specs.declared.Taken.{Taken}
use Rattle.lattice.specs.Refusals.{bad_start}
use Rattle.judge.specs.declared.Judged.{Judged}
use Rattle.judge.specs.Judged.{judged_of}
use Rattle.calls.specs.Calls.{parties, bad_party, bad_place}
use Rattle.calls.specs.declared.Call.{Call}
use Rattle.calls.specs.declared.Action.{Action}
use Rattle.calls.specs.declared.Action.TheVariants.{Begin, Add, Drop, Clear, Close, Ask}
use Rattle.images.specs.Image.{is_image, held_in}
use Rattle.holder_memory.specs.Layout.{Holder, own, head_numbers, draft_head, place_word, spot, slot_head, slot_head_put}
use Rattle.holder_memory.specs.Words.{word_of, tag_of, free_tag, free_slot}
use Rattle.holder_memory.proofs.Free.{tag_below}
use Rattle.holder_answers.specs.Arrays.{Answered, Preparation, begun, draft_count, draft_in, begin_of, add_of, drop_of, clear_of}
use Rattle.holder_answers.specs.Arrays.{outline_prepared_by, outline_prepared, draft_ended, prepared_of, prepare_of, commit_of, close_of}
use Rattle.holder_answers.specs.Arrays.{act_of, answer_of}
use Rattle.holder_answers.specs.Run.{fresh_holder}
use Rattle.holder_images.specs.Arrays.{image_prepared, prepare_image_of}
use Rattle.holder_refinement.proofs.Keeps.{commit-one}

-- 0, or the word of a slot
abbrev pub Named : ℕ → Type 0
Named w = (w ≡ 0) ⊎ (tag_of w < own)

abbrev pub Tidy : List ℕ → Type 0
Tidy heads = (s : ℕ) → s < 8 → Named (get_or heads (place_word s) 0)

-- ---- stores

away : (heads : List ℕ) (i v : ℕ) → (i < 8) ⊎ (16 ≤ i) → Tidy heads → Tidy (set heads i v)
away heads i v o t s l =
    rw (get_or-set_other heads i (place_word s) v 0 (λ q. ⊎_elim (λ a. omega arith) (λ a. omega arith) o)) (t s l)

stored : (heads : List ℕ) (i v : ℕ) → Named v → Tidy heads → Tidy (set heads i v)
stored heads i v n t s l =
    elim (ℕ_discrete (place_word s) i) [
      | yes e ↦
          elim (dec_lt i (length heads)) [
            | yes m ↦ rw (e, get_or-set_same heads i v 0 m) n
            | no m ↦ inl (get_or-eq_default (set heads i v) 0 {n = place_word s} (omega (arith, length-set heads i v, e)))
          ]
      | no e ↦ rw (get_or-set_other heads i (place_word s) v 0 e) (t s l)
    ]

filled-tidy : (heads : List ℕ) (t : ℕ) (a : Point) (n : ℕ) → Tidy heads → Tidy (slot_head_put heads t a n)
filled-tidy heads t a n tidy =
    let s₁ : List ℕ = set heads (slot_head t) a.col in
    let s₂ : List ℕ = set s₁ (slot_head t + 1) a.row in
    away s₂ (slot_head t + 2) n (inr (omega arith))
    (away s₁ (slot_head t + 1) a.row (inr (omega arith)) (away heads (slot_head t) a.col (inr (omega arith)) tidy))

words-named : every (λ t. ltb (tag_of (word_of t)) own) own ≡ true
unfolding every word_of tag_of
words-named = refl

word-named : (heads : List ℕ) (p : ℕ) → Named (word_of (free_tag heads p))
word-named heads p =
    inr (ltb-true (tag_of (word_of (free_tag heads p))) own
    (every-at (λ t. ltb (tag_of (word_of t)) own) own words-named (free_tag heads p) (tag_below heads p)))

-- ---- a preparation: the heads that it leaves, and its word

abbrev pub Prepares : Preparation → Type 0
Prepares q = Tidy q.holder.heads × Named q.word

either : (t : Bool) (x y : Preparation) → Prepares x → Prepares y → Prepares (cond t x y)
either true x y a b = a
either false x y a b = b

module _ (h : Holder) (tidy : Tidy h.heads) (p : ℕ) (k : ℕ) where
  outline-tidy : (o : Outline) (j : Judged) (v : Result Taken Refusal) → Prepares (outline_prepared_by h p k o j v)
  unfolding outline_prepared_by
  outline-tidy o j (Err f) = (tidy, inl refl)
  outline-tidy o j (Ok t) = (filled-tidy h.heads (free_slot h.heads p) t.anchor t.edges tidy, word-named h.heads p)

  image-tidy : (o : Outline) (l : List ℕ) → Prepares (image_prepared h p k o l)
  unfolding image_prepared
  image-tidy o [] = (stored h.heads (place_word (spot p k)) 0 (inl refl) tidy, inl refl)
  image-tidy o (a ∷ l) = outline-tidy o (judged_of o) (judged_of o).verdict

  pub bring-tidy : (bytes : List ℕ) → Prepares (prepare_image_of h p k bytes)
  unfolding prepare_image_of
  bring-tidy bytes =
      either (bad_party p) _ _ (tidy, inl refl)
      (either (bad_place k) _ _ (tidy, inl refl)
      (either (is_image bytes) _ _ (image-tidy (held_in bytes) (held_in bytes).letters) (tidy, inl refl)))

  module _ (there : p < parties) where
    ended-tidy : (q : Preparation) → Prepares q → Prepares (draft_ended p q)
    ended-tidy q (a, b) = (away q.holder.heads (draft_head p) 0 (inl (omega arith)) a, b)

    prepared-tidy : Prepares (prepared_of h p k)
    unfolding prepared_of
    prepared-tidy =
        either (bad_place k) _ _ (away h.heads (draft_head p) 0 (inl (omega arith)) tidy, inl refl)
        (either (begun h p) _ _
        (ended-tidy (outline_prepared h p k (draft_in h p))
        (outline-tidy (draft_in h p) (judged_of (draft_in h p)) (judged_of (draft_in h p)).verdict)) (tidy, inl refl))

  pub prepare-tidy : Prepares (prepare_of h p k)
  unfolding prepare_of
  prepare-tidy = go (bad_party p) refl
    where
      go : (t : Bool) → bad_party p ≡ t → Prepares (prepare_of h p k)
      go true e = rw e (tidy, inl refl)
      go false e = rw e (prepared-tidy (leb-false parties p e))

pub commit-tidy : (heads : List ℕ) (p k w : ℕ) → Named w → Tidy heads → Tidy (commit_of heads p k w)
commit-tidy heads p k w n tidy = ⊎_elim (λ e. rw e tidy) (λ e. rw e.1 (stored heads _ w n tidy)) (commit-one heads p k w)

-- ---- a call

abbrev Leaves : Answered → Type 0
Leaves x = Tidy x.holder.heads

or : (t : Bool) (x y : Answered) → Leaves x → Leaves y → Leaves (cond t x y)
or true x y a b = a
or false x y a b = b

module _ (h : Holder) (tidy : Tidy h.heads) (p : ℕ) (there : p < parties) where
  act-tidy : (a : Action) → Leaves (act_of h p a)
  unfolding act_of begin_of add_of drop_of clear_of close_of
  act-tidy (Begin s) =
      let s₁ : List ℕ = set h.heads (draft_head p + 1) s.col in
      let s₂ : List ℕ = set s₁ (draft_head p + 2) s.row in
      let s₃ : List ℕ = set s₂ (draft_head p + 3) 0 in
      or (begun h p) _ _ tidy
      (or (bad_start s) _ _ tidy
      (away s₃ (draft_head p) 1 (inl (omega arith)) (away s₂ (draft_head p + 3) 0 (inl (omega arith))
      (away s₁ (draft_head p + 2) s.row (inl (omega arith)) (away h.heads (draft_head p + 1) s.col (inl (omega arith)) tidy)))))
  act-tidy (Add a) =
      or (begun h p) _ _
      (or (leb longest (draft_count h p)) _ _ tidy
      (or (ltb 3 a) _ _ tidy (away h.heads (draft_head p + 3) (draft_count h p + 1) (inl (omega arith)) tidy))) tidy
  act-tidy Drop = or (begun h p) _ _ (away h.heads (draft_head p) 0 (inl (omega arith)) tidy) tidy
  act-tidy (Clear k) = or (bad_place k) _ _ tidy (stored h.heads (place_word (spot p k)) 0 (inl refl) tidy)
  act-tidy (Close k) =
      let (a, b) = prepared-tidy h tidy p k there in
      commit-tidy (prepared_of h p k).holder.heads p k (prepared_of h p k).word b a
  act-tidy (Ask k q) = tidy

pub call-tidy : (h : Holder) → Tidy h.heads → (c : Call) → Tidy (answer_of h c).holder.heads
unfolding answer_of
call-tidy h tidy c = go (bad_party c.party) refl
  where
    go : (t : Bool) → bad_party c.party ≡ t → Tidy (answer_of h c).holder.heads
    go true e = rw e tidy
    go false e = rw e (act-tidy h tidy c.party (leb-false parties c.party e) c.action)

pub fresh-tidy : Tidy fresh_holder.heads
unfolding fresh_holder
fresh-tidy s l = inl (get_or-replicate {A = ℕ} head_numbers (place_word s) 0 0 (omega arith))
