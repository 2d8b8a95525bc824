-- The cases of the definitions, each from the tests that lead to it.
use Rattle.std.specs.Prelude.{Err, Ok}
use Prim.Native.Nat.{ℕ, ◌+◌, ◌*◌, ◌≤◌, ◌<◌, min}
use native.Mathlib.Nat.{eq-zero-or-pos}
use native.Mathlib.Omega.{arith}
use mathlib.Core.Path.{◌≡◌, refl, sym, ap, ◌∙◌}
use mathlib.Core.Bool.{Bool, true, false, cond}
use mathlib.Core.Logic.{⊎_elim}
use mathlib.Core.List.{List}
use lib.ListN.{take, get_or, set}
use lib.IntN.{ℤ}
use lib.Dec.{leb}
use borrow.Author.Tests.{le-leb, lt-leb, lt-ltb, le-ltb, leb-true, eq-eqb, ne_eqb}
use Rattle.chart.specs.Limits.{longest}
use Rattle.chart.specs.Outline.{Outline, at, outline}
use Rattle.chart.specs.declared.Point.{Point}
use Rattle.chart.specs.declared.Refusal.{Refusal}
use Rattle.chart.specs.declared.Refusal.TheVariants.{Start, Letter, NoDraft, DraftOpen, DraftFull, Party, Place}
use Rattle.chart.specs.Taken.{taken_with}
use Rattle.judge.specs.declared.Judged.{Judged}
use Rattle.judge.specs.Judged.{judged_of}
use Rattle.spans.specs.declared.Spans.{Spans}
use Rattle.spans.specs.Spans.{spans_of}
use Rattle.calls.specs.Calls.{parties, places, by}
use Rattle.calls.specs.declared.Call.{Call}
use Rattle.calls.specs.declared.Action.TheVariants.{Begin, Add, Drop, Clear, Close}
use Rattle.calls.specs.Replies.{Reply}
use Rattle.calls.specs.declared.Answer.TheVariants.{Done, Taken as WasTaken, Same}
use Rattle.lattice.specs.Refusals.{bad_start}
use Rattle.holder_records.specs.Work.{listed, has_edges}
use Rattle.windows.specs.Windows.{window}
use Rattle.span_list.specs.SpanList.{rows_put}
use Rattle.holder_memory.specs.Layout.{Holder, own, place_word, arrays, spot, work_at, numbers_put, slot_head_put, open_put}
use Rattle.holder_answers.specs.Arrays.{Preparation, preparation, reply, begun, draft_count, draft_in, slot_in, with_heads, ended, worded}
use Rattle.holder_answers.specs.Arrays.{filled, begin_of, add_of, drop_of, clear_of, draft_ended, prepared_of, prepare_of, commit_of, close_of}
use Rattle.holder_answers.specs.Arrays.{outline_prepared_by, outline_prepared, act_of, answer_of, drafted, draft_of}
use Rattle.holder_memory.specs.Words.{word_of, free_tag}

pub no-party : (h : Holder) (c : Call) → parties ≤ c.party → reply (Err Party) h ≡ answer_of h c
unfolding answer_of
no-party h c b = rw (le-leb parties c.party b)

pub none-begun : (h : Holder) (p : ℕ) → get_or h.heads (4 * p) 0 ≡ 0 → begun h p ≡ false
none-begun h p e = le-ltb 0 (get_or h.heads (4 * p) 0) (omega arith)

pub one-begun : (h : Holder) (p : ℕ) → (get_or h.heads (4 * p) 0 ≡ 0 → ⊥) → begun h p ≡ true
one-begun h p e = lt-ltb 0 (get_or h.heads (4 * p) 0) (⊎_elim (λ z. absurd (e z)) (λ q. q) (eq-zero-or-pos _))

-- ---- what is read and written

pub draft-sent : (h : Holder) (p n : ℕ) (w : List ℕ) → n ≡ draft_count h p → w ≡ take (min n longest) (window (longest * p) longest h.letters)
    → outline (at (get_or h.heads (4 * p + 1) 0) (get_or h.heads (4 * p + 2) 0)) w ≡ draft_in h p
unfolding draft_in
draft-sent h p n w e s = rw (s, e)

pub filled-by : (ls rows rows' : List ℕ) (numbers numbers' : List ℤ) (heads heads' : List ℕ) (t : ℕ) (a : Point) (es : List ℤ) (n : ℕ)
    (x : Spans) → rows' ≡ rows_put rows t x → numbers' ≡ numbers_put numbers t es → heads' ≡ slot_head_put heads t a n
    → arrays ls rows' numbers' heads' ≡ filled (arrays ls rows numbers heads) t a es n x
filled-by ls rows rows' numbers numbers' heads heads' t a es n x e f g = rw (e, f, g)

-- ---- the calls

module _ (h : Holder) (p : ℕ) (there : p < parties) where
  -- ---- add

  module _ (a : ℕ) where
    pub add_none : get_or h.heads (4 * p) 0 ≡ 0 → reply (Err NoDraft) h ≡ answer_of h (by p (Add a))
    unfolding answer_of act_of add_of
    add_none e = rw (lt-leb parties p there, none-begun h p e)

    module _ (one : get_or h.heads (4 * p) 0 ≡ 0 → ⊥) where
      pub add-full : longest ≤ draft_count h p → reply (Err DraftFull) h ≡ answer_of h (by p (Add a))
      unfolding answer_of act_of add_of
      add-full f = rw (lt-leb parties p there, one-begun h p one, le-leb longest (draft_count h p) f)

      module _ (room : draft_count h p < longest) where
        pub add-letter : 3 < a → reply (Err (Letter (draft_count h p))) h ≡ answer_of h (by p (Add a))
        unfolding answer_of act_of add_of
        add-letter l = rw (lt-leb parties p there, one-begun h p one, lt-leb longest (draft_count h p) room, lt-ltb 3 a l)

        pub add_done : (n : ℕ) → n ≡ draft_count h p → a ≤ 3
            → reply (Ok Done) (arrays (set h.letters (longest * p + n) a) h.rows h.numbers (set h.heads (4 * p + 3) (draft_count h p + 1)))
            ≡ answer_of h (by p (Add a))
        unfolding answer_of act_of add_of
        add_done n e l = rw (lt-leb parties p there, one-begun h p one, lt-leb longest (draft_count h p) room, le-ltb 3 a l, e)

  -- ---- begin, drop and clear

  pub begin-open : (s : Point) → (get_or h.heads (4 * p) 0 ≡ 0 → ⊥) → reply (Err DraftOpen) h ≡ answer_of h (by p (Begin s))
  unfolding answer_of act_of begin_of
  begin-open s e = rw (lt-leb parties p there, one-begun h p e)

  pub begin-start : (s : Point) → get_or h.heads (4 * p) 0 ≡ 0 → bad_start s ≡ true
      → reply (Err Start) h ≡ answer_of h (by p (Begin s))
  unfolding answer_of act_of begin_of
  begin-start s e b = rw (lt-leb parties p there, none-begun h p e, b)

  pub begin-done : (s : Point) → get_or h.heads (4 * p) 0 ≡ 0 → bad_start s ≡ false → (heads : List ℕ)
      → heads ≡ open_put h.heads (4 * p) s → reply (Ok Done) (with_heads h heads) ≡ answer_of h (by p (Begin s))
  unfolding answer_of act_of begin_of
  begin-done s e b heads put = rw (lt-leb parties p there, none-begun h p e, b, put)

  pub drop-none : get_or h.heads (4 * p) 0 ≡ 0 → reply (Err NoDraft) h ≡ answer_of h (by p Drop)
  unfolding answer_of act_of drop_of
  drop-none e = rw (lt-leb parties p there, none-begun h p e)

  pub drop-done : (get_or h.heads (4 * p) 0 ≡ 0 → ⊥) → reply (Ok Done) (ended h p) ≡ answer_of h (by p Drop)
  unfolding answer_of act_of drop_of
  drop-done e = rw (lt-leb parties p there, one-begun h p e)

  pub clear-no-place : (k : ℕ) → places ≤ k → reply (Err Place) h ≡ answer_of h (by p (Clear k))
  unfolding answer_of act_of clear_of
  clear-no-place k b = rw (lt-leb parties p there, le-leb places k b)

  pub clear-done : (k : ℕ) → k < places → reply (Ok Done) (worded h (spot p k) 0) ≡ answer_of h (by p (Clear k))
  unfolding answer_of act_of clear_of
  clear-done k m = rw (lt-leb parties p there, lt-leb places k m)

  -- ---- what is drafted

  pub draft-closed : get_or h.heads (4 * p) 0 ≡ 0 → Err NoDraft ≡ draft_of h p
  unfolding draft_of
  draft-closed e = rw (lt-leb parties p there, none-begun h p e)

  pub draft_open : (get_or h.heads (4 * p) 0 ≡ 0 → ⊥)
      → drafted (at (get_or h.heads (4 * p + 1) 0) (get_or h.heads (4 * p + 2) 0)) (get_or h.heads (4 * p + 3) 0) ≡ draft_of h p
  unfolding draft_of
  draft_open e = rw (lt-leb parties p there, one-begun h p e)

  -- ---- prepare

  module _ (k : ℕ) where
    pub prepare-no-place : places ≤ k → preparation (Err Place) 0 (ended h p) ≡ prepare_of h p k
    unfolding prepare_of prepared_of
    prepare-no-place b = rw (lt-leb parties p there, le-leb places k b)

    module _ (m : k < places) where
      pub prepare-none : get_or h.heads (4 * p) 0 ≡ 0 → preparation (Err NoDraft) 0 h ≡ prepare_of h p k
      unfolding prepare_of prepared_of
      prepare-none e = rw (lt-leb parties p there, lt-leb places k m, none-begun h p e)

      -- What is prepared of the draft's outline, with the draft ended
      pub prepare-draft : (get_or h.heads (4 * p) 0 ≡ 0 → ⊥) → (o : Outline) → o ≡ draft_in h p → (r : Reply) (w : ℕ) (n : Holder)
          → preparation r w n ≡ outline_prepared h p k o → preparation r w (ended n p) ≡ prepare_of h p k
      unfolding prepare_of prepared_of
      prepare-draft one o mine r w n e =
          ap (draft_ended p) e ∙ ap (λ (x : Outline). draft_ended p (outline_prepared h p k x)) mine
          ∙ sym (rw (lt-leb parties p there, lt-leb places k m, one-begun h p one) refl)

pub draft-unknown : (h : Holder) (p : ℕ) → parties ≤ p → Err Party ≡ draft_of h p
unfolding draft_of
draft-unknown h p b = rw (le-leb parties p b)

pub prepare-no-party : (h : Holder) (p k : ℕ) → parties ≤ p → preparation (Err Party) 0 h ≡ prepare_of h p k
unfolding prepare_of
prepare-no-party h p k b = rw (le-leb parties p b)

-- ---- an outline prepared

module _ (h : Holder) (p k : ℕ) (o : Outline) (j : Judged) (judged : j ≡ judged_of o) where
  prepares : outline_prepared h p k o ≡ outline_prepared_by h p k o j j.verdict
  prepares = rw judged refl

  pub outline-refused : (f : Refusal) → j.verdict ≡ Err f → preparation (Err f) 0 h ≡ outline_prepared h p k o
  unfolding outline_prepared_by
  outline-refused f v = sym (prepares ∙ rw v)

  pub outline-taken : (n : ℕ) (a : Point) → j.verdict ≡ taken_with n a → (u : ℕ) → u ≡ slot_in h p k → (same : Bool)
      → same ≡ has_edges (work_at h.rows h.numbers h.heads u) a (listed j.numbers n) → (r : Reply)
      → r ≡ cond same (Ok (Same n a)) (Ok (WasTaken n a)) → (t : ℕ) → t ≡ free_tag h.heads p → (w : ℕ) → w ≡ word_of t
      → (g : Holder) → g ≡ filled h (own * p + t) a j.numbers n (spans_of o) → preparation r w g ≡ outline_prepared h p k o
  unfolding outline_prepared_by
  outline-taken n a v u at-u same e r is t free w word g put = sym (prepares ∙ rw (v, is, e, put, word, free, at-u))

-- ---- commit

module _ (heads : List ℕ) (p k w : ℕ) where
  pub commit-no-party : parties ≤ p → heads ≡ commit_of heads p k w
  unfolding commit_of
  commit-no-party b = rw (le-leb parties p b)

  pub commit-no-place : p < parties → places ≤ k → heads ≡ commit_of heads p k w
  unfolding commit_of
  commit-no-place l b = rw (lt-leb parties p l, le-leb places k b)

  pub commit-none : p < parties → k < places → w ≡ 0 → heads ≡ commit_of heads p k w
  unfolding commit_of
  commit-none l m e = rw (lt-leb parties p l, lt-leb places k m, eq-eqb w 0 e)

  pub commit-done : p < parties → k < places → (w ≡ 0 → ⊥) → set heads (place_word (spot p k)) w ≡ commit_of heads p k w
  unfolding commit_of
  commit-done l m e = rw (lt-leb parties p l, lt-leb places k m, ne_eqb w 0 e)

-- Prepare and then commit
pub close-made : (h n : Holder) (p k : ℕ) (r : Reply) (w : ℕ) → preparation r w n ≡ prepare_of h p k → (heads : List ℕ)
    → heads ≡ commit_of n.heads p k w → reply r (with_heads n heads) ≡ answer_of h (by p (Close k))
unfolding answer_of act_of close_of prepare_of
close-made h n p k r w e heads c = go (leb parties p) refl
  where
    all : reply r (with_heads n heads) ≡ reply r (with_heads n (commit_of n.heads p k w))
    all = rw c

    go : (t : Bool) → leb parties p ≡ t → reply r (with_heads n heads) ≡ answer_of h (by p (Close k))
    go true b =
        let q : preparation r w n ≡ preparation (Err Party) 0 h = e ∙ rw b in
        let u : n.heads ≡ commit_of n.heads p k w = commit-no-party n.heads p k w (leb-true parties p b) in
        all ∙ rw (sym u, b) (ap (λ (x : Preparation). reply x.reply x.holder) q)
    go false b =
        let q : preparation r w n ≡ prepared_of h p k = e ∙ rw b in
        all ∙ rw (b) (ap (λ (x : Preparation). reply x.reply (with_heads x.holder (commit_of x.holder.heads p k x.word))) q)
