-- Each call on the arrays does to its party's draft and to the work at its place what `acted_of` says, and leaves all others.
use Rattle.std.specs.Prelude.{Result, Ok, Err}
use Prim.Native.Nat.{ℕ, ◌+◌, ◌*◌, ◌≤◌, ◌<◌}
use native.Mathlib.Omega.{arith}
use mathlib.Core.Path.{◌≡◌, refl, sym, ap, ◌∙◌}
use mathlib.Core.Bool.{Bool, true, false, cond, true≢false}
use mathlib.Core.Logic.{◌⊎◌, inl, inr, ⊎_elim}
use mathlib.Core.List.{List}
use mathlib.Core.Option.{Option, none, some}
use lib.ListN.{length, get_or, set, length-set}
use lib.Seq.{get_or-set_same, get_or-set_other, length-paste}
use lib.IntN.{ℤ}
use borrow.Author.Tests.{leb-false, lt-ltb}
use Rattle.chart.specs.Limits.{longest, most_numbers}
use Rattle.chart.specs.Outline.{Outline}
use Rattle.chart.specs.declared.Point.{Point}
use Rattle.chart.specs.declared.Refusal.{Refusal}
use Rattle.chart.specs.declared.Taken.{Taken}
use Rattle.judge.specs.Judged.{judged_of}
use Rattle.lattice.specs.Refusals.{bad_start}
use Rattle.spans.specs.Spans.{spans_of}
use Rattle.calls.specs.Calls.{parties, places, bad_party, bad_place}
use Rattle.holder_refinement.proofs.Works.{IsWork}
use Rattle.calls.specs.declared.Question.{Question}
use Rattle.calls.specs.declared.Action.{Action}
use Rattle.calls.specs.declared.Action.TheVariants.{Begin, Add, Drop, Clear, Close, Ask}
use Rattle.calls.specs.Replies.{Reply}
use Rattle.calls.specs.declared.Answer.TheVariants.{Done}
use Rattle.chart.specs.declared.Refusal.TheVariants.{Start, Letter, NoDraft, DraftOpen, DraftFull, Place}
use lib.Dec.{leb, ltb}
use Rattle.holder_records.specs.Draft.{Draft, Drafted, outline_of, end_of, begun_at, lengthened, begin_of as begins_draft, add_of as adds_draft}
use Rattle.holder_records.specs.Draft.{drop_of as drops_draft}
use Rattle.holder_records.specs.Work.{Work, removed, replaced}
use Rattle.holder_records.specs.Acts.{Acted, acted, redrafted, clear_of as clears_slot, closed_by as closed_slot, closed_reply, closed_work}
use Rattle.holder_records.specs.Acts.{close_of as closes_slot, ask_of, acted_of, kept_place, reached_by}
use Rattle.windows.specs.Windows.{window}
use Rattle.windows.proofs.Slots.{window-set, window-before, window-after, window-paste, order}
use Rattle.span_list.specs.SpanList.{SpansPut}
use Rattle.span_list.proofs.SlotLaws.{copies-put}
use Rattle.holder_memory.specs.Layout.{Holder, slots, place_word, arrays, spot, slot_head, work_at, start_put, open_put, head_numbers, Fits}
use Rattle.holder_memory.specs.Layout.{draft_head}
use Rattle.holder_answers.specs.Arrays.{Answered, reply, begun, draft_count, draft_in, work_in, ended as ended_in, worded, filled, begin_of, add_of}
use Rattle.holder_answers.specs.Arrays.{drop_of, clear_of, Preparation, draft_ended, outline_prepared_by, prepared_of, commit_of, committed}
use Rattle.holder_answers.specs.Arrays.{close_of, act_of}
use Rattle.holder_memory.specs.Words.{word_of, tag_of, slot_of, free_tag, free_slot}
use Rattle.holder_memory.proofs.Free.{tag_below, free-below, word-names, word-not-zero}
use Rattle.holder_refinement.proofs.Sizes.{judged-size, first-size, past-size}
use Rattle.holder_refinement.proofs.Keeps.{Beside, beside-next, keeps, filled_beside, ended-beside, worded-else, worded-here}
use Rattle.holder_answers.proofs.Cases.{commit-done}

-- The draft of party p
unfoldable pub draft_at : List ℕ → List ℕ → ℕ → Draft
draft_at letters heads p =
    record {
      begun = ltb 0 (get_or heads (draft_head p) 0);
      start = record { col = get_or heads (draft_head p + 1) 0; row = get_or heads (draft_head p + 2) 0 };
      letters = window (longest * p) longest letters;
      letter_count = get_or heads (draft_head p + 3) 0;
    }

abbrev pub draft_of : Holder → ℕ → Draft
draft_of h p = draft_at h.letters h.heads p

-- All but the four numbers from index a on are unchanged
abbrev pub OtherHeads : List ℕ → List ℕ → ℕ → Type 0
OtherHeads h h' a = (i : ℕ) → (i < a) ⊎ (a + 4 ≤ i) → get_or h' i 0 ≡ get_or h i 0

-- ---- what a write leaves: only the head at a, and one window, change

pub draft-else : (letters letters' heads heads' : List ℕ) (a j : ℕ) → OtherHeads heads heads' a → (4 * j + 4 ≤ a) ⊎ (a + 4 ≤ 4 * j)
    → window (longest * j) longest letters' ≡ window (longest * j) longest letters → draft_at letters' heads' j ≡ draft_at letters heads j
unfolding draft_at
draft-else letters letters' heads heads' a j e o w =
    ⊎_elim
    (λ b. rw (
      w,
      e (4 * j) (inl (omega arith)),
      e (4 * j + 1) (inl (omega arith)),
      e (4 * j + 2) (inl (omega arith)),
      e (4 * j + 3)
          (inl (omega arith)),
    ))
    (λ b. rw (
      w,
      e (4 * j) (inr (omega arith)),
      e (4 * j + 1) (inr (omega arith)),
      e (4 * j + 2) (inr (omega arith)),
      e (4 * j + 3)
          (inr (omega arith)),
    ))
    o

-- The numbers of the drafts are as they were
pub draft-below : (letters heads heads' : List ℕ) (q : ℕ) → q < parties → ((i : ℕ) → i < 8 → get_or heads' i 0 ≡ get_or heads i 0)
    → draft_at letters heads' q ≡ draft_at letters heads q
unfolding draft_at
draft-below letters heads heads' q l e =
    rw (e (4 * q) (omega arith), e (4 * q + 1) (omega arith), e (4 * q + 2) (omega arith), e (4 * q + 3) (omega arith))

pub set_else : (heads : List ℕ) (a i v : ℕ) → a ≤ i → i < a + 4 → OtherHeads heads (set heads i v) a
set_else heads a i v b c j o = get_or-set_other heads i j v 0 (λ q. ⊎_elim (λ m. omega arith) (λ m. omega arith) o)

-- ---- a call's turn

-- What the call leaves is what `acted_of` says of the draft of party p and the work at its place k; all else is as it was
pub record Turned (h : Holder) (p k : ℕ) (x : Answered) (y : Acted) : Type 0 where
  pub reply : x.reply ≡ y.reply
  pub fits : Fits x.holder
  pub draft : draft_of x.holder p ≡ y.draft
  pub work : (o : Option Outline) → IsWork y.work o → IsWork (work_in x.holder p k) o
  pub drafts : (q : ℕ) → q < parties → (q ≡ p → ⊥) → draft_of x.holder q ≡ draft_of h q
  pub works : (q j : ℕ) → q < parties → j < places → (spot q j ≡ spot p k → ⊥) → work_in x.holder q j ≡ work_in h q j

module _ (h : Holder) (fit : Fits h) (p : ℕ) (l : p < parties) where
  abbrev d : Draft
  d = draft_of h p

  either : (k : ℕ) (t : Bool) (x₁ x₂ : Answered) (y₁ y₂ : Acted) → (t ≡ true → Turned h p k x₁ y₁) → (t ≡ false → Turned h p k x₂ y₂)
      → Turned h p k (cond t x₁ x₂) (cond t y₁ y₂)
  either k true x₁ x₂ y₁ y₂ f g = f refl
  either k false x₁ x₂ y₁ y₂ f g = g refl

  module _ (k : ℕ) (m : k < places) where
    abbrev w : Work
    w = work_in h p k

    pub kept : (r : Reply) → Turned h p k (reply r h) (acted r d w)
    kept r = record { reply = refl; fits = fit; draft = refl; work = λ o i. i; drafts = λ q b e. refl; works = λ q j b i e. refl }

    -- The draft's head and letters are written
    drafted : (r : Reply) (letters heads : List ℕ) (n : Draft) → length letters ≡ length h.letters → length heads ≡ length h.heads
        → OtherHeads h.heads heads (4 * p)
        → ((q : ℕ) → (q ≡ p → ⊥) → window (longest * q) longest letters ≡ window (longest * q) longest h.letters)
        → draft_at letters heads p ≡ n → Turned h p k (reply r (arrays letters h.rows h.numbers heads)) (acted r n w)
    drafted r letters heads n ll lh else windows here =
        record {
          reply = refl;
          fits = record { letters = ll ∙ fit.letters; rows = fit.rows; numbers = fit.numbers; heads = lh ∙ fit.heads };
          draft = here;
          work = λ o i. rw (other p k l m) i;
          drafts =
              λ q b e. draft-else _ _ _ _ (4 * p) q else (⊎_elim (λ o. inl (omega arith)) (λ o. inr (omega arith)) (order q p e))
              (windows q e);
          works = λ q j b i e. other q j b i;
        }
      where
        beside : Beside h (arrays letters h.rows h.numbers heads) (free_slot h.heads p)
        beside = record { spans = λ u d. refl; numbers = λ u d. refl; heads = λ i b o. else i (inr (omega arith)) }

        other : (q j : ℕ) → q < parties → j < places → work_in (arrays letters h.rows h.numbers heads) q j ≡ work_in h q j
        other = keeps h _ p l beside

    ended_here : draft_at h.letters (set h.heads (4 * p) 0) p ≡ end_of d
    unfolding draft_at end_of
    ended_here =
        rw (
          get_or-set_same h.heads (4 * p) 0 0 (omega (arith, fit.heads)),
          get_or-set_other h.heads (4 * p) (4 * p + 1) 0 0 (λ q. omega arith),
          get_or-set_other h.heads (4 * p) (4 * p + 2) 0 0 (λ q. omega arith),
          get_or-set_other h.heads (4 * p) (4 * p + 3) 0 0 (λ q. omega arith),
        )

    ended : (r : Reply)
        → Turned h p k (reply r (arrays h.letters h.rows h.numbers (set h.heads (4 * p) 0))) (acted r (end_of d) w)
    ended r =
        drafted r _ _ _ refl (simp length-set) (set_else h.heads (4 * p) (4 * p) 0 (omega arith) (omega arith)) (λ q e. refl) ended_here

    -- ---- add

    more-here : draft_count h p < longest → (a : ℕ)
        → draft_at (set h.letters (longest * p + draft_count h p) a) (set h.heads (4 * p + 3) (draft_count h p + 1)) p ≡ lengthened d a
    unfolding draft_at lengthened
    more-here room a =
        rw (
          get_or-set_same h.heads (4 * p + 3) (draft_count h p + 1) 0 (omega (arith, fit.heads)),
          get_or-set_other h.heads (4 * p + 3) (4 * p) (draft_count h p + 1) 0 (λ q. omega arith),
          get_or-set_other h.heads (4 * p + 3) (4 * p + 1) (draft_count h p + 1) 0 (λ q. omega arith),
          get_or-set_other h.heads (4 * p + 3) (4 * p + 2) (draft_count h p + 1) 0 (λ q. omega arith),
          window-set (longest * p) longest (draft_count h p) h.letters a room,
        )

    letters-else : (n a q : ℕ) → n < longest → (q ≡ p → ⊥)
        → window (longest * q) longest (set h.letters (longest * p + n) a) ≡ window (longest * q) longest h.letters
    letters-else n a q b e =
        ⊎_elim (λ m. window-after (longest * q) longest (longest * p + n) h.letters a (omega arith))
        (λ m. window-before (longest * q) longest (longest * p + n) h.letters a (omega arith)) (order q p e)

    red : (t : Bool) (x₁ x₂ : Answered) (y₁ y₂ : Drafted) → (t ≡ true → Turned h p k x₁ (redrafted y₁ w))
        → (t ≡ false → Turned h p k x₂ (redrafted y₂ w)) → Turned h p k (cond t x₁ x₂) (redrafted (cond t y₁ y₂) w)
    red true x₁ x₂ y₁ y₂ f g = f refl
    red false x₁ x₂ y₁ y₂ f g = g refl

    abbrev on : Reply → Draft → Drafted
    on r n = record { reply = r; draft = n }

    adds : (a : ℕ) → Turned h p k (add_of h p a) (redrafted (adds_draft d a) w)
    unfolding add_of adds_draft draft_at
    adds a =
        red (begun h p) _ _ _ (on (Err NoDraft) d)
        (λ e. red (leb longest (draft_count h p)) _ _ (on (Err DraftFull) d) _ (λ f. kept _)
        (λ f. red (ltb 3 a) _ _ (on (Err (Letter (draft_count h p))) d) (on (Ok Done) (lengthened d a)) (λ g. kept _)
        (λ g. let room : draft_count h p < longest = leb-false longest (draft_count h p) f in
        drafted (Ok Done) (set h.letters (longest * p + draft_count h p) a) (set h.heads (4 * p + 3) (draft_count h p + 1)) (lengthened d a)
        (simp length-set) (simp length-set)
        (set_else h.heads (4 * p) (4 * p + 3) (draft_count h p + 1) (omega arith) (omega arith)) (λ q e. letters-else (draft_count h p) a q room e)
        (more-here room a))))
        (λ e. kept _)

    drops : Turned h p k (drop_of h p) (redrafted (drops_draft d) w)
    unfolding drop_of drops_draft draft_at
    drops = red (begun h p) _ _ (on (Ok Done) (end_of d)) (on (Err NoDraft) d) (λ e. ended _) (λ e. kept _)

    -- ---- begin

    opened-here : (s : Point) → draft_at h.letters (open_put h.heads (4 * p) s) p ≡ begun_at d s
    unfolding draft_at begun_at
    opened-here s =
        let s₁ : List ℕ = set h.heads (4 * p + 1) s.col in
        let s₂ : List ℕ = set s₁ (4 * p + 2) s.row in
        let s₃ : List ℕ = set s₂ (4 * p + 3) 0 in
        rw (
          get_or-set_same s₃ (4 * p) 1 0 (simp length-set (omega (arith, fit.heads))),
          get_or-set_other s₃ (4 * p) (4 * p + 1) 1 0 (λ q. omega arith),
          get_or-set_other s₃ (4 * p) (4 * p + 2) 1 0 (λ q. omega arith),
          get_or-set_other s₃ (4 * p) (4 * p + 3) 1 0 (λ q. omega arith),
          get_or-set_same s₂ (4 * p + 3) 0 0 (simp length-set (omega (arith, fit.heads))),
          get_or-set_other s₂ (4 * p + 3) (4 * p + 1) 0 0 (λ q. omega arith),
          get_or-set_other s₂ (4 * p + 3) (4 * p + 2) 0 0 (λ q. omega arith),
          get_or-set_same s₁ (4 * p + 2) s.row 0 (simp length-set (omega (arith, fit.heads))),
          get_or-set_other s₁ (4 * p + 2) (4 * p + 1) s.row 0 (λ q. omega arith),
          get_or-set_same h.heads (4 * p + 1) s.col 0 (omega (arith, fit.heads)),
        )

    opened-else : (s : Point) → OtherHeads h.heads (open_put h.heads (4 * p) s) (4 * p)
    opened-else s i o =
        set_else (start_put h.heads (4 * p) s) (4 * p) (4 * p) 1 (omega arith) (omega arith) i o
        ∙ set_else (set (set h.heads (4 * p + 1) s.col) (4 * p + 2) s.row) (4 * p) (4 * p + 3) 0 (omega arith) (omega arith) i o
        ∙ set_else (set h.heads (4 * p + 1) s.col) (4 * p) (4 * p + 2) s.row (omega arith) (omega arith) i o
        ∙ set_else h.heads (4 * p) (4 * p + 1) s.col (omega arith) (omega arith) i o

    begins : (s : Point) → Turned h p k (begin_of h p s) (redrafted (begins_draft d s) w)
    unfolding begin_of begins_draft draft_at
    begins s =
        red (begun h p) _ _ (on (Err DraftOpen) d) _ (λ e. kept _)
        (λ e. red (bad_start s) _ _ (on (Err Start) d) (on (Ok Done) (begun_at d s)) (λ b. kept _)
        (λ b. drafted (Ok Done) h.letters (open_put h.heads (4 * p) s) (begun_at d s) refl (simp length-set)
        (opened-else s) (λ q e. refl) (opened-here s)))

    -- ---- clear

    none_left : (o : Option Outline) → IsWork (removed w) o → IsWork (work_in (worded h (spot p k) 0) p k) o
    unfolding removed work_at slot_of tag_of
    none_left none i = ap (λ (x : Work). x.taken) (worded-here h (spot p k) 0 (omega arith) p k refl fit.heads) ∙ refl
    none_left (some o) i = absurd (true≢false (sym i.taken))

    pub cleared : Turned h p k (reply (Ok Done) (worded h (spot p k) 0)) (acted (Ok Done) d (removed w))
    cleared =
        record {
          reply = refl;
          fits = record { letters = fit.letters; rows = fit.rows; numbers = fit.numbers; heads = simp length-set fit.heads };
          draft = other p l;
          work = none_left;
          drafts = λ q b e. other q b;
          works = λ q j b i e. worded-else h (spot p k) 0 (omega arith) q j e;
        }
      where
        other : (q : ℕ) → q < parties → draft_at h.letters (set h.heads (place_word (spot p k)) 0) q ≡ draft_at h.letters h.heads q
        other q b = draft-below _ _ _ q b (λ i c. get_or-set_other h.heads (place_word (spot p k)) i 0 0 (λ q. omega arith))

-- ---- close

pub commit-zero : (heads : List ℕ) (p k : ℕ) → commit_of heads p k 0 ≡ heads
unfolding commit_of
commit-zero heads p k = go (bad_party p) (bad_place k)
  where
    go : (t u : Bool) → cond t heads (cond u heads heads) ≡ heads
    go true u = refl
    go false true = refl
    go false false = refl

module _ (h : Holder) (fit : Fits h) (p : ℕ) (l : p < parties) where
  mine : draft_in h p ≡ outline_of (draft_of h p)
  unfolding draft_in outline_of draft_at
  mine = refl

  module _ (k : ℕ) (m : k < places) where
    module _ (a : Point) (n : ℕ) (o : Outline) (es : List ℤ) (all : length es ≡ most_numbers) where
      abbrev t : ℕ
      t = free_slot h.heads p

      abbrev word : ℕ
      word = word_of (free_tag h.heads p)

      -- Filled, and the draft ended
      abbrev h₁ : Holder
      h₁ = filled h t a es n (spans_of o)

      abbrev h₂ : Holder
      h₂ = ended_in h₁ p

      below : t < slots
      below = free-below h.heads p l

      size₁ : length h₁.heads ≡ head_numbers
      size₁ = simp length-set fit.heads

      size₂ : length h₂.heads ≡ head_numbers
      size₂ = simp length-set fit.heads

      spans-put : SpansPut h.rows h₁.rows t (spans_of o)
      spans-put = copies-put h.rows t (spans_of o) (omega (arith, fit.rows, below)) (first-size o) (past-size o) _ refl _ refl

      room : most_numbers * t + most_numbers ≤ length h.numbers
      room = omega (arith, fit.numbers, below)

      filled-here : work_at h₁.rows h₁.numbers h₁.heads t ≡ replaced a es n (spans_of o)
      unfolding work_at replaced
      filled-here =
          let s₁ : List ℕ = set h.heads (slot_head t) a.col in
          let s₂ : List ℕ = set s₁ (slot_head t + 1) a.row in
          rw (
            spans-put.here,
            window-paste h.numbers (most_numbers * t) most_numbers es room all,
            get_or-set_same s₂ (slot_head t + 2) n 0 (simp length-set (omega (arith, fit.heads, below))),
            get_or-set_other s₂ (slot_head t + 2) (slot_head t + 1) n 0 (λ q. omega arith),
            get_or-set_same s₁ (slot_head t + 1) a.row 0 (simp length-set (omega (arith, fit.heads, below))),
            get_or-set_other s₂ (slot_head t + 2) (slot_head t) n 0 (λ q. omega arith),
            get_or-set_other s₁ (slot_head t + 1) (slot_head t) a.row 0 (λ q. omega arith),
            get_or-set_same h.heads (slot_head t) a.col 0 (omega (arith, fit.heads, below)),
            lt-ltb t slots below,
          )

      ended-slot : (u : ℕ) → work_at h₂.rows h₂.numbers h₂.heads u ≡ work_at h₁.rows h₁.numbers h₁.heads u
      unfolding work_at
      ended-slot u =
          rw (
            get_or-set_other h₁.heads (4 * p) (slot_head u) 0 0 (λ q. omega arith),
            get_or-set_other h₁.heads (4 * p) (slot_head u + 1) 0 0 (λ q. omega arith),
            get_or-set_other h₁.heads (4 * p) (slot_head u + 2) 0 0 (λ q. omega arith),
          )

      work-here : work_in (worded h₂ (spot p k) word) p k ≡ replaced a es n (spans_of o)
      work-here =
          worded-here h₂ (spot p k) word (omega arith) p k refl size₂
          ∙ ap (λ (u : ℕ). work_at h₂.rows h₂.numbers h₂.heads u) (word-names p (free_tag h.heads p) (tag_below h.heads p))
          ∙ ended-slot t ∙ filled-here

      heads-filled : (i : ℕ) → i < 8 → get_or h₁.heads i 0 ≡ get_or h.heads i 0
      heads-filled i b =
          get_or-set_other (set (set h.heads (slot_head t) a.col) (slot_head t + 1) a.row) (slot_head t + 2) i n 0 (λ q. omega arith)
          ∙ get_or-set_other (set h.heads (slot_head t) a.col) (slot_head t + 1) i a.row 0 (λ q. omega arith)
          ∙ get_or-set_other h.heads (slot_head t) i a.col 0 (λ q. omega arith)

      fit₁ : Fits h₁
      fit₁ =
          record {
            letters = fit.letters;
            rows = spans-put.size ∙ fit.rows;
            numbers = length-paste h.numbers (most_numbers * t) es most_numbers room (omega arith) ∙ fit.numbers;
            heads = size₁;
          }

      worded-draft : (q : ℕ) → q < parties → draft_of (worded h₂ (spot p k) word) q ≡ draft_of h₂ q
      worded-draft q b = draft-below _ _ _ q b (λ i c. get_or-set_other h₂.heads (place_word (spot p k)) i word 0 (λ z. omega arith))

      filled-draft : (q : ℕ) → q < parties → draft_of h₁ q ≡ draft_of h q
      filled-draft q b = draft-below _ _ _ q b heads-filled

      -- Filled alone, and then named by the place: the draft stays
      pub brought : (r : Reply) → Turned h p k (reply r h₁) (acted r (draft_of h p) (work_in h p k))
      brought r =
          record {
            reply = refl;
            fits = fit₁;
            draft = filled-draft p l;
            work = λ x i. rw (keeps h h₁ p l (filled_beside h fit p l a es n o all) p k l m) i;
            drafts = λ q b d. filled-draft q b;
            works = λ q j b i d. keeps h h₁ p l (filled_beside h fit p l a es n o all) q j b i;
          }

      pub restored : (r : Reply) → Turned h p k (reply r (worded h₁ (spot p k) word)) (acted r (draft_of h p) (replaced a es n (spans_of o)))
      restored r =
          record {
            reply = refl;
            fits = record { letters = fit.letters; rows = fit₁.rows; numbers = fit₁.numbers; heads = simp length-set fit.heads };
            draft = named p l;
            work = λ x i. rw here i;
            drafts = λ q b d. named q b;
            works = λ q j b i d.
                worded-else h₁ (spot p k) word (omega arith) q j d ∙ keeps h h₁ p l (filled_beside h fit p l a es n o all) q j b i;
          }
        where
          here : work_in (worded h₁ (spot p k) word) p k ≡ replaced a es n (spans_of o)
          here =
              worded-here h₁ (spot p k) word (omega arith) p k refl size₁
              ∙ ap (λ (u : ℕ). work_at h₁.rows h₁.numbers h₁.heads u) (word-names p (free_tag h.heads p) (tag_below h.heads p))
              ∙ filled-here

          named : (q : ℕ) → q < parties → draft_of (worded h₁ (spot p k) word) q ≡ draft_of h q
          named q b =
              draft-below _ _ _ q b (λ i c. get_or-set_other h₁.heads (place_word (spot p k)) i word 0 (λ z. omega arith))
              ∙ filled-draft q b

      taken : (r : Reply) → Turned h p k (reply r (worded h₂ (spot p k) word)) (acted r (end_of (draft_of h p)) (replaced a es n (spans_of o)))
      taken r =
          let e : Turned h₁ p k (reply r h₂) (acted r (end_of (draft_of h₁ p)) (work_in h₁ p k)) = ended h₁ fit₁ p l k m r in
          record {
            reply = refl;
            fits = record { letters = fit.letters; rows = fit₁.rows; numbers = fit₁.numbers; heads = simp length-set fit.heads };
            draft = worded-draft p l ∙ e.draft ∙ ap end_of (filled-draft p l);
            work = λ x i. rw work-here i;
            drafts = λ q b d. worded-draft q b ∙ e.drafts q b d ∙ filled-draft q b;
            works = λ q j b i d.
                worded-else h₂ (spot p k) word (omega arith) q j d
                ∙ keeps h h₂ p l (beside-next h h₁ h₂ t (filled_beside h fit p l a es n o all) (ended-beside h₁ t p l)) q j b i;
          }

    closed : (v : Result Taken Refusal) → (judged_of (draft_in h p)).verdict ≡ v
        → Turned h p k (committed p k (draft_ended p (outline_prepared_by h p k (draft_in h p) (judged_of (draft_in h p)) v)))
        (closed_slot (draft_of h p) (work_in h p k) (judged_of (draft_in h p)))
    unfolding outline_prepared_by closed_slot closed_reply closed_work
    closed (Err f) e = rw (e, commit-zero (set h.heads (4 * p) 0) p k) (ended h fit p l k m (Err f))
    closed (Ok t) e =
        let o : Outline = draft_in h p in
        let es : List ℤ = (judged_of o).numbers in
        let all : length es ≡ most_numbers = judged-size o in
        rw (
          e,
          sym mine,
          sym (commit-done (h₂ t.anchor t.edges o es all).heads p k (word_of (free_tag h.heads p)) l m
              (word-not-zero (free_tag h.heads p) (tag_below h.heads p))),
        )
        (taken t.anchor t.edges o es all _)

  either-closed : (k : ℕ) (u : Bool) (x₁ x₂ : Preparation) (y₁ y₂ : Acted) → (u ≡ true → Turned h p k (committed p k x₁) y₁)
      → (u ≡ false → Turned h p k (committed p k x₂) y₂) → Turned h p k (committed p k (cond u x₁ x₂)) (cond u y₁ y₂)
  either-closed k true x₁ x₂ y₁ y₂ f g = f refl
  either-closed k false x₁ x₂ y₁ y₂ f g = g refl

  closes : (k : ℕ) → Turned h p (kept_place k) (close_of h p k) (closes_slot (draft_of h p) (work_in h p (kept_place k)) k)
  unfolding kept_place close_of prepared_of closes_slot draft_at
  closes k = go (bad_place k) refl
    where
      go : (t : Bool) → bad_place k ≡ t
          → Turned h p (kept_place k) (close_of h p k) (closes_slot (draft_of h p) (work_in h p (kept_place k)) k)
      go true b = rw (b, commit-zero (set h.heads (4 * p) 0) p k) (ended h fit p l 0 (omega arith) (Err Place))
      go false b =
          let m : k < places = leb-false places k b in
          rw (b, sym mine) (either-closed k (begun h p) _ _ _ _ (λ e. closed k m _ refl)
          (λ e. rw (commit-zero h.heads p k) (kept h fit p l k m (Err NoDraft))))

  clears : (k : ℕ) → Turned h p (kept_place k) (clear_of h p k) (clears_slot (draft_of h p) (work_in h p (kept_place k)) k)
  unfolding kept_place clear_of clears_slot
  clears k = go (bad_place k) refl
    where
      go : (t : Bool) → bad_place k ≡ t
          → Turned h p (kept_place k) (clear_of h p k) (clears_slot (draft_of h p) (work_in h p (kept_place k)) k)
      go true b = rw b (kept h fit p l 0 (omega arith) (Err Place))
      go false b = rw b (cleared h fit p l k (leb-false places k b))

  asks : (k : ℕ) (q : Question) → Turned h p (kept_place k) (act_of h p (Ask k q)) (ask_of (draft_of h p) (work_in h p (kept_place k)) k q)
  unfolding kept_place act_of ask_of
  asks k q = go (bad_place k) refl
    where
      go : (t : Bool) → bad_place k ≡ t
          → Turned h p (kept_place k) (act_of h p (Ask k q)) (ask_of (draft_of h p) (work_in h p (kept_place k)) k q)
      go true b = rw b (kept h fit p l 0 (omega arith) (Err Place))
      go false b = rw b (kept h fit p l k (leb-false places k b) _)

  pub turns : (a : Action) → Turned h p (reached_by a) (act_of h p a) (acted_of (draft_of h p) (work_in h p (reached_by a)) a)
  unfolding act_of acted_of reached_by
  turns (Begin s) = begins h fit p l 0 (omega arith) s
  turns (Add a) = adds h fit p l 0 (omega arith) a
  turns Drop = drops h fit p l 0 (omega arith)
  turns (Clear k) = clears k
  turns (Close k) = closes k
  turns (Ask k q) = asks k q
