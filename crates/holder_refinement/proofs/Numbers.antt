-- A call of one party writes only into that party's parts of the arrays: every other number of the memory stays, unnamed slots included.
use Rattle.std.specs.Prelude.{Result, Ok, Err}
use Prim.Native.Nat.{ℕ, ◌+◌, ◌*◌, ◌≤◌, ◌<◌}
use native.Mathlib.Nat.{add-zero}
use native.Mathlib.Omega.{arith}
use mathlib.Core.Path.{◌≡◌, refl, sym, ap, ◌∙◌}
use mathlib.Core.Bool.{Bool, true, false, cond}
use mathlib.Core.Logic.{◌⊎◌, inl, inr, ⊎_elim}
use mathlib.Core.List.{List}
use lib.ListN.{length, drop, get_or, set}
use lib.Seq.{paste, length-paste, get_or-take, get_or-drop, get_or-set_other}
use lib.IntN.{ℤ, pos}
use lib.Dec.{leb, ltb, eqb}
use borrow.Author.Tests.{leb-false}
use Rattle.chart.specs.Limits.{side, longest, most_numbers}
use Rattle.chart.specs.Outline.{Outline}
use Rattle.chart.specs.declared.Point.{Point}
use Rattle.chart.specs.declared.Refusal.{Refusal}
use Rattle.chart.specs.declared.Taken.{Taken}
use Rattle.lattice.specs.Refusals.{bad_start}
use Rattle.judge.specs.Judged.{judged_of}
use Rattle.spans.specs.Spans.{spans_of}
use Rattle.calls.specs.Calls.{parties, places, bad_party, bad_place, by}
use Rattle.calls.specs.declared.Action.{Action}
use Rattle.calls.specs.declared.Action.TheVariants.{Begin, Add, Drop, Clear, Close, Ask}
use Rattle.windows.specs.Windows.{window}
use Rattle.windows.proofs.Slots.{window-paste-before, window-paste-after}
use Rattle.span_list.specs.SpanList.{slot_bytes}
use Rattle.holder_memory.specs.Layout.{Holder, own, spot, place_word, slot_head, slot_head_put, Fits, draft_head, slot_numbers}
use Rattle.holder_memory.specs.Words.{free_slot}
use Rattle.holder_memory.proofs.Free.{tag_below}
use Rattle.holder_answers.specs.Arrays.{Answered, Preparation, begun, draft_count, with_heads, ended, worded, filled, lengthened, opened, begin_of}
use Rattle.holder_answers.specs.Arrays.{add_of, drop_of, clear_of, draft_ended, outline_prepared_by, prepared_of, commit_of, close_of, act_of}
use Rattle.holder_answers.specs.Arrays.{answer_of}
use Rattle.holder_refinement.proofs.Sizes.{judged-size, first-size, past-size}
use Rattle.holder_refinement.proofs.Apart.{HeadOf, NoHeadOf, differ}

-- ---- what stays

abbrev pub Outside : ℕ → ℕ → ℕ → Type 0
Outside from past i = (i < from) ⊎ (past ≤ i)

-- All letters, rows, edges and heads that do not belong to party p
pub record OthersKept (h h' : Holder) (p : ℕ) : Type 0 where
  pub letters : (i : ℕ) → Outside (longest * p) (longest * p + longest) i → get_or h'.letters i 0 ≡ get_or h.letters i 0
  pub rows : (i : ℕ) → Outside (slot_bytes * (own * p)) (slot_bytes * (own * p + own)) i → get_or h'.rows i 0 ≡ get_or h.rows i 0
  pub numbers : (i : ℕ) → Outside (most_numbers * (own * p)) (most_numbers * (own * p + own)) i
      → get_or h'.numbers i (pos 0) ≡ get_or h.numbers i (pos 0)
  pub heads : (i : ℕ) → NoHeadOf p i → get_or h'.heads i 0 ≡ get_or h.heads i 0

pub kept_self : (h : Holder) (p : ℕ) → OthersKept h h p
kept_self h p = record { letters = λ i o. refl; rows = λ i o. refl; numbers = λ i o. refl; heads = λ i o. refl }

pub kept_next : (h h₁ h₂ : Holder) (p : ℕ) → OthersKept h h₁ p → OthersKept h₁ h₂ p → OthersKept h h₂ p
kept_next h h₁ h₂ p a b =
    record {
      letters = λ i o. b.letters i o ∙ a.letters i o;
      rows = λ i o. b.rows i o ∙ a.rows i o;
      numbers = λ i o. b.numbers i o ∙ a.numbers i o;
      heads = λ i o. b.heads i o ∙ a.heads i o;
    }

-- ---- writes

-- One number of the heads
head-kept : (h : Holder) (p i v : ℕ) → HeadOf p i → OthersKept h (with_heads h (set h.heads i v)) p
head-kept h p i v w =
    record {
      letters = λ j o. refl;
      rows = λ j o. refl;
      numbers = λ j o. refl;
      heads = λ j o. get_or-set_other h.heads i j v 0 (λ e. differ p i j w o (sym e));
    }

module _ {A : Type 0} (z : A) where
  one_of : (i : ℕ) (l : List A) → get_or (window i 1 l) 0 z ≡ get_or l i z
  one_of i l = get_or-take 1 (drop i l) 0 z (omega arith) ∙ get_or-drop i l 0 z ∙ ap (λ (k : ℕ). get_or l k z) (add-zero i)

  -- A copy leaves the numbers beside it
  paste-else : (d : List A) (at n : ℕ) (s : List A) → at + n ≤ length d → length s ≡ n → (i : ℕ) → Outside at (at + n) i
      → get_or (paste d at s n) i z ≡ get_or d i z
  paste-else d at n s room all i o =
      sym (one_of i (paste d at s n))
      ∙ ap (λ (l : List A). get_or l 0 z)
      (⊎_elim (λ b. window-paste-before d at n s room all i 1 (omega arith)) (λ b. window-paste-after d at n s room all i 1 b) o)
      ∙ one_of i d

module _ (h : Holder) (p : ℕ) (l : p < parties) where
  -- ---- drafts

  opened-kept : (s : Point) → OthersKept h (opened h p s) p
  opened-kept s =
      let h₁ : Holder = with_heads h (set h.heads (draft_head p + 1) s.col) in
      let h₂ : Holder = with_heads h (set h₁.heads (draft_head p + 2) s.row) in
      let h₃ : Holder = with_heads h (set h₂.heads (draft_head p + 3) 0) in
      kept_next h h₃ _ p
      (kept_next h h₂ h₃ p
      (kept_next h h₁ h₂ p (head-kept h p (draft_head p + 1) s.col (inl (omega arith, omega arith)))
      (head-kept h₁ p (draft_head p + 2) s.row (inl (omega arith, omega arith))))
      (head-kept h₂ p (draft_head p + 3) 0 (inl (omega arith, omega arith))))
      (head-kept h₃ p (draft_head p) 1 (inl (omega arith, omega arith)))

  ended-kept : OthersKept h (ended h p) p
  ended-kept = head-kept h p (draft_head p) 0 (inl (omega arith, omega arith))

  more-kept : (a : ℕ) → draft_count h p < longest → OthersKept h (lengthened h p a) p
  more-kept a room =
      record {
        letters = λ i o.
            get_or-set_other h.letters (longest * p + draft_count h p) i a 0 (λ e. ⊎_elim (λ b. omega arith) (λ b. omega arith) o);
        rows = λ i o. refl;
        numbers = λ i o. refl;
        heads = (head-kept h p (draft_head p + 3) (draft_count h p + 1) (inl (omega arith, omega arith))).heads;
      }

  -- ---- places

  pub worded-kept : (k w : ℕ) → k < places → OthersKept h (worded h (spot p k) w) p
  worded-kept k w m = head-kept h p (place_word (spot p k)) w (inr (inl (omega arith, omega arith)))

  pub commit-kept : (k w : ℕ) → OthersKept h (with_heads h (commit_of h.heads p k w)) p
  unfolding commit_of
  commit-kept k w = go (bad_party p) (bad_place k) (eqb w 0) refl
    where
      go : (t u v : Bool) → bad_place k ≡ u
          → OthersKept h
          (with_heads h (cond t h.heads (cond u h.heads (cond v h.heads (set h.heads (place_word (spot p k)) w))))) p
      go true u v e = kept_self h p
      go false true v e = kept_self h p
      go false false true e = kept_self h p
      go false false false e = worded-kept k w (leb-false places k e)

-- ---- a slot

module _ (h : Holder) (fit : Fits h) (p : ℕ) (l : p < parties) where
  abbrev t : ℕ
  t = free_slot h.heads p

  slot-head : (i : ℕ) → slot_head t ≤ i → i < slot_head t + slot_numbers → HeadOf p i
  slot-head i b c = inr (inr (omega (arith, tag_below h.heads p), omega (arith, tag_below h.heads p)))

  slot_kept : (a : Point) (n : ℕ) → OthersKept h (with_heads h (slot_head_put h.heads t a n)) p
  slot_kept a n =
      let h₁ : Holder = with_heads h (set h.heads (slot_head t) a.col) in
      let h₂ : Holder = with_heads h (set h₁.heads (slot_head t + 1) a.row) in
      kept_next h h₂ _ p
      (kept_next h h₁ h₂ p (head-kept h p (slot_head t) a.col (slot-head _ (omega arith) (omega arith)))
      (head-kept h₁ p (slot_head t + 1) a.row (slot-head _ (omega arith) (omega arith))))
      (head-kept h₂ p (slot_head t + 2) n (slot-head _ (omega arith) (omega arith)))

  pub filled-kept : (a : Point) (es : List ℤ) (n : ℕ) (o : Outline) → length es ≡ most_numbers
      → OthersKept h (filled h t a es n (spans_of o)) p
  filled-kept a es n o all =
      record {
        letters = λ i x. refl;
        rows = λ i x.
            paste-else 0 first (slot_bytes * t + side) side (spans_of o).past (omega (arith, size, room)) (past-size o) i (late i x)
            ∙ paste-else 0 h.rows (slot_bytes * t) side (spans_of o).first (omega (arith, room)) (first-size o) i (early i x);
        numbers = λ i x.
            paste-else (pos 0) h.numbers (most_numbers * t) most_numbers es (omega (arith, fit.numbers, tag_below h.heads p)) all i
            (⊎_elim (λ b. inl (omega arith)) (λ b. inr (omega (arith, tag_below h.heads p))) x);
        heads = (slot_kept a n).heads;
      }
    where
      first : List ℕ
      first = paste h.rows (slot_bytes * t) (spans_of o).first side

      room : slot_bytes * t + slot_bytes ≤ length h.rows
      room = omega (arith, fit.rows, tag_below h.heads p)

      size : length first ≡ length h.rows
      size = length-paste h.rows (slot_bytes * t) (spans_of o).first side (omega (arith, room)) (omega (arith, first-size o))

      early : (i : ℕ) → Outside (slot_bytes * (own * p)) (slot_bytes * (own * p + own)) i → Outside (slot_bytes * t) (slot_bytes * t + side) i
      early i x = ⊎_elim (λ b. inl (omega arith)) (λ b. inr (omega (arith, tag_below h.heads p))) x

      late : (i : ℕ) → Outside (slot_bytes * (own * p)) (slot_bytes * (own * p + own)) i
          → Outside (slot_bytes * t + side) (slot_bytes * t + side + side) i
      late i x = ⊎_elim (λ b. inl (omega arith)) (λ b. inr (omega (arith, tag_below h.heads p))) x

  -- ---- prepare

  either : (u : Bool) (x y : Preparation) → OthersKept h x.holder p → OthersKept h y.holder p → OthersKept h (cond u x y).holder p
  either true x y a b = a
  either false x y a b = b

  by-verdict : (k : ℕ) (o : Outline) (v : Result Taken Refusal)
      → OthersKept h (draft_ended p (outline_prepared_by h p k o (judged_of o) v)).holder p
  unfolding outline_prepared_by
  by-verdict k o (Err f) = ended-kept h p l
  by-verdict k o (Ok u) =
      kept_next h (filled h t u.anchor (judged_of o).numbers u.edges (spans_of o)) _ p
      (filled-kept u.anchor (judged_of o).numbers u.edges o (judged-size o)) (ended-kept _ p l)

  prepared-kept : (k : ℕ) → OthersKept h (prepared_of h p k).holder p
  unfolding prepared_of
  prepared-kept k = either (bad_place k) _ _ (ended-kept h p l) (either (begun h p) _ _ (by-verdict k _ _) (kept_self h p))

  -- ---- every call

  choose : (u : Bool) (x y : Answered) → (u ≡ true → OthersKept h x.holder p) → (u ≡ false → OthersKept h y.holder p)
      → OthersKept h (cond u x y).holder p
  choose true x y f g = f refl
  choose false x y f g = g refl

  act-kept : (a : Action) → OthersKept h (act_of h p a).holder p
  unfolding act_of begin_of add_of drop_of clear_of close_of
  act-kept (Begin s) =
      choose (begun h p) _ _ (λ e. kept_self h p) (λ e. choose (bad_start s) _ _ (λ f. kept_self h p) (λ f. opened-kept h p l s))
  act-kept (Add a) =
      choose (begun h p) _ _
      (λ e. choose (leb longest (draft_count h p)) _ _ (λ f. kept_self h p)
      (λ f. choose (ltb 3 a) _ _ (λ g. kept_self h p) (λ g. more-kept h p l a (leb-false longest (draft_count h p) f))))
      (λ e. kept_self h p)
  act-kept Drop = choose (begun h p) _ _ (λ e. ended-kept h p l) (λ e. kept_self h p)
  act-kept (Clear k) = choose (bad_place k) _ _ (λ e. kept_self h p) (λ e. worded-kept h p l k 0 (leb-false places k e))
  act-kept (Close k) =
      kept_next h (prepared_of h p k).holder _ p (prepared-kept k) (commit-kept (prepared_of h p k).holder p l k (prepared_of h p k).word)
  act-kept (Ask k q) = kept_self h p

-- A call of party p leaves every number of the arrays that is not of party p
pub call-numbers : (h : Holder) → Fits h → (p : ℕ) (a : Action) → OthersKept h (answer_of h (by p a)).holder p
unfolding answer_of
call-numbers h fit p a = go (bad_party p) refl
  where
    go : (u : Bool) → bad_party p ≡ u → OthersKept h (answer_of h (by p a)).holder p
    go true e = rw e (kept_self h p)
    go false e = rw e (act-kept h fit p (leb-false parties p e) a)
