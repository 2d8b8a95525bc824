-- No section before the position is dented, so the section that ends a check in steps is the one that the whole check names, or the last.
use Rattle.std.specs.Prelude.{Result, Ok, Err}
use Prim.Native.Nat.{ℕ, zero, suc, ◌+◌, ◌-◌, ◌≤◌, ◌<◌}
use native.Mathlib.Decide.{dec_lt, ℕ_discrete}
use native.Mathlib.Omega.{arith}
use mathlib.Core.Path.{◌≡◌, refl, sym, ap, ◌∙◌}
use mathlib.Core.Bool.{Bool, true, false, not, cond}
use mathlib.Core.List.{List, [], ◌∷◌}
use lib.ListN.{length, get_or}
use lib.Dec.{ltb}
use borrow.Author.Tests.{lt-ltb, le-ltb}
use Rattle.base.proofs.BelowLaws.{first-is, first-none}
use Rattle.chart.specs.Limits.{side}
use Rattle.chart.specs.Outline.{Outline}
use Rattle.chart.specs.declared.Refusal.{Refusal}
use Rattle.chart.specs.declared.Taken.{Taken}
use Rattle.spans.specs.declared.Spans.{Spans}
use Rattle.verdict.specs.Verdict.{verdict_of}
use Rattle.sections.specs.Sections.{last_layer}
use Rattle.pile_sections.specs.Sections.{column_clear, row_clear, dented_column, dented_row}
use Rattle.pile_replies.specs.Replies.{PileReply}
use Rattle.pile_replies.specs.declared.PileAnswer.TheVariants.{Done}
use Rattle.images.specs.Image.{is_image, held_in}
use Rattle.pile_model.specs.Calls.{PileCall, Set, SetEmpty, Check, Query, Restore}
use Rattle.pile_calls.specs.declared.Pile.{Pile}
use Rattle.pile_calls.specs.declared.Piled.{Piled}
use Rattle.std.specs.declared.option.Option.TheVariants.{None, Some}
use Rattle.pile_calls.specs.declared.Stepped.{Stepped}
use Rattle.pile_calls.specs.Arrays.{arrays, says, layers_in, word, passed, position, with_state, passing, failing}
use Rattle.pile_calls.specs.Arrays.{set_as, set_of, empty_of, check_of, restored_as, restore_of, answer_of, fresh_pile}
use Rattle.pile_calls.specs.Steps.{stepped, sections, clear_at, dent_at, tested_at, ending, step_at, step_of, onward, steps_of}
use Rattle.pile_refinement.specs.Moves.{whole, Move, renew, call, steps, moved}
use Rattle.pile_calls.proofs.StepCases.{tested-here, dent-column, dent-row, clear-column, clear-row, step-dent, step-more, step-last}

-- ---- the whole check, by the first dented section

abbrev ClearBefore : List Spans → ℕ → Type 0
ClearBefore ls k = (j : ℕ) → j < k → clear_at ls j ≡ true

module _ (ls : List Spans) (k : ℕ) (before : ClearBefore ls k) where
  column-before : (j : ℕ) → j < k → j < side → not (column_clear ls j) ≡ false
  column-before j h l = ap not (clear-column j ls l ∙ before j h)

  row_before : (j : ℕ) → side + j < k → not (row_clear ls j) ≡ false
  row_before j h =
      let e : side + j - side ≡ j = omega arith in
      rw (← e) (ap not (clear-row (side + j) ls (omega arith) ∙ before (side + j) h))

  columns-none : side ≤ k → dented_column ls ≡ side
  unfolding dented_column
  columns-none h = first-none (λ c. not (column_clear ls c)) side (λ j l. column-before j (omega arith) l)

  rows_none : sections ≤ k → dented_row ls ≡ side
  unfolding dented_row
  rows_none h = first-none (λ r. not (row_clear ls r)) side (λ j l. row_before j (omega arith))

  module _ (dent : clear_at ls k ≡ false) where
    column-first : k < side → dented_column ls ≡ k
    unfolding dented_column
    column-first h =
        first-is (λ c. not (column_clear ls c)) side k h (λ j l. column-before j l (omega arith)) (ap not (clear-column k ls h ∙ dent))

    row_first : side ≤ k → k < sections → dented_row ls ≡ k - side
    unfolding dented_row
    row_first h l =
        first-is (λ r. not (row_clear ls r)) side (k - side) (omega arith) (λ j i. row_before j (omega arith))
        (ap not (clear-row k ls h ∙ dent))

module _ (p : Pile) (k : ℕ) (near : k < sections) (before : ClearBefore (layers_in p) k) where
  check-dent : clear_at (layers_in p) k ≡ false → check_of p ≡ says (dent_at k) (failing p)
  unfolding check_of
  check-dent dent =
      elim (dec_lt k side) [
        | yes h ↦
            let e = column-first (layers_in p) k before dent h in
            rw (e, lt-ltb k side h) (ap (λ (r : PileReply). says r (failing p)) (dent-column k h))
        | no h ↦
            let past : side ≤ k = omega arith in
            let e = columns-none (layers_in p) k before past in
            let f = row_first (layers_in p) k before dent past near in
            rw (le-ltb (dented_column (layers_in p)) side (omega (arith, e)), f, lt-ltb (k - side) side (omega arith))
            (ap (λ (r : PileReply). says r (failing p)) (dent-row k past))
      ]

check-passes : (p : Pile) → ClearBefore (layers_in p) sections → check_of p ≡ says (Ok Done) (passing p)
unfolding check_of
check-passes p all =
    let e = columns-none (layers_in p) sections all (omega arith) in
    let f = rows_none (layers_in p) sections all (omega arith) in
    rw (le-ltb (dented_column (layers_in p)) side (omega (arith, e)), le-ltb (dented_row (layers_in p)) side (omega (arith, f)))

-- ---- a pile under check

-- The state has its two numbers, and no section before its position is dented
pub record Under (p : Pile) : Type 0 where
  pub two : p.state ≡ word p ∷ position p ∷ []
  pub near : position p < sections
  pub before : ClearBefore (layers_in p) (position p)

-- As if no step had been made
abbrev pub anew : Pile → Pile
anew p = with_state p (word p) 0

ends-failing : (p : Pile) → ending p ≡ failing (anew p)
unfolding ending failing
ends-failing p = go (passed p)
  where
    go : (t : Bool) → with_state p (cond t 0 (word p)) 0 ≡ cond t (with_state p 0 0) (anew p)
    go true = refl
    go false = refl

abbrev whole_by : Piled → Stepped
whole_by x = stepped (Some x.reply) x.pile

clear_next : (ls : List Spans) (k : ℕ) → ClearBefore ls k → clear_at ls k ≡ true → ClearBefore ls (k + 1)
clear_next ls k before e j h = elim (ℕ_discrete j k) [ yes is ↦ rw is e | no is ↦ before j (omega arith) ]

-- A step that replies does as the whole check, and any other goes on
data Does (p : Pile) (k : ℕ) : Stepped → Type 0 where
  replies : {s : Stepped} → s ≡ whole (anew p) → Does p k s
  goes : {s : Stepped} → s ≡ stepped None (with_state p (word p) (k + 1)) → k + 1 < sections → ClearBefore (layers_in p) (k + 1) → Does p k s

step-does : (p : Pile) → Under p → Does p (position p) (step_of p)
unfolding whole
step-does p u = go (clear_at (layers_in p) k) refl
  where
    k : ℕ
    k = position p

    go : (b : Bool) → clear_at (layers_in p) k ≡ b → Does p k (step_of p)
    go false e =
        replies (sym (step-dent p k (tested-here k u.near) false (sym e) refl (dent_at k) refl (failing (anew p)) (sym (ends-failing p)))
        ∙ ap whole_by (sym (check-dent (anew p) k u.near u.before e)))
    go true e =
        elim (dec_lt k 509) [
          | yes h ↦
              goes (sym (step-more p k (tested-here k u.near) true (sym e) refl h _ refl)) (omega arith)
              (clear_next (layers_in p) k u.before e)
          | no h ↦
              let last : k + 1 ≡ sections = omega (arith, u.near) in
              let all : ClearBefore (layers_in p) sections = rw (← last) (clear_next (layers_in p) k u.before e) in
              replies (sym (step-last p k (tested-here k u.near) true (sym e) refl (omega arith) _ refl)
              ∙ ap whole_by (sym (check-passes (anew p) all)))
        ]

goes-under : (p : Pile) (k : ℕ) → k < sections → ClearBefore (layers_in p) k → Under (with_state p (word p) k)
goes-under p k h before = record { two = refl; near = h; before = before }

-- ---- some sections: they end as the whole check does, or the position is that much further

pub data Do (p : Pile) (k : ℕ) : Stepped → Type 0 where
  ends : {s : Stepped} → s ≡ whole (anew p) → Do p k s
  rests : {s : Stepped} → s ≡ stepped None (with_state p (word p) k) → k < sections → ClearBefore (layers_in p) k → Do p k s

-- From a step further
do-back : (p : Pile) (j k : ℕ) (s : Stepped) → Do (with_state p (word p) j) k s → Do p k s
do-back p j k s (ends e) = ends e
do-back p j k s (rests e near before) = rests e near before

pub steps-do : (n : ℕ) (p : Pile) → Under p → Do p (position p + n) (steps_of n p)
unfolding steps_of onward whole
steps-do zero p u =
    let here : position p + 0 ≡ position p = omega arith in
    rw here (rests (ap (λ (s : List ℕ). stepped None (arrays p.rows s)) u.two) u.near u.before)
steps-do (suc n) p u = go (step_of p) (step-does p u) (λ q v. steps-do n q v)
  where
    go : (s : Stepped) → Does p (position p) s → ((q : Pile) → Under q → Do q (position q + n) (steps_of n q))
        → Do p (position p + suc n) (onward (steps_of n) s.progress s.pile)
    go s (replies e) later = ends (ap (λ (x : Stepped). onward (steps_of n) x.progress x.pile) e)
    go s (goes e near before) later =
        let there : position p + 1 + n ≡ position p + suc n = omega arith in
        rw (e, ← there)
        (do-back p (position p + 1) _ _ (later (with_state p (word p) (position p + 1)) (goes-under p (position p + 1) near before)))

-- Enough of them end
pub steps-end : (n : ℕ) (p : Pile) → Under p → sections ≤ n + position p → steps_of n p ≡ whole (anew p)
steps-end n p u h = go (steps_of n p) (steps-do n p u)
  where
    go : (s : Stepped) → Do p (position p + n) s → s ≡ whole (anew p)
    go s (ends e) = e
    go s (rests e near before) = absurd (omega arith)

-- From a state of two numbers, the second 0, 510 steps at most do what the whole check does
two-numbers : (l : List ℕ) → length l ≡ 2 → l ≡ get_or l 0 0 ∷ get_or l 1 0 ∷ []
two-numbers [] e = absurd (omega (arith, e))
two-numbers (a ∷ []) e = absurd (omega (arith, e))
two-numbers (a ∷ b ∷ []) e = refl
two-numbers (a ∷ b ∷ c ∷ l) e = absurd (omega (arith, e))

pub steps-theorem : (p : Pile) → length p.state ≡ 2 → position p ≡ 0 → steps_of sections p ≡ whole p
steps-theorem p two e =
    let same : anew p ≡ p = ap (arrays p.rows) (ap (λ (k : ℕ). word p ∷ k ∷ []) (sym e) ∙ sym (two-numbers p.state two)) in
    steps-end sections p (record { two = two-numbers p.state two; near = omega (arith, e); before = λ j h. absurd (omega (arith, e)) })
    (omega arith) ∙ ap whole same

-- ---- any calls and steps

pub under-fresh : Under fresh_pile
unfolding fresh_pile
under-fresh = record { two = refl; near = omega arith; before = λ j h. absurd (omega arith) }

under-zero : (rows : List ℕ) (w : ℕ) → Under (arrays rows (w ∷ 0 ∷ []))
under-zero rows w = record { two = refl; near = omega arith; before = λ j h. absurd (omega arith) }

either : (t : Bool) (x y : Piled) → Under x.pile → Under y.pile → Under (cond t x y).pile
either true x y a b = a
either false x y a b = b

under-fail : (p : Pile) → Under p → Under (failing p)
unfolding failing
under-fail p u = go (passed p)
  where
    go : (t : Bool) → Under (cond t (with_state p 0 0) p)
    go true = under-zero p.rows 0
    go false = u

under-set : (p : Pile) → Under p → (l : ℕ) (o : Outline) (v : Result Taken Refusal) → Under (set_as p l o v).pile
unfolding set_as
under-set p u l o (Err f) = u
under-set p u l o (Ok t) = under-zero _ 0

under-restore : (p : Pile) → Under p → (l : ℕ) (o : Outline) (w : List ℕ) → Under (restored_as p l o w).pile
unfolding restored_as
under-restore p u l o [] = under-zero _ 0
under-restore p u l o (a ∷ w) = under-set p u l o (verdict_of o)

under-call : (p : Pile) → Under p → (c : PileCall) → Under (answer_of p c).pile
unfolding answer_of set_of empty_of check_of restore_of
under-call p u (Set l o) = either (ltb last_layer l) _ _ u (under-set p u l o (verdict_of o))
under-call p u (SetEmpty l) = either (ltb last_layer l) _ _ u (under-zero _ 0)
under-call p u Check =
    either (ltb (dented_column (layers_in p)) side) _ _ (under-fail p u)
    (either (ltb (dented_row (layers_in p)) side) _ _ (under-fail p u) (under-zero _ _))
under-call p u (Query l x) = u
under-call p u (Restore l i) =
    either (ltb last_layer l) _ _ u (either (is_image i) _ _ (under-restore p u l (held_in i) (held_in i).letters) u)

under-steps : (n : ℕ) (p : Pile) → Under p → Under (steps_of n p).pile
unfolding whole answer_of
under-steps n p u = go (steps_of n p) (steps-do n p u)
  where
    go : (s : Stepped) → Do p (position p + n) s → Under s.pile
    go s (ends e) = rw e (under-call (anew p) (under-zero p.rows (word p)) Check)
    go s (rests e near before) = rw e (goes-under p (position p + n) near before)

pub under-move : (p : Pile) → Under p → (m : Move) → Under (moved p m)
unfolding moved
under-move p u renew = under-fresh
under-move p u (call c) = under-call p u c
under-move p u (steps n) = under-steps n p u

no_more : (r : PileReply) → Some r ≡ None → ⊥
no_more r e = cc

-- A step that does not reply leaves the rows and the word: a pile that had not passed still has not
pub more-keeps : (p : Pile) → (step_of p).progress ≡ None → ((step_of p).pile.rows ≡ p.rows) × (word (step_of p).pile ≡ word p)
unfolding step_of step_at
more-keeps p = go (clear_at (layers_in p) k) (ltb k 509)
  where
    k : ℕ
    k = tested_at (position p)

    said : Bool → Bool → Stepped
    said b d =
        cond b (cond d (stepped None (with_state p (word p) (k + 1))) (stepped (Some (Ok Done)) (passing p)))
        (stepped (Some (dent_at k)) (ending p))

    go : (b d : Bool) → (said b d).progress ≡ None → ((said b d).pile.rows ≡ p.rows) × (word (said b d).pile ≡ word p)
    go true true e = (refl, refl)
    go true false e = absurd (no_more (Ok Done) e)
    go false d e = absurd (no_more (dent_at k) e)
