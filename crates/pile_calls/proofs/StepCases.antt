-- The cases of a step, each from the tests that lead to it.
use Rattle.std.specs.Prelude.{Ok, Err}
use Prim.Native.Nat.{ℕ, zero, suc, ◌+◌, ◌-◌, ◌≤◌, ◌<◌}
use native.Mathlib.Omega.{arith}
use mathlib.Core.Path.{◌≡◌, refl, sym, ap, ◌∙◌}
use mathlib.Core.Bool.{Bool, true, false, not, cond}
use mathlib.Core.List.{List, [], ◌∷◌}
use lib.Dec.{ltb}
use borrow.Author.Tests.{lt-ltb, le-ltb, ltb-true, not-true, not-false}
use Rattle.chart.specs.Limits.{side}
use Rattle.chart.specs.declared.Refusal.TheVariants.{Section}
use Rattle.chart.specs.declared.SectionKind.TheVariants.{Column, Row}
use Rattle.spans.specs.declared.Spans.{Spans}
use Rattle.pile_sections.specs.Sections.{column_clear, row_clear}
use Rattle.pile_replies.specs.Replies.{PileReply}
use Rattle.pile_replies.specs.declared.PileAnswer.TheVariants.{Done}
use Rattle.pile_calls.specs.declared.Pile.{Pile}
use Rattle.pile_calls.specs.declared.Stepped.{Stepped}
use Rattle.std.specs.declared.option.Option.{Option}
use Rattle.std.specs.declared.option.Option.TheVariants.{None, Some}
use Rattle.pile_calls.specs.Arrays.{arrays, layers_in, passed_word, word, position}
use Rattle.pile_calls.specs.Steps.{stepped, sections, clear_at, dent_at, tested_at, ending, step_at, step_of, onward, steps_of}

-- ---- the sections in their order

module _ (k : ℕ) where
  pub tested-here : k < sections → k ≡ tested_at k
  unfolding tested_at
  tested-here h = rw (lt-ltb k sections h)

  pub dent-column : k < side → Err (Section Column k) ≡ dent_at k
  unfolding dent_at
  dent-column h = rw (lt-ltb k side h)

  pub dent-row : side ≤ k → Err (Section Row (k - side)) ≡ dent_at k
  unfolding dent_at
  dent-row h = rw (le-ltb k side h)

  module _ (ls : List Spans) where
    pub clear-column : k < side → column_clear ls k ≡ clear_at ls k
    unfolding clear_at
    clear-column h = rw (lt-ltb k side h)

    pub clear-row : side ≤ k → row_clear ls (k - side) ≡ clear_at ls k
    unfolding clear_at
    clear-row h = rw (le-ltb k side h)

-- ---- a step

module _ (p : Pile) where
  module _ (k : ℕ) (at : k ≡ tested_at (position p)) (b : Bool) (said : b ≡ clear_at (layers_in p) k) where
    pub step-dent : not b ≡ true → (r : PileReply) → r ≡ dent_at k → (q : Pile) → q ≡ ending p → stepped (Some r) q ≡ step_of p
    unfolding step_of step_at
    step-dent e r is q left = rw (sym at, sym said, not-true b e, is, left)

    module _ (e : not b ≡ false) where
      pub step-more : k < 509 → (state : List ℕ) → state ≡ word p ∷ (k + 1) ∷ [] → stepped None (arrays p.rows state) ≡ step_of p
      unfolding step_of step_at
      step-more h state z = rw (z, sym at, sym said, not-false b e, lt-ltb k 509 h)

      pub step-last : 509 ≤ k → (state : List ℕ) → state ≡ passed_word ∷ 0 ∷ [] → stepped (Some (Ok Done)) (arrays p.rows state) ≡ step_of p
      unfolding step_of step_at
      step-last h state z = rw (z, sym at, sym said, not-false b e, le-ltb k 509 h)

-- ---- steps until one replies

pub runs_none : (n : ℕ) (p : Pile) → n ≤ 0 → stepped None p ≡ steps_of n p
unfolding steps_of
runs_none zero p h = refl
runs_none (suc n) p h = absurd (omega arith)

module _ (n : ℕ) (p q : Pile) (x : Option PileReply) (e : stepped x q ≡ step_of p) where
  goes_on : onward (steps_of n) x q ≡ steps_of (suc n) p
  unfolding steps_of
  goes_on = ap (λ (s : Stepped). onward (steps_of n) s.progress s.pile) e

  stops : (r : PileReply) → x ≡ Some r → stepped (Some r) q ≡ steps_of (suc n) p
  unfolding onward
  stops r is = ap (λ (y : Option PileReply). onward (steps_of n) y q) (sym is) ∙ goes_on

  more : x ≡ None → steps_of n q ≡ steps_of (suc n) p
  unfolding onward
  more is = ap (λ (y : Option PileReply). onward (steps_of n) y q) (sym is) ∙ goes_on

module _ (p q : Pile) (x : Option PileReply) (e : stepped x q ≡ step_of p) where
  pub runs-replied : (n : ℕ) → 0 < n → (r : PileReply) → x ≡ Some r → stepped (Some r) q ≡ steps_of n p
  runs-replied zero h r is = absurd (omega arith)
  runs-replied (suc n) h r is = stops n p q x e r is

  pub runs-more : (n : ℕ) → 0 < n → x ≡ None → steps_of (n - 1) q ≡ steps_of n p
  runs-more zero h is = absurd (omega arith)
  runs-more (suc n) h is = let back : suc n - 1 ≡ n = omega arith in rw back (more n p q x e is)

-- ---- from column to column

-- A step that goes on at a column was at a column
pub column-still : (p q : Pile) (x : Option PileReply) → stepped x q ≡ step_of p → x ≡ None → tested_at (position q) < side
    → tested_at (position p) < side
unfolding step_of step_at
column-still p q x e is h =
    go (clear_at (layers_in p) k) (ltb k 509) refl (ap (λ (y : Option PileReply). stepped y q) (sym is) ∙ e)
  where
    k : ℕ
    k = tested_at (position p)

    said : Bool → Bool → Stepped
    said b d =
        cond b
        (cond d (stepped None (arrays p.rows (word p ∷ (k + 1) ∷ []))) (stepped (Some (Ok Done)) (arrays p.rows (passed_word ∷ 0 ∷ []))))
        (stepped (Some (dent_at k)) (ending p))

    -- A reply is not more to come
    no_more : {r : PileReply} {x : Pile} → stepped None q ≡ stepped (Some r) x → ⊥
    no_more {r} e = let f : ◌≡◌ {A = Option PileReply} None (Some r) = ap (λ (s : Stepped). s.progress) e in cc

    go : (b d : Bool) → ltb k 509 ≡ d → stepped None q ≡ said b d → k < side
    go true true near e =
        let at : position q ≡ k + 1 = ap (λ (s : Stepped). position s.pile) e in
        let on : k + 1 < sections = omega (arith, ltb-true k 509 near) in
        let tested : tested_at (position q) ≡ k + 1 = ap tested_at at ∙ sym (tested-here (k + 1) on) in
        omega (arith, tested)
    go true false near e = absurd (no_more e)
    go false d near e = absurd (no_more e)
