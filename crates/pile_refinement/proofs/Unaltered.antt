-- A refused call leaves every number of the arrays, whatever they held, unless it is a check of memory that says that the pile has passed.
-- A refused step of a check sets the position to 0 besides.
use Rattle.std.specs.Prelude.{Result, Ok, Err}
use Prim.Native.Nat.{ℕ, zero, suc, ◌+◌}
use mathlib.Core.Path.{◌≡◌, refl}
use mathlib.Core.Bool.{Bool, true, false, cond}
use mathlib.Core.Logic.{◌⊎◌, inl, inr}
use mathlib.Core.List.{List, [], ◌∷◌}
use lib.Dec.{ltb}
use Rattle.chart.specs.Limits.{side}
use Rattle.chart.specs.Outline.{Outline}
use Rattle.chart.specs.declared.Refusal.{Refusal}
use Rattle.chart.specs.declared.Taken.{Taken}
use Rattle.verdict.specs.Verdict.{verdict_of}
use Rattle.images.specs.Image.{is_image, held_in}
use Rattle.sections.specs.Sections.{last_layer}
use Rattle.pile_sections.specs.Sections.{dented_column, dented_row}
use Rattle.pile_replies.specs.declared.PileAnswer.TheVariants.{Done}
use Rattle.pile_replies.specs.Replies.{pile_fields}
use Rattle.pile_model.specs.Calls.{PileCall, Set, SetEmpty, Check, Query, Restore}
use Rattle.pile_calls.specs.declared.Pile.{Pile}
use Rattle.pile_calls.specs.declared.Piled.{Piled}
use Rattle.std.specs.declared.option.Option.TheVariants.{None, Some}
use Rattle.pile_calls.specs.declared.Stepped.{Stepped}
use Rattle.pile_calls.specs.Arrays.{layers_in, word, passed, position, with_state, passing, failing, set_as, set_of, empty_of, check_of}
use Rattle.pile_calls.specs.Arrays.{restored_as, restore_of, answer_of}
use Rattle.pile_calls.specs.Steps.{stepped, clear_at, dent_at, tested_at, ending, step_at, step_of, onward, steps_of}
use Rattle.pile_written.specs.Written.{progress_fields}

-- If the reply has a number other than 0, P holds of what is left
abbrev IfRefused : (Pile → Type 0) → Piled → Type 0
IfRefused P x = ((pile_fields x.reply).number ≡ 0 → ⊥) → P x.pile

either : (P : Pile → Type 0) (t : Bool) (x y : Piled) → IfRefused P x → IfRefused P y → IfRefused P (cond t x y)
either P true x y f g = f
either P false x y f g = g

-- Nothing changes, or a check takes the pass away
abbrev pub Kept : Pile → PileCall → Pile → Type 0
Kept p c q = (q ≡ p) ⊎ ((c ≡ Check) × (passed p ≡ true))

fail-kept : (p : Pile) → Kept p Check (failing p)
unfolding failing
fail-kept p = go (passed p) refl
  where
    go : (t : Bool) → passed p ≡ t → Kept p Check (cond t (with_state p 0 0) p)
    go true e = inr (refl, e)
    go false e = inl refl

set-kept : (p : Pile) (l : ℕ) (o : Outline) (v : Result Taken Refusal) → IfRefused (λ q. q ≡ p) (set_as p l o v)
unfolding set_as pile_fields
set-kept p l o (Err f) r = refl
set-kept p l o (Ok t) r = absurd (r refl)

restore-kept : (p : Pile) (l : ℕ) (o : Outline) (w : List ℕ) → IfRefused (λ q. q ≡ p) (restored_as p l o w)
unfolding restored_as pile_fields
restore-kept p l o [] r = absurd (r refl)
restore-kept p l o (a ∷ w) r = set-kept p l o (verdict_of o) r

pub refused-unaltered : (p : Pile) (c : PileCall) → ((pile_fields (answer_of p c).reply).number ≡ 0 → ⊥) → Kept p c (answer_of p c).pile
unfolding answer_of set_of empty_of check_of restore_of pile_fields
refused-unaltered p (Set l o) =
    either (Kept p (Set l o)) (ltb last_layer l) _ _ (λ r. inl refl) (λ r. inl (set-kept p l o (verdict_of o) r))
refused-unaltered p (SetEmpty l) = either (Kept p (SetEmpty l)) (ltb last_layer l) _ _ (λ r. inl refl) (λ r. absurd (r refl))
refused-unaltered p Check =
    either (Kept p Check) (ltb (dented_column (layers_in p)) side) _ _ (λ r. fail-kept p)
    (either (Kept p Check) (ltb (dented_row (layers_in p)) side) _ _ (λ r. fail-kept p) (λ r. absurd (r refl)))
refused-unaltered p (Query l x) = λ r. inl refl
refused-unaltered p (Restore l i) =
    either (Kept p (Restore l i)) (ltb last_layer l) _ _ (λ r. inl refl)
    (either (Kept p (Restore l i)) (is_image i) _ _ (λ r. inl (restore-kept p l (held_in i) (held_in i).letters r)) (λ r. inl refl))

-- Some sections of a check, refused by 21: the rows stay, the position is 0, and a word that says that the pile has passed goes
pub refused-steps : (n : ℕ) (p : Pile) → ((progress_fields (steps_of n p).progress).number ≡ 0 → ⊥) → (steps_of n p).pile ≡ ending p
unfolding steps_of step_of step_at onward ending progress_fields pile_fields
refused-steps zero p r = absurd (r refl)
refused-steps (suc n) p r = go (clear_at (layers_in p) k) (ltb k 509) (refused-steps n (with_state p (word p) (k + 1))) r
  where
    k : ℕ
    k = tested_at (position p)

    said : Bool → Bool → Stepped
    said b d =
        cond b (cond d (stepped None (with_state p (word p) (k + 1))) (stepped (Some (Ok Done)) (passing p)))
        (stepped (Some (dent_at k)) (ending p))

    after : Bool → Bool → Stepped
    after b d = onward (steps_of n) (said b d).progress (said b d).pile

    go : (b d : Bool) → (((progress_fields (after true true).progress).number ≡ 0 → ⊥) → (after true true).pile ≡ ending p)
        → ((progress_fields (after b d).progress).number ≡ 0 → ⊥) → (after b d).pile ≡ ending p
    go true true further r = further r
    go true false further r = absurd (r refl)
    go false d further r = refl
