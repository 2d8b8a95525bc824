-- By value: a refused call that is no close hands the holder back as it was, because it leaves every number of the arrays.
use Prim.Native.Nat.{ℕ}
use mathlib.Core.Path.{◌≡◌, sym, ap, ◌∙◌}
use mathlib.Core.Bool.{false}
use Rattle.calls.specs.Calls.{by}
use Rattle.calls.specs.Replies.{reply_fields}
use Rattle.calls.specs.declared.Action.{Action}
use Rattle.holder_memory.specs.Layout.{Holder as Arrays}
use Rattle.holder_answers.specs.Arrays.{Answered as OnArrays, answer_of}
use Rattle.holder_refinement.proofs.Unaltered.{closes, refused-unaltered}
use Rattle.holder_values.specs.declared.Holder.{Holder}
use Rattle.holder_values.specs.declared.Answered.{Answered}
use Rattle.holder_values.specs.Values.{kept, reached}

-- A holder is its four arrays
holder-of : Arrays → Holder
holder-of h = record { letters = h.letters; rows = h.rows; numbers = h.numbers; heads = h.heads }

-- What any method promises of its result r
module _ (self : Holder) (r : Answered) (p : ℕ) (a : Action) (promised : reached r ≡ answer_of (kept self) (by p a)) where
  pub refused-value : closes a ≡ false → ((reply_fields r.reply).number ≡ 0 → ⊥) → r.holder ≡ self
  unfolding holder-of
  refused-value open-still refused =
      let number : (reply_fields (answer_of (kept self) (by p a)).reply).number ≡ (reply_fields r.reply).number =
      ap (λ (x : OnArrays). (reply_fields x.reply).number) (sym promised) in
      let left : kept r.holder ≡ kept self =
      ap (λ (x : OnArrays). x.holder) promised ∙ refused-unaltered (kept self) p a open-still (λ e. refused (sym number ∙ e)) in
      ap holder-of left
