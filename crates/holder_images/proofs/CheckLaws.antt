-- The cases of a check and of a save, by what is found at the place.
use Prim.Native.Nat.{ℕ, ◌≤◌, ◌<◌}
use mathlib.Core.Path.{◌≡◌, ap, ◌∙◌}
use mathlib.Core.List.{List, ◌++◌}
use lib.ListN.{length, take, drop}
use borrow.Author.Tests.{le-leb, lt-leb, lt-ltb, le-ltb}
use Rattle.chart.specs.Limits.{side, longest}
use Rattle.std.specs.Prelude.{Result, Ok, Err}
use Rattle.chart.specs.declared.Refusal.{Refusal}
use Rattle.chart.specs.declared.Refusal.TheVariants.{LetterBuffer, Party, Place}
use Rattle.chart.specs.Outline.{outline}
use Rattle.calls.specs.Calls.{parties, places}
use Rattle.calls.specs.declared.Answer.TheVariants.{Done}
use Rattle.images.specs.Image.{image_bytes, image_of}
use Rattle.holder_memory.specs.Layout.{Holder}
use Rattle.holder_images.specs.declared.Held.{Held}
use Rattle.holder_images.specs.Arrays.{check_of, saved, save_of}
use Rattle.holder_images.specs.parts.Found.{Holds, HeldAt}

pub held-no-party : (h : Holder) (p k : ℕ) (l : List ℕ) → parties ≤ p → HeldAt h p k l (Err Party)
unfolding HeldAt check_of save_of
held-no-party h p k l e = (rw (le-leb parties p e), λ b. rw (le-leb parties p e))

module _ (h : Holder) (p : ℕ) (there : p < parties) (k : ℕ) (l : List ℕ) where
  pub held-no-place : places ≤ k → HeldAt h p k l (Err Place)
  unfolding HeldAt check_of save_of
  held-no-place e = (rw (lt-leb parties p there, le-leb places k e), λ b. rw (lt-leb parties p there, le-leb places k e))

  pub held-found : k < places → (r : Result Held Refusal) → Holds h p k l r → HeldAt h p k l r
  unfolding HeldAt Holds check_of save_of
  held-found m (Err why) f =
      (rw (f.0, lt-leb parties p there, lt-leb places k m, f.1), λ b. rw (f.0, lt-leb parties p there, lt-leb places k m, f.1))
  held-found m (Ok x) f = (there, m, f)

module _ (h : Holder) (p k : ℕ) (l : List ℕ) where
  module _ (why : Refusal) (f : HeldAt h p k l (Err why)) where
    pub check-refused : Err why ≡ check_of h p k
    unfolding HeldAt
    check-refused = f.0

    pub save-refused : (b : List ℕ) → saved (Err why) b ≡ save_of h p k b
    unfolding HeldAt
    save-refused b = f.1 b

  module _ (x : Held) (f : HeldAt h p k l (Ok x)) where
    pub check-whole : Ok Done ≡ check_of h p k
    unfolding HeldAt Holds check_of
    check-whole = rw (lt-leb parties p f.0, lt-leb places k f.1, f.2.0)

    pub save-short : (b : List ℕ) → length b < image_bytes → saved (Err LetterBuffer) b ≡ save_of h p k b
    unfolding HeldAt Holds save_of
    save-short b e = rw (lt-leb parties p f.0, lt-leb places k f.1, f.2.0, lt-ltb (length b) image_bytes e)

    pub save-whole : (b : List ℕ) → image_bytes ≤ length b → (i : List ℕ) → i ≡ image_of (outline x.start (take x.count l))
        → saved (Ok Done) (i ++ drop image_bytes b) ≡ save_of h p k b
    unfolding HeldAt Holds save_of
    save-whole b e i is =
        rw (lt-leb parties p f.0, lt-leb places k f.1, f.2.0, le-ltb (length b) image_bytes e)
        (ap (λ (x : List ℕ). saved (Ok Done) (x ++ drop image_bytes b)) (is ∙ ap image_of f.2.1))

    pub held_fits : (x.count ≤ longest) × (x.start.col < side) × (x.start.row < side)
    unfolding HeldAt Holds
    held_fits = (f.2.2, f.2.3, f.2.4)
