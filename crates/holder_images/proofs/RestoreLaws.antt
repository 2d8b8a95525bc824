-- The cases of a restore, each from what the bytes are read as.
use Prim.Native.Nat.{ℕ, ◌≤◌, ◌<◌}
use native.Mathlib.Omega.{arith}
use mathlib.Core.Path.{◌≡◌, refl, sym, ap, ap₂, ◌∙◌}
use mathlib.Core.Bool.{true, false}
use mathlib.Core.List.{List, [], ◌∷◌}
use lib.ListN.{length, take, drop, length-take, length-drop}
use borrow.Author.Tests.{le-leb, lt-leb}
use Rattle.std.specs.Prelude.{Some, None, Ok, Err}
use Rattle.base.proofs.BelowLaws.{not-held}
use Rattle.chart.specs.Limits.{longest}
use Rattle.chart.specs.declared.Point.{Point}
use Rattle.chart.specs.declared.Refusal.TheVariants.{Party, Place, Image}
use Rattle.chart.specs.Outline.{Outline, outline}
use Rattle.calls.specs.Calls.{parties, places}
use Rattle.calls.specs.Replies.{Reply}
use Rattle.calls.specs.declared.Answer.TheVariants.{Done}
use Rattle.images.specs.declared.Record.{Record}
use Rattle.images.specs.Image.{header, image_bytes, held_in, is_image, Reads}
use Rattle.images.proofs.Images.{image-iff}
use Rattle.holder_memory.specs.Layout.{Holder, spot}
use Rattle.holder_answers.specs.Arrays.{Preparation, preparation, reply, with_heads, worded, commit_of, committed, outline_prepared}
use Rattle.holder_images.specs.Arrays.{image_prepared, prepare_image_of, restore_of}

-- ---- what the bytes are read as

pub read_none : (b : List ℕ) → Reads b None → is_image b ≡ false
unfolding Reads
read_none b none = not-held (is_image b) (λ e. none (held_in b) ((image-iff b).0 e))

module _ (b : List ℕ) (f : Record) (h : Reads b (Some f)) where
  pub read_count : (f.count ≤ longest) × (length b ≡ image_bytes)
  unfolding Reads
  read_count = (h.3, h.0)

  read-image : is_image b ≡ true
  unfolding Reads
  read-image = (image-iff b).1 h.4

  read_held : held_in b ≡ outline f.start (take f.count (drop header b))
  unfolding Reads held_in
  read_held = ap₂ outline (sym h.1) (ap (λ (j : ℕ). take j (drop header b)) (sym h.2))

  read-long : length (take f.count (drop header b)) ≡ f.count
  read-long = omega (arith, length-take f.count (drop header b), length-drop header b, read_count)

-- ---- the first half

pub image-no-party : (h : Holder) (p k : ℕ) (b : List ℕ) → parties ≤ p → preparation (Err Party) 0 h ≡ prepare_image_of h p k b
unfolding prepare_image_of
image-no-party h p k b e = rw (le-leb parties p e)

module _ (h : Holder) (p : ℕ) (there : p < parties) (k : ℕ) where
  pub image-no-place : (b : List ℕ) → places ≤ k → preparation (Err Place) 0 h ≡ prepare_image_of h p k b
  unfolding prepare_image_of
  image-no-place b e = rw (lt-leb parties p there, le-leb places k e)

  module _ (m : k < places) (b : List ℕ) where
    pub image-none : Reads b None → preparation (Err Image) 0 h ≡ prepare_image_of h p k b
    unfolding prepare_image_of
    image-none r = rw (lt-leb parties p there, lt-leb places k m, read_none b r)

    module _ (f : Record) (r : Reads b (Some f)) where
      abbrev letters : List ℕ
      letters = take f.count (drop header b)

      image-read : prepare_image_of h p k b ≡ image_prepared h p k (outline f.start letters) letters
      unfolding prepare_image_of
      image-read =
          rw (lt-leb parties p there, lt-leb places k m, read-image b f r)
          (ap (λ (o : Outline). image_prepared h p k o o.letters) (read_held b f r))

      none : (o : Outline) (l : List ℕ) → length l ≡ 0 → image_prepared h p k o l ≡ preparation (Ok Done) 0 (worded h (spot p k) 0)
      unfolding image_prepared
      none o [] e = refl
      none o (a ∷ l) e = absurd (omega (arith, e))

      some : (o : Outline) (l : List ℕ) → (length l ≡ 0 → ⊥) → image_prepared h p k o l ≡ outline_prepared h p k o
      unfolding image_prepared
      some o [] e = absurd (e refl)
      some o (a ∷ l) e = refl

      pub image-empty : f.count ≡ 0 → preparation (Ok Done) 0 (worded h (spot p k) 0) ≡ prepare_image_of h p k b
      image-empty e = sym (image-read ∙ none (outline f.start letters) letters (read-long b f r ∙ e))

      pub image-outline : (f.count ≡ 0 → ⊥) → (l : List ℕ) → l ≡ letters → (q : Preparation) → q ≡ outline_prepared h p k (outline f.start l)
          → q ≡ prepare_image_of h p k b
      image-outline e l is q prepared =
          prepared ∙ ap (λ (x : List ℕ). outline_prepared h p k (outline f.start x)) is
          ∙ sym (image-read ∙ some (outline f.start letters) letters (λ z. e (sym (read-long b f r) ∙ z)))

-- ---- both halves

pub restore-made : (h n : Holder) (p k : ℕ) (b : List ℕ) (r : Reply) (w : ℕ) → preparation r w n ≡ prepare_image_of h p k b
    → (heads : List ℕ) → heads ≡ commit_of n.heads p k w → reply r (with_heads n heads) ≡ restore_of h p k b
unfolding restore_of
restore-made h n p k b r w e heads c = rw c (ap (committed p k) e)
