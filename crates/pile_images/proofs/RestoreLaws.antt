-- A restore by what its bytes are read as: 26, a set empty, or a set.
use Rattle.std.specs.Prelude.{None, Some, Err}
use Prim.Native.Nat.{ℕ, ◌≤◌, ◌<◌}
use native.Mathlib.Decide.{dec_lt}
use native.Mathlib.Omega.{arith}
use mathlib.Core.Path.{◌≡◌, refl, sym, ap, ◌∙◌}
use mathlib.Core.Bool.{true, false}
use mathlib.Core.List.{List, [], ◌∷◌}
use lib.ListN.{length, take, drop, length-drop}
use lib.Seq.{length-take-le}
use borrow.Author.Tests.{lt-ltb, le-ltb}
use Rattle.base.proofs.BelowLaws.{not-held}
use Rattle.chart.specs.Limits.{longest}
use Rattle.chart.specs.declared.Refusal.TheVariants.{Layer, Image}
use Rattle.chart.specs.Outline.{Outline, outline}
use Rattle.verdict.specs.Verdict.{verdict_of}
use Rattle.images.specs.Image.{header, image_bytes, held_in, is_image, Reads}
use Rattle.images.specs.declared.Record.{Record}
use Rattle.images.proofs.Images.{image-iff}
use Rattle.sections.specs.Sections.{last_layer}
use Rattle.pile_model.specs.Calls.{Set, SetEmpty, Restore}
use Rattle.pile_calls.specs.declared.Pile.{Pile}
use Rattle.pile_calls.specs.declared.Piled.{Piled}
use Rattle.pile_calls.specs.Arrays.{says, set_as, set_of, empty_of, restored_as, restore_of, answer_of}

-- ---- what is read

module _ (i : List ℕ) (f : Record) (r : Reads i (Some f)) where
  pub read_fits : (f.count ≤ longest) × (length i ≡ image_bytes)
  unfolding Reads
  read_fits = (r.3, r.0)

  is-image : is_image i ≡ true
  unfolding Reads
  is-image = (image-iff i).1 r.4

  held-is : held_in i ≡ outline f.start (take f.count (drop header i))
  unfolding Reads held_in
  held-is = λ j. outline (sym r.1 j) (take (sym r.2 j) (drop header i))

not-image : (i : List ℕ) → Reads i None → is_image i ≡ false
unfolding Reads
not-image i r = not-held (is_image i) (λ e. r (held_in i) ((image-iff i).0 e))

-- ---- a restore

pub with-letters : (p : Pile) (l : ℕ) (o : Outline) (w : List ℕ) → 0 < length w → restored_as p l o w ≡ set_as p l o (verdict_of o)
unfolding restored_as
with-letters p l o [] h = absurd (omega arith)
with-letters p l o (a ∷ w) h = refl

module _ (p : Pile) (l : ℕ) (i : List ℕ) where
  pub restore-high : last_layer < l → says (Err Layer) p ≡ answer_of p (Restore l i)
  unfolding answer_of restore_of
  restore-high h = rw (lt-ltb last_layer l h)

  module _ (h : l ≤ last_layer) where
    pub restore-other : Reads i None → says (Err Image) p ≡ answer_of p (Restore l i)
    unfolding answer_of restore_of
    restore-other r = rw (le-ltb last_layer l h, not-image i r)

    module _ (f : Record) (r : Reads i (Some f)) where
      as-held : answer_of p (Restore l i) ≡ restored_as p l (outline f.start (take f.count (drop header i))) (take f.count (drop header i))
      unfolding answer_of restore_of
      as-held = rw (le-ltb last_layer l h, is-image i f r) (ap (λ (o : Outline). restored_as p l o o.letters) (held-is i f r))

      pub restore-empty : f.count ≡ 0 → (x : Piled) → x ≡ answer_of p (SetEmpty l) → x ≡ answer_of p (Restore l i)
      unfolding answer_of empty_of restored_as
      restore-empty none x e =
          e ∙ rw (le-ltb last_layer l h) refl
          ∙ ap (λ (k : ℕ). restored_as p l (outline f.start (take k (drop header i))) (take k (drop header i))) (sym none) ∙ sym as-held

      pub restore-set : (f.count ≡ 0 → ⊥) → (k : ℕ) → k ≡ f.count → (x : Piled) → x ≡ answer_of p (Set l (outline f.start (take k (drop header i))))
          → x ≡ answer_of p (Restore l i)
      unfolding answer_of set_of
      restore-set some k q x e =
          let n = f.count in
          let w = take n (drop header i) in
          let long : length w ≡ n = length-take-le n (drop header i) (omega (arith, read_fits i f r, length-drop header i)) in
          let o : Outline = outline f.start w in
          e ∙ ap (λ (j : ℕ). answer_of p (Set l (outline f.start (take j (drop header i))))) q
          ∙ rw (le-ltb last_layer l h) refl
          ∙ sym (with-letters p l o w (positive (length w) n long some)) ∙ sym as-held
        where
          positive : (a b : ℕ) → a ≡ b → (b ≡ 0 → ⊥) → 0 < a
          positive a b e f = elim (dec_lt 0 a) [ yes g ↦ g | no g ↦ absurd (f (omega arith)) ]
