-- The cases of a border call: the first refusal that applies, otherwise the letters. Each case is a clause of the definition.
use Prim.Native.Nat.{ℕ, ◌≤◌, ◌<◌}
use native.Mathlib.Omega.{arith}
use Rattle.std.specs.Prelude.{Result, Ok, Err}
use mathlib.Core.Path.{◌≡◌, refl, sym, ap, ◌∙◌}
use mathlib.Core.Bool.{true, false, true≢false}
use mathlib.Core.List.{List, ◌++◌}
use lib.ListN.{length, take, drop}
use lib.Seq.{take_at}
use lib.Dec.{ltb}
use lib.IntN.{ℤ}
use borrow.Author.Tests.{lt-ltb, le-ltb}
use Rattle.chart.specs.declared.Point.{Point}
use Rattle.chart.specs.declared.Refusal.{Refusal}
use Rattle.chart.specs.declared.Refusal.TheVariants.{EdgeList, Cell, Directions, NoOutline, LetterBuffer}
use Rattle.chart.specs.Fields.{refusal_fields}
use Rattle.chart.specs.Outline.{Outline, outline}
use Rattle.convexity.specs.FromEdges.{letters_from}
use Rattle.convexity.proofs.Border.{border-form}
use Rattle.directions.specs.Increasing.{bad_directions}
use Rattle.directions.proofs.Taken.{taken-passes}
use Rattle.polygon.specs.Loose.{bad_list, bad_cell}
use Rattle.polygon.proofs.Taken.{taken-listed, taken-anchored}
use Rattle.border_model.specs.Outlined.{HasOutline, outlined}
use Rattle.border_model.specs.Traced.{letters_in, traced_of, traced_fields, written_after, letters_after}
use Rattle.border_model.specs.Named.{BorderOf, BorderNamed, Answers}
use Rattle.border_model.proofs.Outlines.{taken-has, outlined-iff, outlined-border}

-- ---- what a reply says

module _ (a : Point) (es : List ℤ) where
  -- If there is a border, none of 10, 11, 16 and 17 applies, and it is the letters that the edges give
  pub record Bordered (w : List ℕ) : Type 0 where
    pub listed : bad_list es ≡ false
    pub anchored : bad_cell a ≡ false
    pub turned : bad_directions es ≡ false
    pub has-outline : outlined a es ≡ true
    pub letters : length w ≡ length (letters_from es)

  pub bordered : (w : List ℕ) → BorderOf a es w → Bordered w
  bordered w b =
      let t = b.taken in
      let h = taken-has t in
      record {
        listed = taken-listed h;
        anchored = taken-anchored h;
        turned = rw (← t.edged) (taken-passes (outline a w) h.reaches h.smooth);
        has-outline = (outlined-iff a es).1 (outline a w, t);
        letters = ap (λ (v : Outline). length v.letters) (sym (b.own (outline a w) t) ∙ border-form h);
      }

  -- A refusal where there is no border
  refused : (f : Refusal) (buffer : List ℕ) → 0 < (refusal_fields f).number → ((refusal_fields f).number ≡ 18 → ⊥)
      → ((refusal_fields f).number ≡ 17 → ¬ (HasOutline a es)) → ((w : List ℕ) → BorderOf a es w → ⊥)
      → BorderNamed a es (refusal_fields f) buffer buffer
  refused f buffer s h unmet never =
      record {
        none_taken = unmet;
        too_short = (λ e. absurd (h e), λ x. absurd (never x.0 x.1.0));
        written = λ e. absurd (omega arith);
        fits = λ w b l. absurd (never w b);
        unchanged = λ n. refl;
      }

  unnamed : (f : Refusal) (buffer : List ℕ) → 0 < (refusal_fields f).number → (refusal_fields f).number < 17
      → ((w : List ℕ) → BorderOf a es w → ⊥) → BorderNamed a es (refusal_fields f) buffer buffer
  unnamed f buffer s h never = refused f buffer s (λ e. omega arith) (λ e. absurd (omega arith)) never

  unoutlined : (buffer : List ℕ) → outlined a es ≡ false → BorderNamed a es (traced_fields (Err NoOutline)) buffer buffer
  unfolding traced_fields
  unoutlined buffer e =
      let never : ¬ (HasOutline a es) = λ h. true≢false (sym ((outlined-iff a es).1 h) ∙ e) in
      refused NoOutline buffer (omega arith) (λ z. omega arith) (λ z. never) (λ w b. never (outline a w, b.taken))

  short : (buffer : List ℕ) → outlined a es ≡ true → length buffer < length (letters_from es)
      → BorderNamed a es (traced_fields (Err LetterBuffer)) buffer buffer
  unfolding traced_fields
  short buffer e l =
      record {
        none_taken = λ p. absurd (omega arith);
        too_short = (λ p. (letters_from es, (outlined-border a es e, l)), λ x. refl);
        written = λ p. absurd (omega arith);
        fits = λ w b m. absurd (omega (arith, (bordered w b).letters));
        unchanged = λ n. refl;
      }

  letters-named : (buffer rest : List ℕ) → outlined a es ≡ true → length (letters_from es) ≤ length buffer
      → BorderNamed a es (traced_fields (Ok (length (letters_from es)))) buffer (letters_from es ++ rest)
  unfolding traced_fields
  letters-named buffer rest e l =
      record {
        none_taken = λ p. absurd (omega arith);
        too_short = (λ p. absurd (omega arith), λ x. absurd (omega (arith, (bordered x.0 x.1.0).letters, x.1.1)));
        written = λ p. rw (take_at (letters_from es) rest (length (letters_from es)) refl) (outlined-border a es e);
        fits = λ w b m. refl;
        unchanged = λ n. absurd (n refl);
      }

-- ---- the cases

module _ (a : Point) (es : List ℤ) (buffer : List ℕ) where
  -- A refusal leaves the buffer unchanged
  left : (t : Result ℕ Refusal) → t ≡ traced_of a es (length buffer) → written_after t (letters_from es) buffer ≡ buffer
      → BorderNamed a es (traced_fields t) buffer buffer → Answers a es buffer buffer t
  unfolding letters_after
  left t e k n = record { answer = e; letters = sym k ∙ ap (λ (u : Result ℕ Refusal). written_after u (letters_from es) buffer) e; named = n }

  pub traced-list : bad_list es ≡ true → Answers a es buffer buffer (Err (EdgeList 0))
  unfolding traced_of written_after traced_fields
  traced-list e = left (Err (EdgeList 0)) (rw e) refl (unnamed a es (EdgeList 0) buffer (omega arith) (omega arith)
      (λ w b. true≢false (sym e ∙ (bordered a es w b).listed)))

  module _ (listed : bad_list es ≡ false) where
    pub traced-anchor : bad_cell a ≡ true → Answers a es buffer buffer (Err Cell)
    unfolding traced_of written_after traced_fields
    traced-anchor e = left (Err Cell) (rw (listed, e)) refl (unnamed a es Cell buffer (omega arith) (omega arith)
        (λ w b. true≢false (sym e ∙ (bordered a es w b).anchored)))

    module _ (anchored : bad_cell a ≡ false) where
      pub traced-turning : bad_directions es ≡ true → Answers a es buffer buffer (Err Directions)
      unfolding traced_of written_after traced_fields
      traced-turning e =
          left (Err Directions) (rw (listed, anchored, e)) refl (unnamed a es Directions buffer (omega arith) (omega arith)
          (λ w b. true≢false (sym e ∙ (bordered a es w b).turned)))

      module _ (turned : bad_directions es ≡ false) where
        pub traced-none : outlined a es ≡ false → Answers a es buffer buffer (Err NoOutline)
        unfolding traced_of written_after
        traced-none e = left (Err NoOutline) (rw (listed, anchored, turned, e)) refl (unoutlined a es buffer e)

        module _ (some : outlined a es ≡ true) where
          pub traced-short : length buffer < length (letters_from es) → Answers a es buffer buffer (Err LetterBuffer)
          unfolding traced_of letters_in written_after
          traced-short h =
              left (Err LetterBuffer) (rw (listed, anchored, turned, some, lt-ltb (length buffer) (length (letters_from es)) h)) refl
              (short a es buffer some h)

          written : length (letters_from es) ≤ length buffer → Ok (length (letters_from es)) ≡ traced_of a es (length buffer)
          unfolding traced_of letters_in
          written h = rw (listed, anchored, turned, some, le-ltb (length buffer) (length (letters_from es)) h)

          pub traced-written :
              length (letters_from es) ≤ length buffer
              → Answers a es buffer (letters_from es ++ drop (length (letters_from es)) buffer) (Ok (length (letters_from es)))
          unfolding letters_after written_after
          traced-written h =
              record {
                answer = written h;
                letters = ap (λ (u : Result ℕ Refusal). written_after u (letters_from es) buffer) (written h);
                named = letters-named a es buffer (drop (length (letters_from es)) buffer) some h;
              }
