-- A check notices any change within the rows, or within anchor and counted edges: of two whole works the one decides the other. The words
-- lie so far apart that up to seven changed bits of a place's word are noticed too.
use Rattle.std.specs.Prelude.{Err}
use Prim.Native.Nat.{ℕ, ◌<◌, ◌≤◌}
use native.Mathlib.Omega.{arith}
use mathlib.Core.Path.{◌≡◌, refl, sym, ap, ap₂, subst, ◌∙◌}
use mathlib.Core.Logic.{⊎_elim}
use mathlib.Core.Bool.{true, false}
use lib.Dec.{leb}
use borrow.Author.Tests.{ne_eqb, leb-true, lt-leb}
use Rattle.base.specs.Below.{every}
use Rattle.base.proofs.BelowLaws.{not-held, every-at}
use Rattle.chart.specs.Outline.{outline}
use Rattle.chart.specs.declared.Refusal.TheVariants.{Damaged}
use Rattle.calls.specs.Calls.{parties, places}
use Rattle.convexity.specs.FromEdges.{letters_from}
use Rattle.convexity.specs.SameBlock.{SameCells}
use Rattle.convexity.proofs.SameBlock.{same-cells-iff}
use Rattle.spans.specs.declared.Spans.{Spans}
use Rattle.spans.specs.Spans.{spans_of, in_spans}
use Rattle.spans.proofs.Exact.{spans-exact}
use Rattle.border_model.proofs.Outlines.{taken-has}
use Rattle.holder_records.specs.Work.{Work, work_edges}
use Rattle.holder_memory.specs.Layout.{Holder, own, slots, work_at}
use Rattle.holder_memory.specs.Words.{word_of, tag_of, slot_of, distance, apart}
use Rattle.holder_memory.proofs.Free.{slot-none}
use Rattle.holder_memory.proofs.Distance.{flipped, names-word, cleared-flipped}
use Rattle.holder_answers.specs.Arrays.{work_in}
use Rattle.holder_images.specs.Whole.{own_border, whole, word_in, whole_at}
use Rattle.holder_images.specs.Arrays.{check_of}
use Rattle.holder_images.proofs.WholeLaws.{own-work, whole-iff}

module _ (w v : Work) (h : whole w ≡ true) where
  -- Anchor and edges decide the rows
  pub rows-noticed : v.anchor ≡ w.anchor → work_edges v ≡ work_edges w → (v.spans ≡ w.spans → ⊥) → whole v ≡ false
  unfolding own_border
  rows-noticed a e differ =
      not-held (whole v)
      (λ y.
      let k = ((whole-iff v).0 y).1 in
      let l = ((whole-iff w).0 h).1 in
      differ ((own-work v k.0 k.1).rows ∙ ap spans_of (ap₂ outline a (ap letters_from e)) ∙ sym (own-work w l.0 l.1).rows))

  -- The rows decide anchor and edges
  pub edges-noticed : v.spans ≡ w.spans → (v.anchor ≡ w.anchor → work_edges v ≡ work_edges w → ⊥) → whole v ≡ false
  edges-noticed e differ =
      not-held (whole v)
      (λ y.
      let k = ((whole-iff v).0 y).1 in
      let l = ((whole-iff w).0 h).1 in
      let o = k.0 in
      let u = l.0 in
      let g = taken-has k.1.taken in
      let f = taken-has l.1.taken in
      let rows : spans_of o ≡ spans_of u = sym k.1.rows ∙ e ∙ l.1.rows in
      let cells : SameCells o u =
      λ c r. sym (spans-exact o g.reaches c r) ∙ ap (λ (s : Spans). in_spans s c r) rows ∙ spans-exact u f.reaches c r in
      let s = (same-cells-iff o u g.reaches f.reaches g.smooth f.smooth).0 cells in
      differ (sym g.anchor ∙ s.0 ∙ f.anchor) (sym g.edged ∙ s.1 ∙ f.edged))

-- ---- the word of a place

-- A word that is not 0 and names no slot
none-whole : (h : Holder) (p k : ℕ) → (word_in h p k ≡ 0 → ⊥) → slot_of p (word_in h p k) ≡ slots → whole_at h p k ≡ false
unfolding whole_at whole work_at
none-whole h p k one e = rw (ne_eqb (word_in h p k) 0 one, e) refl

-- The words are far from 0
words-far : every (λ t. leb 8 (apart 0 (word_of t))) own ≡ true
unfolding every distance word_of
words-far = refl

-- Up to seven changed bits of a word 0
pub cleared-noticed : (h : Holder) (p k : ℕ) → (word_in h p k ≡ 0 → ⊥) → apart (word_in h p k) 0 < 8 → whole_at h p k ≡ false
cleared-noticed h p k one d = none-whole h p k one (cleared-flipped p (word_in h p k) d)

-- Up to seven changed bits of a word that names slot t
pub word-noticed : (h : Holder) (p k t : ℕ) → t < own → (word_in h p k ≡ word_of t → ⊥) → apart (word_in h p k) (word_of t) < 8
    → whole_at h p k ≡ false
word-noticed h p k t l other d =
    ⊎_elim
    (λ e. absurd (other (names-word (word_in h p k) (rw e l) ∙ ap word_of e)))
    (λ b. none-whole h p k (zero b) (sym (slot-none p (word_in h p k) (tag_of (word_in h p k)) refl b)))
    (flipped (word_in h p k) t l d)
  where
    zero : own ≤ tag_of (word_in h p k) → word_in h p k ≡ 0 → ⊥
    zero b z =
        omega (
          arith,
          ap (λ (x : ℕ). apart x (word_of t)) z,
          leb-true 8 (apart 0 (word_of t)) (every-at (λ t. leb 8 (apart 0 (word_of t))) own words-far t l),
        )

-- ---- the reply of a check after the damage

-- A place of h has an outline at work and is whole. Of g, the same holder after damage, a check says so
module _ (h g : Holder) (p : ℕ) (there : p < parties) (k : ℕ) (inside : k < places) where
  damaged : whole_at g p k ≡ false → check_of g p k ≡ Err Damaged
  unfolding check_of
  damaged e = rw (lt-leb parties p there, lt-leb places k inside, e) refl

  module _ (one : word_in h p k ≡ 0 → ⊥) (sound : whole_at h p k ≡ true) where
    work-whole : whole (work_in h p k) ≡ true
    unfolding whole_at
    work-whole = rw (ne_eqb (word_in h p k) 0 one) at sound

    still : word_in g p k ≡ word_in h p k → whole (work_in g p k) ≡ false → whole_at g p k ≡ false
    unfolding whole_at
    still w e = rw (ne_eqb (word_in g p k) 0 (λ z. one (sym w ∙ z)), e) refl

    -- Any change of the rows; any change of the anchor and the counted edges
    pub check-rows : word_in g p k ≡ word_in h p k → (work_in g p k).anchor ≡ (work_in h p k).anchor
        → work_edges (work_in g p k) ≡ work_edges (work_in h p k) → ((work_in g p k).spans ≡ (work_in h p k).spans → ⊥)
        → check_of g p k ≡ Err Damaged
    check-rows w a e differ = damaged (still w (rows-noticed (work_in h p k) (work_in g p k) work-whole a e differ))

    pub check-edges : word_in g p k ≡ word_in h p k → (work_in g p k).spans ≡ (work_in h p k).spans
        → ((work_in g p k).anchor ≡ (work_in h p k).anchor → work_edges (work_in g p k) ≡ work_edges (work_in h p k) → ⊥)
        → check_of g p k ≡ Err Damaged
    check-edges w e differ = damaged (still w (edges-noticed (work_in h p k) (work_in g p k) work-whole e differ))

  -- Up to seven bits of the word that names slot t, or of the word 0
  pub check-word : (t : ℕ) → t < own → word_in h p k ≡ word_of t → (word_in g p k ≡ word_in h p k → ⊥)
      → apart (word_in g p k) (word_in h p k) < 8 → check_of g p k ≡ Err Damaged
  check-word t l w other d =
      damaged (word-noticed g p k t l (λ e. other (e ∙ sym w)) (subst (λ (x : ℕ). apart (word_in g p k) x < 8) w d))

  pub check-cleared : word_in h p k ≡ 0 → (word_in g p k ≡ word_in h p k → ⊥) → apart (word_in g p k) (word_in h p k) < 8
      → check_of g p k ≡ Err Damaged
  check-cleared w other d =
      damaged (cleared-noticed g p k (λ e. other (e ∙ sym w)) (subst (λ (x : ℕ). apart (word_in g p k) x < 8) w d))
