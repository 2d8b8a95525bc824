-- Some taken outline has a given anchor and edges exactly if the letters computed from the edges, started at the anchor's corner, are
-- one: the edges of a taken outline give back its border, and a border is an outline whose W is its start.
use Prim.Native.Nat.{ℕ, ◌≤◌, ◌<◌}
use native.Mathlib.Omega.{arith}
use mathlib.Core.Path.{◌≡◌, sym, ap, ◌∙◌, subst}
use mathlib.Core.Logic.{◌↔◌}
use mathlib.Core.Bool.{true, false}
use mathlib.Core.List.{List, append-nil}
use lib.Dec.{ltb}
use lib.IntN.{ℤ}
use Rattle.chart.specs.declared.Point.{Point}
use Rattle.chart.specs.Outline.{Outline, outline}
use Rattle.lattice.specs.Chart.{corner_at, size, rotation}
use Rattle.lattice.specs.Refusals.{Simple}
use Rattle.lattice.specs.Enclosed.{encloses}
use Rattle.lattice.specs.Walked.{Walked}
use Rattle.lattice.proofs.WalkLaws.{walked, corner-zero, corner-injective, rotated-simple, outline-eq}
use Rattle.convexity.specs.Cut.{corner_place, west_place, west, from_w, clockwise}
use Rattle.convexity.specs.Clockwise.{clockwise_form, block, border}
use Rattle.convexity.specs.Pieces.{IsAnchor, back_step_piece, dent_piece, edges}
use Rattle.convexity.specs.FromEdges.{letters_from}
use Rattle.convexity.specs.Border.{HasEdges}
use Rattle.convexity.specs.Shape.{WalkFromW}
use Rattle.convexity.proofs.Extreme.{corner_place-lt, corner_place-first, first-unique, on_chart, from-w-of}
use Rattle.convexity.proofs.Clockwise.{form-clockwise, simple-form, clockwise-form}
use Rattle.convexity.proofs.AsSent.{block-from-w, west-anchor}
use Rattle.convexity.proofs.FromEdges.{sent-from-edges}

-- ---- a border's W is its start

module _ (o : Outline) (h : WalkFromW o) where
  pub west-start : west_place o ≡ 0
  unfolding west_place
  west-start =
      let some : 0 < size o = omega (arith, h.walked.long) in
      let m : corner_place o 0 < size o = corner_place-lt o 0 some in
      corner-injective o h.walked (corner_place o 0) 0 m some
      (first-unique 0 (corner_at o (corner_place o 0)) (corner_at o 0) (on_chart o h.walked (corner_place o 0) (omega arith))
      (on_chart o h.walked 0 (omega arith)) (rw (corner-zero o) (h.west (corner_place o 0) m)) (corner_place-first o 0 0 some))

  pub west-self : west o ≡ o.start
  unfolding from_w
  west-self = ap (corner_at o) west-start ∙ corner-zero o

  pub from-w-self : from_w o ≡ o
  unfolding from_w
  from-w-self = outline-eq (from_w o) o west-self (ap (λ (i : ℕ). rotation i o.letters) west-start ∙ append-nil o.letters)

  -- A clockwise walk from W is its own border
  form-self : clockwise o ≡ true → border o ≡ o
  form-self round = ap from_w (form-clockwise o (rw from-w-self round)) ∙ from-w-self

  has-self :
      (es : List ℤ) → Simple o → clockwise o ≡ true → ltb (back_step_piece o) 4 ≡ false → dent_piece o ≡ 4 → edges o ≡ es
      → HasEdges o o.start es
  has-self es simple round straight smooth same =
      record {
        reaches = record { simple = simple; straight = rw (form-self round) straight };
        smooth = rw (form-self round) smooth;
        anchor = ap (λ (v : Outline). v.start) (form-self round);
        edged = rw (form-self round) same;
      }

simple-from-w : (o : Outline) → Simple o → Simple (from_w o)
unfolding from_w west_place
simple-from-w o h =
    let d : Walked o = walked o h in
    let l : corner_place o 0 ≤ size o = omega (arith, corner_place-lt o 0 (omega (arith, d.long))) in
    rotated-simple o (corner_place o 0) l h

-- ---- the letters computed from the edges are the border

module _ {o : Outline} {a : Point} {es : List ℤ} (h : HasEdges o a es) where
  -- The border of a taken outline starts at the anchor and has the letters computed from its edges
  pub border-form : border o ≡ outline a (letters_from es)
  border-form =
      outline-eq (border o) (outline a (letters_from es)) h.anchor (sent-from-edges o h.reaches h.smooth
      ∙ ap letters_from h.edged)

  -- The anchor is that of contract 3.13
  pub border-anchor : IsAnchor (block o) a
  border-anchor = subst (IsAnchor (block o)) h.anchor (west-anchor o h.reaches)

  -- The border has this anchor and these edges too
  pub border-has : HasEdges (outline a (letters_from es)) a es
  border-has =
      let r = h.reaches in
      let simple = simple-form o r.simple in
      subst (λ (v : Outline). HasEdges v v.start es) border-form
      (has-self (border o) (from-w-of (clockwise_form o) simple) es (simple-from-w (clockwise_form o) simple) (clockwise-form o r.simple)
      r.straight h.smooth h.edged)

  -- It encloses the same cells
  pub border-encloses : (c r : ℕ) → encloses (outline a (letters_from es)) c r ≡ block o c r
  border-encloses c r = ap (λ (v : Outline). encloses v c r) (sym border-form) ∙ block-from-w o h.reaches.simple c r

-- Refusal 17: some taken outline has this anchor and these edges exactly if the letters
-- computed from the edges, started at the anchor's corner, are one
pub border-iff : (a : Point) (es : List ℤ) → ((o : Outline) × HasEdges o a es) ↔ HasEdges (outline a (letters_from es)) a es
border-iff a es = (λ h. border-has h.1, λ h. (outline a (letters_from es), h))

-- Two taken outlines with the same anchor and edges have the same border and enclose the same cells
pub border-unique :
    {o o' : Outline} {a : Point} {es : List ℤ} → HasEdges o a es → HasEdges o' a es
    → (border o ≡ border o') × ((c r : ℕ) → block o c r ≡ block o' c r)
border-unique h k = (border-form h ∙ sym (border-form k), λ c r. sym (border-encloses h c r) ∙ border-encloses k c r)
