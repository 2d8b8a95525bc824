-- A work that some taking leaves is the work of its own border, so the border that its edges give decides.
use Prim.Native.Nat.{ℕ, ◌≤◌, ◌<◌}
use native.Mathlib.Omega.{arith}
use mathlib.Core.Path.{◌≡◌, refl, sym, ap, ap₂, subst, ◌∙◌}
use Rattle.std.specs.Prelude.{Result, Ok}
use mathlib.Core.Logic.{◌↔◌}
use mathlib.Core.Bool.{Bool, true, false, ◌&&◌, and-eq-true_iff}
use mathlib.Core.List.{List}
use lib.ListN.{length, take}
use lib.IntN.{ℤ}
use lib.Dec.{leb}
use borrow.Author.Tests.{leb-false, le-ltb, lt-ltb, eq-eqb, ne_eqb}
use Rattle.base.proofs.BelowLaws.{not-held, or-false-iff}
use Rattle.chart.specs.Limits.{side, longest}
use Rattle.chart.specs.declared.Point.{Point}
use Rattle.chart.specs.Outline.{Outline, at, outline}
use Rattle.lattice.specs.Chart.{size}
use Rattle.lattice.proofs.WalkLaws.{walked}
use Rattle.convexity.specs.Border.{HasEdges}
use Rattle.convexity.specs.FromEdges.{letters_from}
use Rattle.convexity.proofs.Border.{border-form, border-has}
use Rattle.spans.specs.declared.Spans.{Spans}
use Rattle.spans.specs.Spans.{spans_of}
use Rattle.spans.proofs.Exact.{same-border}
use Rattle.polygon.specs.Loose.{bad_cell}
use Rattle.polygon.proofs.Taken.{taken-anchored}
use Rattle.chart.specs.declared.Refusal.{Refusal}
use Rattle.border_model.specs.Traced.{traced_of, traced_fields}
use Rattle.border_model.specs.Named.{BorderOf, BorderNamed}
use Rattle.border_model.specs.Outlined.{TakenAs, outlined}
use Rattle.border_model.proofs.Outlines.{taken-has, has-taken, outlined-iff, outlined-border}
use Rattle.border_model.proofs.Own.{own-suffices}
use Rattle.images.specs.Image.{same_bytes}
use Rattle.images.proofs.Images.{same-bytes-iff}
use Rattle.holder_records.specs.Work.{Work, work_edges}
use Rattle.holder_memory.specs.Layout.{Holder, slots, work_at}
use Rattle.holder_answers.specs.Arrays.{slot_in}
use Rattle.std.specs.Prelude.{Err}
use Rattle.chart.specs.declared.Refusal.TheVariants.{Damaged}
use Rattle.holder_images.specs.Whole.{same_spans, WorkOf, own_border, whole, word_in, whole_at, border_in}
use Rattle.holder_images.specs.parts.Found.{whole_with, Holds}

pub same-spans-iff : (x y : Spans) → (same_spans x y ≡ true) ↔ (x ≡ y)
unfolding same_spans
same-spans-iff x y =
    let both = and-eq-true_iff (same_bytes x.first y.first) (same_bytes x.past y.past) in (
      λ e.
          ap₂ (λ (a b : List ℕ). record { first = a; past = b }) ((same-bytes-iff x.first y.first).0 (both.0 e).0)
          ((same-bytes-iff x.past y.past).0 (both.0 e).1),
      λ e.
          both.1 (
            (same-bytes-iff x.first y.first).1 (ap (λ (z : Spans). z.first) e),
            (same-bytes-iff x.past y.past).1 (ap (λ (z : Spans). z.past) e),
          ),
    )

-- ---- a work

pub own-work : (w : Work) (o : Outline) → WorkOf w o → WorkOf w (own_border w)
unfolding own_border
own-work w o k =
    let h : HasEdges o w.anchor (work_edges w) = taken-has k.taken in
    let g : HasEdges (own_border w) w.anchor (work_edges w) = border-has h in
    record {
      taken = has-taken g;
      rows = k.rows ∙ same-border o (own_border w) h.reaches g.reaches (border-form h ∙ sym (border-form g));
    }

-- The test passes exactly when an outline is at work and some taking leaves it
pub whole-iff : (w : Work) → (whole w ≡ true) ↔ ((w.taken ≡ true) × ((o : Outline) × WorkOf w o))
unfolding whole
whole-iff w =
    let a : Bool = outlined w.anchor (work_edges w) in
    let b : Bool = same_spans w.spans (spans_of (own_border w)) in
    let outer = and-eq-true_iff w.taken (a && b) in
    let inner = and-eq-true_iff a b in
    let rows = same-spans-iff w.spans (spans_of (own_border w)) in (
      λ e.
          let i = inner.0 (outer.0 e).1 in
          ((outer.0 e).0, (own_border w, record { taken = own-taken i.0; rows = rows.0 i.1 })),
      λ h.
          let o : Outline = h.1.0 in
          let k : WorkOf w o = h.1.1 in
          outer.1 (h.0, inner.1 ((outlined-iff w.anchor (work_edges w)).1 (o, k.taken), rows.1 (own-work w o k).rows)),
    )
  where
    own-taken : outlined w.anchor (work_edges w) ≡ true → TakenAs (own_border w) w.anchor (work_edges w)
    own-taken e = unfold own_border in (outlined-border w.anchor (work_edges w) e).taken

-- ---- what a border call says

module _ (w : Work) (a : Point) (es : List ℤ) (ea : a ≡ w.anchor) (ee : es ≡ work_edges w)
    (before after : List ℕ) (room : length before ≡ longest) (t : Result ℕ Refusal) (said : t ≡ traced_of a es (length before))
    (named : BorderNamed a es (traced_fields t) before after) where
  to-work : (o : Outline) → TakenAs o a es → TakenAs o w.anchor (work_edges w)
  to-work o k = subst (λ (x : Point). TakenAs o x (work_edges w)) ea (subst (TakenAs o a) ee k)

  of-work : (o : Outline) → TakenAs o w.anchor (work_edges w) → TakenAs o a es
  of-work o k = subst (TakenAs o a) (sym ee) (subst (λ (x : Point). TakenAs o x (work_edges w)) (sym ea) k)

  module _ (n : ℕ) (e : t ≡ Ok n) where
    traced-border : BorderOf a es (take n after)
    unfolding traced_fields
    traced-border = (subst (λ (x : Result ℕ Refusal). BorderNamed a es (traced_fields x) before after) e named).written refl

    traced-own : take n after ≡ letters_from es
    traced-own =
        let b = traced-border in
        ap (λ (v : Outline). v.letters) (sym (b.own (outline a (take n after)) b.taken) ∙ border-form (taken-has b.taken))

    pub own_is : outline a (take n after) ≡ own_border w
    unfolding own_border
    own_is = ap₂ outline ea (traced-own ∙ ap letters_from ee)

    pub traced-count : n ≤ longest
    traced-count =
        let b = traced-border in
        let v : Outline = outline a (take n after) in
        let f : ◌≡◌ {A = Result ℕ Refusal} (Ok n) (Ok (size v)) = sym e ∙ said ∙ (own-suffices b.taken before (omega arith)).0 in
        let g : n ≡ size v = cc in
        omega (arith, g, (walked v (taken-has b.taken).reaches.simple).short)

    pub anchor-fits : (a.col < side) × (a.row < side)
    unfolding bad_cell
    anchor-fits =
        let b : bad_cell a ≡ false = taken-anchored (taken-has traced-border.taken) in
        let both = (or-false-iff (leb side a.col) (leb side a.row)).0 b in
        (leb-false side a.col both.0, leb-false side a.row both.1)

    pub found-whole : w.taken ≡ true → w.spans ≡ spans_of (outline a (take n after)) → whole w ≡ true
    found-whole busy same =
        (whole-iff w).1 (busy, (outline a (take n after), record { taken = to-work _ traced-border.taken; rows = same }))

    pub found-other : (w.spans ≡ spans_of (outline a (take n after)) → ⊥) → whole w ≡ false
    found-other differ =
        not-held (whole w)
        (λ y. let k = ((whole-iff w).0 y).1 in differ ((own-work w k.0 k.1).rows ∙ ap spans_of (sym own_is)))

  pub found_none : ((n : ℕ) → t ≡ Ok n → ⊥) → whole w ≡ false
  found_none never =
      not-held (whole w)
      (λ y.
      let k = ((whole-iff w).0 y).1 in
      never _ (said ∙ (own-suffices (of-work k.0 k.1.taken) before (omega arith)).0))

-- ---- a place

module _ (h : Holder) (p k : ℕ) (l : List ℕ) where
  pub holds-nothing : word_in h p k ≡ 0 → Holds h p k l (whole_with (at 0 0) 0)
  unfolding Holds whole_at border_in
  holds-nothing e =
      let z = eq-eqb (word_in h p k) 0 e in
      (rw z refl, rw z refl, omega arith, omega arith, omega arith)

  module _ (one : word_in h p k ≡ 0 → ⊥) (u : ℕ) (at-u : u ≡ slot_in h p k) where
    abbrev work : Work
    work = work_at h.rows h.numbers h.heads u

    pub holds-damaged : whole work ≡ false → Holds h p k l (Err Damaged)
    unfolding Holds whole_at
    holds-damaged e = (refl, rw (ne_eqb (word_in h p k) 0 one, ← at-u, e) refl)

    pub holds-idle : slots ≤ u → Holds h p k l (Err Damaged)
    holds-idle e = holds-damaged (idle e)
      where
        idle : slots ≤ u → whole work ≡ false
        idle i = unfold whole in unfold work_at in rw (le-ltb u slots i) refl

    pub holds-whole : (s : Point) (n : ℕ) → whole work ≡ true → outline s (take n l) ≡ own_border work → n ≤ longest
        → (s.col < side) × (s.row < side) → Holds h p k l (whole_with s n)
    unfolding Holds whole_at border_in
    holds-whole s n e own few low =
        let z = ne_eqb (word_in h p k) 0 one in
        (rw (z, ← at-u, e) refl, rw (z, ← at-u) own, few, low.0, low.1)

    pub busy : u < slots → work.taken ≡ true
    unfolding work_at
    busy e = lt-ltb u slots e
