-- For a list that passes 16, the words of a loose query are about the hull of the corner
-- cells, by the theorem for edges with increasing directions.
use Prim.Native.Nat.{ℕ, ◌<◌}
use native.Mathlib.Omega.{arith}
use mathlib.Core.Path.{◌≡◌, refl, sym, ap, ◌∙◌}
use mathlib.Core.Bool.{Bool, true, false, true≢false, cond, ◌||◌}
use mathlib.Core.List.{List}
use lib.Dec.{lit<}
use lib.IntN.{ℤ}
use Rattle.std.specs.Prelude.{Result, Ok, Err}
use Rattle.chart.specs.declared.Point.{Point}
use Rattle.chart.specs.declared.Position.{Position}
use Rattle.chart.specs.declared.Position.TheVariants.{Inside, Outside}
use Rattle.chart.specs.declared.Refusal.{Refusal}
use Rattle.chart.specs.declared.Refusal.TheVariants.{EdgeList, Cell, Directions}
use Rattle.chart.specs.Fields.{position_fields, refusal_fields}
use Rattle.chart.specs.Outline.{Outline}
use Rattle.convexity.specs.Clockwise.{border}
use Rattle.convexity.specs.Pieces.{Reaches, dent_piece, edges}
use Rattle.convexity.specs.Inside.{inside_edges}
use Rattle.directions.specs.Increasing.{bad_directions}
use Rattle.directions.proofs.Theorem.{inside-iff-hull}
use Rattle.directions.proofs.Taken.{taken-passes}
use Rattle.polygon.specs.Loose.{bad_list, bad_cell, loose_of, HullNamed}

module _ (a : Point) (es : List ℤ) (x : Point) where
  -- A refusal has no word, and a number
  unnamed : (f : Refusal) → (refusal_fields f).word ≡ 0 → 0 < (refusal_fields f).number → HullNamed a es x (refusal_fields f)
  unnamed f e n =
      record {
        within = (λ w. absurd (omega arith), λ (z, h). absurd (omega (arith, z)));
        beyond = (λ w. absurd (omega arith), λ (z, h). absurd (omega (arith, z)));
      }

  named :
      (l c t i : Bool) → bad_directions es ≡ t → inside_edges a es x ≡ i
      → HullNamed a es x (position_fields
      (cond l (Err (EdgeList 0)) (cond c (Err Cell) (cond t (Err Directions) (cond i (Ok Inside) (Ok Outside))))))
  named true c t i p q = unnamed (EdgeList 0) refl (lit< tt)
  named false true t i p q = unnamed Cell refl (lit< tt)
  named false false true i p q = unnamed Directions refl (lit< tt)
  named false false false true p q =
      record {
        within = (λ w. (refl, (inside-iff-hull a es x p).0 q), λ h. refl);
        beyond = (λ w. absurd (omega arith), λ (z, h). absurd (h ((inside-iff-hull a es x p).0 q)));
      }
  named false false false false p q =
      record {
        within = (λ w. absurd (omega arith), λ (z, h). absurd (true≢false (sym ((inside-iff-hull a es x p).1 h) ∙ q)));
        beyond = (λ w. (refl, λ h. true≢false (sym ((inside-iff-hull a es x p).1 h) ∙ q)), λ h. refl);
      }

  hull-named : HullNamed a es x (position_fields (loose_of a es x))
  unfolding loose_of
  hull-named = named (bad_list es) (bad_cell a || bad_cell x) (bad_directions es) (inside_edges a es x) refl refl

  -- The same for whatever equals that answer
  pub answer-named : (p : Result Position Refusal) → p ≡ loose_of a es x → (p ≡ loose_of a es x) × HullNamed a es x (position_fields p)
  answer-named p e = (e, rw e hull-named)

-- A loose query is refused by 16 only if the list does not pass it
turned-back : (a : Point) (es : List ℤ) (x : Point) → loose_of a es x ≡ Err Directions → bad_directions es ≡ true
unfolding loose_of
turned-back a es x = go (bad_list es) (bad_cell a || bad_cell x) (bad_directions es) (inside_edges a es x)
  where
    number : Result Position Refusal → ℕ
    number p = (position_fields p).number

    go :
        (l c t i : Bool) → cond l (Err (EdgeList 0)) (cond c (Err Cell) (cond t (Err Directions) (cond i (Ok Inside) (Ok Outside))))
        ≡ Err Directions
        → t ≡ true
    go true c t i e = absurd (omega (arith, ap number e))
    go false true t i e = absurd (omega (arith, ap number e))
    go false false true i e = refl
    go false false false true e = absurd (omega (arith, ap number e))
    go false false false false e = absurd (omega (arith, ap number e))

-- So it is never refused by 16 for the edges of a taken outline
pub taken-passed : (o : Outline) → Reaches o → dent_piece (border o) ≡ 4 → (a x : Point)
    → loose_of a (edges (border o)) x ≡ Err Directions → ⊥
taken-passed o h smooth a x e = true≢false (sym (turned-back a (edges (border o)) x e) ∙ taken-passes o h smooth)
