-- Each return is a case of the definition, by the tests before it.
use mathlib.Core.Path.{◌≡◌, sym, ap, ◌∙◌}
use mathlib.Core.Bool.{Bool, false, cond}
use mathlib.Core.List.{List}
use lib.IntN.{ℤ}
use Rattle.std.specs.Prelude.{Ok, Err}
use Rattle.chart.specs.declared.Position.TheVariants.{Inside, Outside}
use Rattle.chart.specs.declared.Refusal.TheVariants.{Cell}
use Rattle.directions.specs.Increasing.{bad_directions}
use Rattle.polygon.specs.Loose.{bad_list, bad_directions_list, loose_of}
use Rattle.polygon.proofs.LooseCases.{inside-short, short-list, turning-short, loose-list, loose-anchor, loose-cell, loose-turning}
use Rattle.polygon.proofs.LooseCases.{loose-edges}
use Rattle.polygon.proofs.LooseHull.{answer-named}
use Rattle.polygon.proofs.loose_query.Goals.{then-bad_cell-via-then-bad_cell, then-bad_cell-via-else-bad_cell+then-bad_cell-2}
use Rattle.polygon.proofs.loose_query.Goals as goal

-- What the test of 16 says of a list that passes 10
turning-is : (es : List ℤ) {t u : Bool} → bad_list es ≡ false → t ≡ bad_directions_list es → t ≡ u → bad_directions es ≡ u
turning-is es l d t = sym (d ∙ turning-short es (short-list es l)) ∙ t

pub returns-then-bad_list : goal.returns-then-bad_list
returns-then-bad_list c =
    let a = answer-named _ _ _ _ (loose-list _ _ _ (sym c.bad_list.ensures ∙ c.if-bad_list.true)) in
    record { answer = a.0; hull = a.1 }

pub returns-then-bad_cell : goal.returns-then-bad_cell
returns-then-bad_cell c =
    let s = c.args in
    let listed = sym c.bad_list.ensures ∙ c.if-bad_list.false in
    let cell : Err Cell ≡ loose_of s.anchor s.edges.now s.cell =
    elim c.then-bad_cell.branch [
      | then-bad_cell-via-then-bad_cell w ↦ loose-anchor _ _ _ listed (sym c.bad_cell.ensures ∙ w.if-bad_cell.true)
      | then-bad_cell-via-else-bad_cell+then-bad_cell-2 w ↦
          loose-cell _ _ _ listed (sym c.bad_cell.ensures ∙ w.if-bad_cell.false) (sym w.bad_cell-else-bad_cell.ensures ∙ w.if-bad_cell-2.true)
    ]
    in
    let a = answer-named _ _ _ _ cell in
    record { answer = a.0; hull = a.1 }

pub returns-then-bad_directions : goal.returns-then-bad_directions
returns-then-bad_directions c =
    let listed = sym c.bad_list.ensures ∙ c.if-bad_list.false in
    let anchored = sym c.bad_cell.ensures ∙ c.if-bad_cell.false in
    let placed = sym c.bad_cell-else-bad_cell.ensures ∙ c.if-bad_cell-2.false in
    let a = answer-named _ _ _ _
    (loose-turning _ _ _ listed anchored placed (turning-is _ listed c.bad_directions.ensures c.if-bad_directions.true)) in
    record { answer = a.0; hull = a.1 }

pub returns-then-inside : goal.returns-then-inside
returns-then-inside c =
    let listed = sym c.bad_list.ensures ∙ c.if-bad_list.false in
    let anchored = sym c.bad_cell.ensures ∙ c.if-bad_cell.false in
    let placed = sym c.bad_cell-else-bad_cell.ensures ∙ c.if-bad_cell-2.false in
    let turned = turning-is _ listed c.bad_directions.ensures c.if-bad_directions.false in
    let held = sym (c.inside.ensures ∙ inside-short _ _ _ (short-list _ listed)) ∙ c.if-inside.true in
    let a = answer-named _ _ _ _ (sym (loose-edges _ _ _ listed anchored placed turned ∙ ap (λ (b : Bool). cond b (Ok Inside) (Ok Outside)) held)) in
    record { answer = a.0; hull = a.1 }

pub returns-else-inside : goal.returns-else-inside
returns-else-inside c =
    let listed = sym c.bad_list.ensures ∙ c.if-bad_list.false in
    let anchored = sym c.bad_cell.ensures ∙ c.if-bad_cell.false in
    let placed = sym c.bad_cell-else-bad_cell.ensures ∙ c.if-bad_cell-2.false in
    let turned = turning-is _ listed c.bad_directions.ensures c.if-bad_directions.false in
    let held = sym (c.inside.ensures ∙ inside-short _ _ _ (short-list _ listed)) ∙ c.if-inside.false in
    let a = answer-named _ _ _ _ (sym (loose-edges _ _ _ listed anchored placed turned ∙ ap (λ (b : Bool). cond b (Ok Inside) (Ok Outside)) held)) in
    record { answer = a.0; hull = a.1 }
