-- The walk from the anchor finds the wanted command: a line at its position, and behind the lines a close or nothing.
use Rattle.std.proofs.Common.{◌+◌, ◌-◌, ◌*◌, ◌≡◌, pos, get_or, sym, ap, ◌∙◌, arith, rules}
use mir.Syntax.{w16}
use mir.Val.{SFits}
use mir.ValLaws.{to_z-of_z}
use Rattle.drawing.specs.Drawing.{stroke_at}
use Rattle.drawing.proofs.Walks.{stroke-first, stroke-wanted, past, walked-same, walked_line, walked_next, walked_end}
use Rattle.drawing.proofs.stroke_at.Goals as goal

pub returns-then-position-eq0 : goal.returns-then-position-eq0
returns-then-position-eq0 c = sym (ap (stroke_at _ _) c.if-position-eq0.true ∙ stroke-first _ _)

pub returns-then-i-wanted : goal.returns-then-i-wanted
returns-then-i-wanted c =
    let at = 2 * c.loop-i.i - 2 in
    let fx : SFits w16 (get_or c.args.edges.now at (pos 0)) = search rules in
    let fy : SFits w16 (get_or c.args.edges.now (at + 1) (pos 0)) = search rules in
    let step = simp (to_z-of_z w16 _ fx, to_z-of_z w16 _ fy) at c.further-at.ensures in
    rw step at c.line_to.ensures
    ∙ sym (walked_line c.loop-i.invariant.2 (omega arith) (omega arith))
    ∙ stroke-wanted c.args.anchor c.args.edges.now c.args.position c.from-wanted.result c.if-position-eq0.false c.from-wanted.ensures

pub loop-i-preserved : goal.loop-i-preserved
loop-i-preserved c =
    let at = 2 * c.loop-i.i - 2 in
    let fx : SFits w16 (get_or c.args.edges.now at (pos 0)) = search rules in
    let fy : SFits w16 (get_or c.args.edges.now (at + 1) (pos 0)) = search rules in
    let step = simp (to_z-of_z w16 _ fx, to_z-of_z w16 _ fy) at c.further-at.ensures in
    let next = walked_next c.loop-i.invariant.2 (omega arith) (λ e. c.if-i-wanted.false (omega arith)) fx fy in
    (omega arith, omega arith, rw step (walked-same next (omega arith) (omega arith)))

pub returns-then-wanted-max : goal.returns-then-wanted-max
returns-then-wanted-max c =
    let none_left : c.from-wanted.result - c.loop-i.i ≡ 0 = omega (arith, c.max.ensures) in
    sym (sym (stroke-wanted c.args.anchor c.args.edges.now c.args.position c.from-wanted.result c.if-position-eq0.false c.from-wanted.ensures)
    ∙ walked_end c.loop-i.invariant.2 (omega arith)
    ∙ rw none_left)

pub returns-else-wanted-max : goal.returns-else-wanted-max
returns-else-wanted-max c =
    sym (sym (stroke-wanted c.args.anchor c.args.edges.now c.args.position c.from-wanted.result c.if-position-eq0.false c.from-wanted.ensures)
    ∙ walked_end c.loop-i.invariant.2 (omega arith)
    ∙ past _ (λ e. c.if-wanted-max.false (omega (arith, c.max.ensures))))
