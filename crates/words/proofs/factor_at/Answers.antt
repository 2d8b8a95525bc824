-- The search finds the length, the repeats and the count; the tested part of the list is one copy.
use Rattle.std.proofs.Common.{◌∙◌, sym, arith}
use native.Mathlib.Nat.{add-sub_cancel_left}
use lib.ListN.{length-take, length-drop}
use Rattle.words.proofs.WalkLaws.{searched-none, found-fits, found-counted, found-judged}
use Rattle.words.proofs.factor_at.Goals as goal

pub returns-in_err-found : goal.returns-in_err-found
returns-in_err-found c = c.from_residual.ensures ∙ searched-none _ (sym c.in_err-found.was ∙ c.first_factor.ensures)

pub overflow_add-end : goal.overflow_add-end
overflow_add-end c = omega (arith, found-fits c.args.w.now c.args.at c.args.later (sym c.in_ok-found.was ∙ c.first_factor.ensures))

pub slice_bounds-copy-end : goal.slice_bounds-copy-end
slice_bounds-copy-end c = found-fits c.args.w.now c.args.at c.args.later (sym c.in_ok-found.was ∙ c.first_factor.ensures)

pub is_christoffel-requires : goal.is_christoffel-requires
is_christoffel-requires c = (
  rw add-sub_cancel_left (found-counted c.args.w.now c.args.at c.args.later (sym c.in_ok-found.was ∙ c.first_factor.ensures)),
  simp (length-take, length-drop) (omega (arith, c.requires)),
)

pub returns : goal.returns
returns c = rw (c.is_christoffel.ensures, add-sub_cancel_left) (found-judged c.args.w.now c.args.at c.args.later (sym c.in_ok-found.was ∙ c.first_factor.ensures))
