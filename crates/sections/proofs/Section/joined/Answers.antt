-- The lines are the definition's. The weights are below the number of layers, so the upper line stays on the chart.
use native.Mathlib.Omega.{arith}
use mathlib.Core.Path.{sym, ◌∙◌}
use Rattle.sections.specs.Sections.{low_line, high_line, joined}
use Rattle.sections.proofs.Quotients.{line_small}
use Rattle.sections.proofs.Section.joined.Goals as goal

pub returns-then-not-is_full : goal.returns-then-not-is_full
unfolding joined
returns-then-not-is_full c = (rw (sym c.is_full.ensures ∙ c.if-not-is_full.true), c.requires.3)

pub raised-requires : goal.raised-requires
raised-requires c =
    let (before, after, small, bounded) = c.requires in (
      bounded.1,
      line_small c.args.i c.args.j c.args.k c.saturating_sub.result c.saturating_sub-2.result c.weighed-over.result before after
          (omega (arith, c.saturating_sub.ensures, c.end.ensures)) (omega (arith, c.saturating_sub-2.ensures, c.end-2.ensures))
          c.weighed-over.ensures.0,
      omega (arith, before, after),
      omega (arith, small),
    )

pub returns : goal.returns
unfolding joined low_line high_line
returns c = (
  rw (
    sym c.is_full.ensures ∙ c.if-not-is_full.false,
    c.lowered.ensures.0,
    c.raised.ensures.0,
    c.weighed-over.ensures.0,
    c.weighed-below.ensures.0,
    c.saturating_sub-2.ensures,
    c.saturating_sub.ensures,
    c.end-2.ensures.0,
    c.end.ensures.0,
    c.first-2.ensures.0,
    c.first.ensures.0,
  ),
  (c.lowered.ensures.1, c.raised.ensures.1),
)
