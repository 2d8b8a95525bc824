-- What a set and a set empty leave in a layer (contract 12.5).
use Rattle.std.specs.Prelude.{ℕ, ◌≡◌}
use Rattle.std.proofs.Math.Option.{Option, none, some}
use Rattle.chart.specs.Outline.{Outline}
use Rattle.chart.specs.declared.Point.{Point}
use Rattle.chart.specs.Taken.{taken_with}
use Rattle.verdict.specs.Verdict.{verdict_of}
use Rattle.spans.specs.declared.Spans.{Spans}
use Rattle.spans.specs.Spans.{no_spans, spans_of}

-- A set of the outline leaves these rows: the test takes it, and they are its rows
pub record SetTo (o : Outline) (s : Spans) : Type 0 where
  pub edges_counted : ℕ
  pub anchor : Point
  pub taken : verdict_of o ≡ taken_with edges_counted anchor
  pub rows : s ≡ spans_of o

-- The same of a layer that is empty or holds an outline
unfoldable pub LeftBy : Option Outline → Spans → Type 0
LeftBy none s = s ≡ no_spans
LeftBy (some o) s = SetTo o s
