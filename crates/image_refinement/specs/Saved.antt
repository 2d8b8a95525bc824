-- What a save gives of an outline of the plain book, or of none (contract 13.5 and 13.7).
use Rattle.std.proofs.Math.Option.{Option, none, some}
use Rattle.chart.specs.Outline.{Outline}
use Rattle.convexity.specs.Clockwise.{border}
use Rattle.holder_images.specs.Whole.{empty_outline}

unfoldable pub saved_outline : Option Outline → Outline
saved_outline none = empty_outline
saved_outline (some o) = border o
