-- What the plain book says of a draft (contract 7.12).
use Rattle.std.proofs.Math.Option.{Option, none, some}
use Rattle.std.specs.Prelude.{length, Err}
use Rattle.chart.specs.Outline.{Outline}
use Rattle.chart.specs.declared.Refusal.TheVariants.{NoDraft}
use Rattle.holder_answers.specs.Arrays.{Drafting, drafted}

-- None, or its start and how many letters it has
unfoldable pub told : Option Outline → Drafting
told none = Err NoDraft
told (some o) = drafted o.start (length o.letters)
