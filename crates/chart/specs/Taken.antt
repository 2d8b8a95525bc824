-- A verdict on an outline is `Result Taken Refusal`. This is the one that takes it, with n edges and the anchor a.
use Rattle.std.specs.Prelude.{ℕ, Result, Ok}
use Rattle.chart.specs.declared.Point.{Point}
use Rattle.chart.specs.declared.Refusal.{Refusal}
use Rattle.chart.specs.declared.Taken.{Taken}

abbrev pub taken_with : ℕ → Point → Result Taken Refusal
taken_with n a = Ok (record { edges = n; anchor = a })
