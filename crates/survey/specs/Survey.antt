-- Refusals 1 to 6 of an outline: the first that applies (contract 5.1); and W, N, E and S of one to which none does.
use Rattle.std.specs.Prelude.{◌-◌, cond, ltb, Result, Ok, Err}
use Rattle.chart.specs.declared.Refusal.TheVariants.{Length, Start, Letter, OffChart, NotClosed, Touches}
use Rattle.chart.specs.Outline.{Outline}
use Rattle.lattice.specs.Chart.{size}
use Rattle.lattice.specs.Refusals.{bad_count, bad_start, letter_place, leaving_place, unclosed, touching_place}
use Rattle.survey_walk.specs.Corners.{corners_of}
use Rattle.survey_walk.specs.declared.Corners.{Corners}
use Rattle.chart.specs.declared.Refusal.{Refusal}

unfoldable pub survey_of : Outline → Result Corners Refusal
survey_of o =
    cond (bad_count o.letters) (Err Length)
    (cond (bad_start o.start) (Err Start)
    (cond (ltb (letter_place o.letters) (size o)) (Err (Letter (letter_place o.letters)))
    (cond (ltb (leaving_place o) (size o)) (Err (OffChart (leaving_place o)))
    (cond (unclosed o) (Err NotClosed)
    (cond (ltb (touching_place o) (size o - 1)) (Err (Touches (touching_place o))) (Ok (corners_of o)))))))
