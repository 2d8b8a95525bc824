-- The test gets a buffer with room for the edges of any taken outline, and its number and place go into the line.
use native.Mathlib.Omega.{arith}
use mathlib.Core.Path.{ap, ◌∙◌}
use Rattle.chart.specs.declared.Fields.{Fields}
use Rattle.fitting_listing.specs.Lines.{line, tested_line}
use Rattle.fitting_listing.proofs.tested.Goals as goal

pub returns : goal.returns
unfolding tested_line
returns c =
    let told = ap (λ (f : Fields). line c.args.number f.number f.place) (c.from-fields.ensures ∙ c.test.ensures.reply) in
    record {
      line = rw (c.from-3.ensures, c.from-4.ensures) (rw (c.from.ensures, c.from-2.ensures) at told);
      small = record { answer = omega arith; place = omega arith };
    }
