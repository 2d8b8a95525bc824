-- Forward the way leads from W on to the place; backward it leads from the place on to W.
use Rattle.cut_places.specs.parts.Cuts.{place_read}
use Rattle.cut_places.proofs.Reading.place.Goals as goal

pub returns-then-self : goal.returns-then-self
unfolding place_read
returns-then-self c = rw c.if-self.true c.ahead.ensures

pub returns-else-self : goal.returns-else-self
unfolding place_read
returns-else-self c = rw c.if-self.false c.ahead-else-self.ensures
