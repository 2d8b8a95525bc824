-- Each coordinate is the first two bytes of its number.
use Rattle.wire.proofs.point.Goals as goal

pub returns : goal.returns
returns c = rw (c.short.ensures, c.short-2.ensures)
