-- A reading that is held has two good numbers.
use Rattle.readings.proofs.Numbers.{good-both}
use Rattle.readings.proofs.walk.settle.Goals as goal

pub within-requires : goal.within-requires
within-requires c = (c.requires.0, c.requires.1, (good-both c.args.r c.requires.3).0)

pub within-requires-2 : goal.within-requires-2
within-requires-2 c = (c.requires.2.0, c.requires.2.1, (good-both c.args.r c.requires.3).1)
