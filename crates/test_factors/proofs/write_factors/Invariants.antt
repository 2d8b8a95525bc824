-- Each step goes on to a later place within the word.
use Rattle.std.proofs.Common.{length, ◌-◌}
use Rattle.test_factors.proofs.write_factors.Given as goal

abbrev pub decreases-loop-factor : goal.decreases-loop-factor
decreases-loop-factor g l = length l.word - l.at
