-- A letter read cyclically is the one a round before: one law for each of the four rounds.
use Rattle.back_steps.proofs.BackStepLaws.{letter-once, letter-twice, letter-thrice, letter-fourth}
use Rattle.back_steps.proofs.letter_round.Goals as goal

pub returns-then-i-n : goal.returns-then-i-n
returns-then-i-n c = letter-once _ _ c.if-i-n.true

pub returns-then-i-n-2 : goal.returns-then-i-n-2
returns-then-i-n-2 c = letter-twice _ _ c.if-i-n.false c.if-i-n-2.true

pub returns-then-i-n-3 : goal.returns-then-i-n-3
returns-then-i-n-3 c = letter-thrice _ _ c.if-i-n-2.false c.if-i-n-3.true

pub returns : goal.returns
returns c = letter-fourth _ _ c.if-i-n-3.false c.requires.1
