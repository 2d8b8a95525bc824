-- A word of two or more letters is tested by the remainders of its own count of later letters.
use Rattle.std.proofs.Common.{◌∙◌, rules}
use Rattle.words.proofs.WordOf.{laters-word_of-le}
use Rattle.words.proofs.RemainderWalk.{christoffel-short, christoffel-long}
use Rattle.words.proofs.is_christoffel.Goals as goal

pub returns-then-w-lt2 : goal.returns-then-w-lt2
returns-then-w-lt2 c = christoffel-short _ _ c.if-w-lt2.true

pub follows_remainders-requires : goal.follows_remainders-requires
follows_remainders-requires c = (search rules, rw c.requires.0 (laters-word_of-le _ _), c.requires.1)

pub returns : goal.returns
returns c = c.follows_remainders.ensures ∙ rw c.requires.0 (christoffel-long _ _ (search rules))
