-- Eight of the sixteen bits of the word are set.
use mathlib.Core.Path.{◌≡◌, refl}
use Rattle.pile_refinement.specs.Words.{distance}
use Rattle.pile_calls.specs.Arrays.{passed_word}

pub far-from-zeros : distance 16 passed_word 0 ≡ 8
unfolding distance
far-from-zeros = refl

pub far-from-ones : distance 16 passed_word 65535 ≡ 8
unfolding distance
far-from-ones = refl
