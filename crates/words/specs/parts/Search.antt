-- What the searches of src/ return, in terms of the list of a word's factors.
use Rattle.std.specs.Prelude.{ℕ, Bool, true, false, List, [], ◌∷◌, length, eqb, Option, Some, None}
use Rattle.words.specs.declared.Found.{Found}
use Rattle.words.specs.declared.JudgedFactor.{JudgedFactor}
use Rattle.words.specs.Word.{laters}
use Rattle.words.specs.Lyndon.{Factor}
use Rattle.words.specs.Christoffel.{christoffel}

-- The earlier letter has rank 0, the later 1
abbrev pub rank : Bool → ℕ
rank true = 1
rank false = 0

abbrev pub rank_of : ℕ → ℕ → ℕ
rank_of letter later = rank (eqb letter later)

-- The first factor, if there is one: the length of one copy, the repeats, and the later letters of one copy
unfoldable pub first_of : List Factor → Option Found
first_of [] = None
first_of (f ∷ fs) = Some (record { length = length f.word; times = f.times; laters = laters f.word })

-- One factor in the same form, and whether a copy is a Christoffel word
abbrev pub judge : Factor → JudgedFactor
judge f = record { length = length f.word; times = f.times; laters = laters f.word; christoffel = christoffel f.word }

-- The first factor in that form, if there is one
unfoldable pub judged : List Factor → Option JudgedFactor
judged [] = None
judged (f ∷ fs) = Some (judge f)
