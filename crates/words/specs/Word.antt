-- Words over two ordered letters, counts of their letters, and their order (contract 3.7).
use Rattle.std.specs.Prelude.{ℕ, zero, suc, ◌≡◌, Bool, true, false, List, [], ◌∷◌, ◌++◌, map, eqb}

-- false is the earlier letter, true the later
abbrev pub Word : Type 0
Word = List Bool

-- A list of letters as a word: the given letter is the later one, any other is the earlier one
unfoldable pub word_of : ℕ → List ℕ → Word
word_of later letters = map (λ a. eqb a later) letters

-- How many earlier letters, and how many later ones, a word has
unfoldable pub earliers : Word → ℕ
earliers [] = zero
earliers (false ∷ w) = suc (earliers w)
earliers (true ∷ w) = earliers w

unfoldable pub laters : Word → ℕ
laters [] = zero
laters (false ∷ w) = laters w
laters (true ∷ w) = suc (laters w)

-- u is a proper prefix of v
pub record Begins (u v : Word) : Type 0 where
  pub next : Bool
  pub rest : Word
  pub whole : v ≡ u ++ next ∷ rest

-- After the common prefix `same`, u goes on with the earlier letter and v with the later
pub record Differs (u v : Word) : Type 0 where
  pub same : Word
  pub low : Word
  pub high : Word
  pub left : u ≡ same ++ false ∷ low
  pub right : v ≡ same ++ true ∷ high

-- u is smaller than v: it is a proper prefix of v, or has the earlier letter where the two first differ
pub data Less (u v : Word) : Type 0 where
  begins : Begins u v → Less u v
  differs : Differs u v → Less u v

-- The same order as a test (proofs/Order.antt: `less-iff`)
unfoldable pub less : Word → Word → Bool
less u [] = false
less [] (b ∷ v) = true
less (false ∷ u) (false ∷ v) = less u v
less (false ∷ u) (true ∷ v) = true
less (true ∷ u) (false ∷ v) = false
less (true ∷ u) (true ∷ v) = less u v
