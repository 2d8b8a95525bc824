-- Lyndon words, and the factorisation of a word into strictly decreasing Lyndon words with
-- repeats (contract 3.8 and 3.9; the theorem of Chen, Fox and Lyndon).
use Rattle.std.specs.Prelude.{ℕ, zero, suc, ◌<◌, ◌≡◌, Bool, true, false, List, [], ◌∷◌, ◌++◌, length, take, drop}
use Rattle.words.specs.Word.{Word, Less, less}

-- The rotation that starts at letter i
unfoldable pub rotation : ℕ → Word → Word
rotation i w = drop i w ++ take i w

-- A Lyndon word has at least one letter and is smaller than every other rotation of itself
pub record Lyndon (w : Word) : Type 0 where
  pub above_zero : 0 < length w
  pub least : (i : ℕ) → 0 < i → i < length w → Less w (rotation i w)

-- A factor is a word with the number of its repeats
pub record Factor : Type 0 where
  pub word : Word
  pub times : ℕ

unfoldable pub copies : ℕ → Word → Word
copies zero w = []
copies (suc k) w = w ++ copies k w

-- The word that a list of factors spells
unfoldable pub written : List Factor → Word
written [] = []
written (f ∷ fs) = copies f.times f.word ++ written fs

-- A Lyndon word, with one repeat or more
pub record Proper (f : Factor) : Type 0 where
  pub lyndon : Lyndon f.word
  pub repeated : 0 < f.times

-- Strictly decreasing: each word is larger than the next
pub data Falling : List Factor → Type 0 where
  no_factors : Falling []
  last : {f : Factor} → Proper f → Falling (f ∷ [])
  then : {f g : Factor} {fs : List Factor} → Proper f → Less g.word f.word → Falling (g ∷ fs) → Falling (f ∷ g ∷ fs)

-- fs is a factorisation of w. Exactly one exists (proofs/Factors.antt: `factors-exist`, `factors-unique`).
pub record Factoring (w : Word) (fs : List Factor) : Type 0 where
  pub falling : Falling fs
  pub whole : written fs ≡ w

-- Two words are equal, letter by letter
unfoldable pub same : Word → Word → Bool
same [] [] = true
same [] (b ∷ v) = false
same (a ∷ u) [] = false
same (false ∷ u) (false ∷ v) = same u v
same (false ∷ u) (true ∷ v) = false
same (true ∷ u) (false ∷ v) = false
same (true ∷ u) (true ∷ v) = same u v

-- The factors of a Lyndon word s followed by the word that fs spells: s absorbs the factors larger than itself
unfoldable pub push : Word → List Factor → List Factor
push s [] = record { word = s; times = 1 } ∷ []
push s (f ∷ fs) =
    elim (less s f.word) [
      | true ↦ push (s ++ copies f.times f.word) fs
      | false ↦
          elim (same s f.word) [
            | true ↦ record { word = f.word; times = suc f.times } ∷ fs
            | false ↦ record { word = s; times = 1 } ∷ f ∷ fs
          ]
    ]

-- The factors of a word, computed from its last letter to its first
unfoldable pub factors_of : Word → List Factor
factors_of [] = []
factors_of (a ∷ w) = push (a ∷ []) (factors_of w)
