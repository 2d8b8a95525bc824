-- A list of letters and the word that it spells agree letter by letter, by induction on the list.
use Prim.Native.Nat.{ℕ, zero, suc, ◌≤◌, ◌<◌}
use mathlib.Core.Path.{◌≡◌, refl}
use mathlib.Core.Bool.{false}
use mathlib.Core.List.{List, [], ◌∷◌}
use native.Mathlib.Omega.{arith}
use lib.ListN.{length, take, drop, get_or, length-map}
use lib.Dec.{eqb}
use Rattle.words.specs.Word.{word_of, laters}
use Rattle.words.proofs.Counts.{laters-le-length}

pub length-word_of : (later : ℕ) (l : List ℕ) → length (word_of later l) ≡ length l
unfolding word_of
length-word_of later l = length-map l (λ a. eqb a later)

pub word_of-drop : (later n : ℕ) (l : List ℕ) → word_of later (drop n l) ≡ drop n (word_of later l)
unfolding word_of
word_of-drop later zero l = refl
word_of-drop later (suc n) [] = refl
word_of-drop later (suc n) (a ∷ l) = word_of-drop later n l

pub word_of-take : (later n : ℕ) (l : List ℕ) → word_of later (take n l) ≡ take n (word_of later l)
unfolding word_of
word_of-take later zero l = refl
word_of-take later (suc n) [] = refl
word_of-take later (suc n) (a ∷ l) = rw (word_of-take later n l)

-- Letter i of the word is the test of letter i of the list
pub letter-word_of : (later : ℕ) (l : List ℕ) (i : ℕ) → i < length l → get_or (word_of later l) i false ≡ eqb (get_or l i 0) later
unfolding word_of
letter-word_of later [] i h = absurd (omega arith)
letter-word_of later (a ∷ l) zero h = refl
letter-word_of later (a ∷ l) (suc i) h = letter-word_of later l i (omega arith)

pub laters-word_of-le : (later : ℕ) (l : List ℕ) → laters (word_of later l) ≤ length l
laters-word_of-le later l = omega (arith, length-word_of later l, laters-le-length (word_of later l))
