-- Counts of letters add up along a word, by induction on the word.
use Prim.Native.Nat.{ℕ, zero, suc, ◌+◌, ◌*◌, ◌≤◌, ◌<◌}
use mathlib.Core.Path.{◌≡◌, refl, sym, ap, ◌∙◌}
use mathlib.Core.Bool.{Bool, true, false}
use mathlib.Core.List.{[], ◌∷◌, ◌++◌}
use native.Mathlib.Nat.{zero-mul, le_dest}
use native.Mathlib.Omega.{arith}
use lib.ListN.{length, take, drop, get_or, length-append, take-append-drop}
use lib.Seq.{take-suc, take-add, length-take-le}
use Rattle.words.specs.Word.{Word, earliers, laters}
use Rattle.words.specs.Lyndon.{copies}

pub earliers-append : (u v : Word) → earliers (u ++ v) ≡ earliers u + earliers v
unfolding earliers
earliers-append [] v = omega arith
earliers-append (false ∷ u) v = omega (arith, earliers-append u v)
earliers-append (true ∷ u) v = earliers-append u v

pub laters-append : (u v : Word) → laters (u ++ v) ≡ laters u + laters v
unfolding laters
laters-append [] v = omega arith
laters-append (false ∷ u) v = laters-append u v
laters-append (true ∷ u) v = omega (arith, laters-append u v)

-- Every letter is the earlier or the later
pub earliers-laters : (w : Word) → earliers w + laters w ≡ length w
unfolding earliers laters
earliers-laters [] = omega arith
earliers-laters (false ∷ w) = omega (arith, earliers-laters w)
earliers-laters (true ∷ w) = omega (arith, earliers-laters w)

pub laters-le-length : (w : Word) → laters w ≤ length w
laters-le-length w = omega (arith, earliers-laters w)

pub earliers-copies : (k : ℕ) (w : Word) → earliers (copies k w) ≡ k * earliers w
unfolding copies earliers
earliers-copies zero w = rw zero-mul
earliers-copies (suc k) w = omega (arith, earliers-append w (copies k w), earliers-copies k w)

pub laters-copies : (k : ℕ) (w : Word) → laters (copies k w) ≡ k * laters w
unfolding copies laters
laters-copies zero w = rw zero-mul
laters-copies (suc k) w = omega (arith, laters-append w (copies k w), laters-copies k w)

pub length-copies : (k : ℕ) (w : Word) → length (copies k w) ≡ k * length w
unfolding copies
length-copies zero w = rw zero-mul
length-copies (suc k) w = omega (arith, length-append w (copies k w), length-copies k w)

-- A word is a prefix and the rest
pub earliers-take-drop : (i : ℕ) (w : Word) → earliers (take i w) + earliers (drop i w) ≡ earliers w
earliers-take-drop i w = sym (earliers-append (take i w) (drop i w)) ∙ ap earliers (take-append-drop i w)

pub laters-take-drop : (i : ℕ) (w : Word) → laters (take i w) + laters (drop i w) ≡ laters w
laters-take-drop i w = sym (laters-append (take i w) (drop i w)) ∙ ap laters (take-append-drop i w)

pub earliers-take-le : (i : ℕ) (w : Word) → earliers (take i w) ≤ earliers w
earliers-take-le i w = omega (arith, earliers-take-drop i w)

pub laters-take-le : (i : ℕ) (w : Word) → laters (take i w) ≤ laters w
laters-take-le i w = omega (arith, laters-take-drop i w)

-- The prefix of i letters has i letters
pub counts-take : (i : ℕ) (w : Word) → i ≤ length w → earliers (take i w) + laters (take i w) ≡ i
counts-take i w h = earliers-laters (take i w) ∙ length-take-le i w h

-- A longer prefix is a shorter one followed by more letters
pub earliers-take-add : (i j : ℕ) (w : Word) → earliers (take (i + j) w) ≡ earliers (take i w) + earliers (take j (drop i w))
earliers-take-add i j w = ap earliers (take-add i j w) ∙ earliers-append (take i w) (take j (drop i w))

pub laters-take-add : (i j : ℕ) (w : Word) → laters (take (i + j) w) ≡ laters (take i w) + laters (take j (drop i w))
laters-take-add i j w = ap laters (take-add i j w) ∙ laters-append (take i w) (take j (drop i w))

-- A longer prefix has at least as many of either letter
pub earliers-take-mono : (i j : ℕ) (w : Word) → i ≤ j → earliers (take i w) ≤ earliers (take j w)
earliers-take-mono i j w h = let (k, e) = le_dest h in rw (← e) (omega (arith, earliers-take-add i k w))

pub laters-take-mono : (i j : ℕ) (w : Word) → i ≤ j → laters (take i w) ≤ laters (take j w)
laters-take-mono i j w h = let (k, e) = le_dest h in rw (← e) (omega (arith, laters-take-add i k w))

-- The next prefix has one more letter: letter i
pub earliers-take-suc : (i : ℕ) (w : Word) → i < length w → earliers (take (suc i) w) ≡ earliers (take i w) + earliers (get_or w i false ∷ [])
earliers-take-suc i w h = ap earliers (take-suc w i false h) ∙ earliers-append (take i w) (get_or w i false ∷ [])

pub laters-take-suc : (i : ℕ) (w : Word) → i < length w → laters (take (suc i) w) ≡ laters (take i w) + laters (get_or w i false ∷ [])
laters-take-suc i w h = ap laters (take-suc w i false h) ∙ laters-append (take i w) (get_or w i false ∷ [])

-- The same if the letter is known
pub earliers-next-earlier : (i : ℕ) (w : Word) → i < length w → get_or w i false ≡ false
    → earliers (take (suc i) w) ≡ suc (earliers (take i w))
unfolding earliers
earliers-next-earlier i w h e = omega (arith, rw e at (earliers-take-suc i w h))

pub earliers-next-later : (i : ℕ) (w : Word) → i < length w → get_or w i false ≡ true → earliers (take (suc i) w) ≡ earliers (take i w)
unfolding earliers
earliers-next-later i w h e = omega (arith, rw e at (earliers-take-suc i w h))

pub laters-next-earlier : (i : ℕ) (w : Word) → i < length w → get_or w i false ≡ false → laters (take (suc i) w) ≡ laters (take i w)
unfolding laters
laters-next-earlier i w h e = omega (arith, rw e at (laters-take-suc i w h))

pub laters-next-later : (i : ℕ) (w : Word) → i < length w → get_or w i false ≡ true → laters (take (suc i) w) ≡ suc (laters (take i w))
unfolding laters
laters-next-later i w h e = omega (arith, rw e at (laters-take-suc i w h))

-- The counts of two adjacent prefixes determine the letter between them
pub letter-earlier : (i : ℕ) (w : Word) → i < length w → laters (take (suc i) w) ≤ laters (take i w) → get_or w i false ≡ false
letter-earlier i w h l = go (get_or w i false) refl
  where
    go : (a : Bool) → get_or w i false ≡ a → get_or w i false ≡ false
    go false e = e
    go true e = absurd (omega (arith, laters-next-later i w h e))
