-- Which way an outline's letters are read, and the five cut places of its border, from the places of W, N, E and S (contract 2.2, 3.3).
use Rattle.std.specs.Prelude.{ℕ, ◌+◌, ◌≤◌, ◌≡◌, Bool, false, cond, ◌&&◌, List, [], ◌∷◌, length, get_or, replicate, leb, ltb, eqb}
use Rattle.chart.specs.Limits.{longest}
use Rattle.chart.specs.Outline.{Outline}
use Rattle.convexity.specs.Cut.{ahead, cut, from_w, clockwise}
use Rattle.convexity.specs.Clockwise.{border}
use Rattle.survey_walk.specs.declared.Corners.{Corners}
use Rattle.cut_places.specs.declared.Cuts.{Cuts}

-- All four are places of a list of n letters
abbrev pub are_below : ℕ → Corners → Bool
are_below n f = ltb f.west n && (ltb f.north n && (ltb f.east n && ltb f.south n))

-- The letters are read forward where the one that leaves W is 1
unfoldable pub is_forward : List ℕ → Corners → Bool
is_forward w f = eqb (get_or w f.west 0) 1

-- How many letters lead from place w to place p of n letters, read forward or backward
unfoldable pub place_read : Bool → ℕ → ℕ → ℕ → ℕ
place_read forward n w p = cond forward (ahead n w p) (ahead n p w)

-- The five cut places of n letters from W on, by the places of N, E and S in them (contract 3.3): each is the one before it, and how far
-- the
-- next corner is ahead
unfoldable pub cuts_along : ℕ → ℕ → ℕ → ℕ → List ℕ
cuts_along n north east south =
    let first = ahead n 0 north in
    let second = first + ahead n north east in
    let third = second + ahead n east south in
    0 ∷ first ∷ second ∷ third ∷ (third + ahead n south 0) ∷ []

-- The result for every list of letters and any four places: zeros if there are more letters than an outline has, or a place is past the
-- end.
-- For an outline that passes 1 to 6 and its own corners it is `CutsOf` (proofs/ReadLaws.antt: `cuts-of`)
unfoldable pub cut_places_of : List ℕ → Corners → Cuts
cut_places_of w f =
    let n = length w in
    let placed = place_read (is_forward w f) n f.west in
    cond (leb n longest && are_below n f)
    (record { forward = is_forward w f; at = cuts_along n (placed f.north) (placed f.east) (placed f.south) })
    (record { forward = false; at = replicate 5 0 })

-- r has the way in which the outline o is read, and the cut places of its border
pub record CutsOf (o : Outline) (r : Cuts) : Type 0 where
  pub way : r.forward ≡ clockwise (from_w o)
  pub places : (k : ℕ) → k ≤ 4 → get_or r.at k 0 ≡ cut (border o) k
