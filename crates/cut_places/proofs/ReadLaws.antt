-- The border passes the corners of the outline as sent, so its N, E and S are as far ahead of W as they are there, or, read backward, as
-- far behind.
use Prim.Native.Nat.{ℕ, ◌+◌, ◌-◌, ◌≤◌, ◌<◌}
use native.Mathlib.Decide.{dec_le, dec_lt}
use native.Mathlib.Omega.{arith}
use mathlib.Core.Path.{◌≡◌, refl, sym, ap, ◌∙◌}
use mathlib.Core.Bool.{Bool, true, false, cond, ◌&&◌}
use mathlib.Core.List.{List, [], ◌∷◌}
use lib.ListN.{length, get_or, replicate}
use lib.Dec.{leb, ltb, eqb}
use borrow.Author.Tests.{ltb-true, lt-ltb, le-leb, lt-leb}
use Rattle.base.proofs.BelowLaws.{and_left, and_right}
use Rattle.chart.specs.Limits.{longest}
use Rattle.chart.specs.Outline.{Outline}
use Rattle.lattice.specs.Chart.{corner_at, size, letter_at}
use Rattle.lattice.specs.Refusals.{Simple}
use Rattle.lattice.specs.Walked.{Walked}
use Rattle.lattice.proofs.WalkLaws.{walked, length-rotation, corner-zero, corner-injective, corner-rotation-before, corner-rotation-after}
use Rattle.convexity.specs.Cut.{ahead, corner_place, west_place, from_w, clockwise}
use Rattle.convexity.specs.Clockwise.{reversed, clockwise_form, border}
use Rattle.convexity.proofs.Extreme.{corner_place-lt, from-w-of}
use Rattle.convexity.proofs.Clockwise.{corner-backward, from-w-form, simple-form, length-backward, leaving-west}
use Rattle.convexity.proofs.Corners.{corner-form}
use Rattle.convexity.proofs.Cuts.{ahead-on}
use Rattle.survey_walk.specs.declared.Corners.{Corners}
use Rattle.survey_walk.specs.Corners.{corners_of}
use Rattle.cut_places.specs.parts.Cuts.{are_below, is_forward, place_read, cuts_along, cut_places_of, CutsOf}
use Rattle.cut_places.proofs.CutLaws.{ahead-round, cuts-along}

pub ahead-lt : (n a b : ℕ) → a < n → b < n → ahead n a b < n
ahead-lt n a b h l =
    elim (dec_le a b) [ yes m ↦ omega (arith, ahead-on n a b m) | no m ↦ omega (arith, ahead-round n a b (omega arith) (omega arith)) ]

read-lt : (forward : Bool) (n w p : ℕ) → w < n → p < n → place_read forward n w p < n
unfolding place_read
read-lt true n w p h l = ahead-lt n w p h l
read-lt false n w p h l = ahead-lt n p w l h

pub read-le : (forward : Bool) {n w p r : ℕ} → r ≡ place_read forward n w p → w < n → p < n → r ≤ n
read-le forward {n} {w} {p} e h l = omega (arith, e, read-lt forward n w p h l)

-- On from a to b and on from b to a is once round
ahead-back : (n a b : ℕ) → a < n → b < n → (a ≡ b → ⊥) → n - ahead n b a ≡ ahead n a b
ahead-back n a b h l d =
    elim (dec_lt a b) [
      | yes m ↦ omega (arith, ahead-on n a b (omega arith), ahead-round n b a m (omega arith))
      | no m ↦ omega (arith, ahead-on n b a (omega arith), ahead-round n a b (omega arith) (omega arith))
    ]

module _ (o : Outline) (simple : Simple o) where
  d : Walked o
  d = walked o simple

  west-lt : west_place o < size o
  unfolding west_place
  west-lt = corner_place-lt o 0 (omega (arith, d.long))

  from-w-size : size (from_w o) ≡ size o
  unfolding from_w
  from-w-size = length-rotation o (west_place o) (omega (arith, west-lt))

  from-w-walked : Walked (from_w o)
  from-w-walked = (from-w-of o simple).walked

  from-w-corner : (p : ℕ) → p < size o → corner_at (from_w o) (ahead (size o) (west_place o) p) ≡ corner_at o p
  unfolding from_w
  from-w-corner p l =
      let w = west_place o in
      let wl : w ≤ size o = omega (arith, west-lt) in
      elim (dec_le w p) [
        | yes h ↦ rw (ahead-on (size o) w p h) (corner-rotation-before o w wl (p - w) (omega arith) ∙ ap (corner_at o) (omega arith))
        | no h ↦
            rw (ahead-round (size o) w p (omega arith) wl)
            (corner-rotation-after o w wl d.closed (size o - w + p) (omega arith) (omega arith) ∙ ap (corner_at o) (omega arith))
      ]

  back-corner : (p : ℕ) → p < size o → corner_at (reversed (from_w o)) (ahead (size o) p (west_place o)) ≡ corner_at o p
  back-corner p l =
      let w = west_place o in
      let wl = west-lt in
      let n = from-w-size in
      elim (dec_lt w p) [
        | yes h ↦ apart (λ e. omega arith)
        | no h ↦ elim (dec_lt p w) [ yes m ↦ apart (λ e. omega arith) | no m ↦ let e : p ≡ w = omega arith in same e ]
      ]
    where
      apart : (west_place o ≡ p → ⊥) → corner_at (reversed (from_w o)) (ahead (size o) p (west_place o)) ≡ corner_at o p
      apart e =
          corner-backward (from_w o) from-w-walked (ahead (size o) p (west_place o))
          (omega (arith, from-w-size, ahead-lt (size o) p (west_place o) l west-lt))
          ∙ ap (corner_at (from_w o)) (omega (arith, from-w-size, ahead-back (size o) (west_place o) p west-lt l e)) ∙ from-w-corner p l

      same : p ≡ west_place o → corner_at (reversed (from_w o)) (ahead (size o) p (west_place o)) ≡ corner_at o p
      same e =
          let z : ahead (size o) p (west_place o) ≡ 0 = omega (arith, ahead-on (size o) p (west_place o) (omega arith)) in
          let y : ahead (size o) (west_place o) p ≡ 0 = omega (arith, ahead-on (size o) (west_place o) p (omega arith)) in
          ap (corner_at (reversed (from_w o))) z ∙ corner-zero (reversed (from_w o)) ∙ sym (corner-zero (from_w o))
          ∙ ap (corner_at (from_w o)) (sym y) ∙ from-w-corner p l

  border-corner : (p : ℕ) → p < size o → corner_at (border o) (place_read (clockwise (from_w o)) (size o) (west_place o) p) ≡ corner_at o p
  unfolding place_read
  border-corner p l = ap (λ (v : Outline). corner_at v (place_read (clockwise (from_w o)) (size o) (west_place o) p)) (from-w-form o simple)
      ∙ go (clockwise (from_w o))
    where
      go : (b : Bool) → corner_at (cond b (from_w o) (reversed (from_w o))) (place_read b (size o) (west_place o) p) ≡ corner_at o p
      go true = from-w-corner p l
      go false = back-corner p l

  pub border-size : size (border o) ≡ size o
  border-size = ap size (from-w-form o simple) ∙ go (clockwise (from_w o))
    where
      go : (b : Bool) → size (cond b (from_w o) (reversed (from_w o))) ≡ size o
      go true = from-w-size
      go false = length-backward (from_w o).letters ∙ from-w-size

  pub border-place : (k : ℕ) → corner_place (border o) k ≡ place_read (clockwise (from_w o)) (size o) (west_place o) (corner_place o k)
  border-place k =
      let long = d.long in
      let n = border-size in
      let l : corner_place o k < size o = corner_place-lt o k (omega arith) in
      corner-injective (border o) (from-w-of (clockwise_form o) (simple-form o simple)).walked (corner_place (border o) k)
      (place_read (clockwise (from_w o)) (size o) (west_place o) (corner_place o k)) (corner_place-lt (border o) k (omega arith))
      (omega (arith, read-lt (clockwise (from_w o)) (size o) (west_place o) (corner_place o k) west-lt l))
      (corner-form o simple k ∙ sym (border-corner (corner_place o k) l))

-- ---- from the places found

-- All four are places of a list of n letters
pub record Places (n : ℕ) (f : Corners) : Type 0 where
  pub west : f.west < n
  pub north : f.north < n
  pub east : f.east < n
  pub south : f.south < n

module _ (n : ℕ) (f : Corners) where
  pub below-places : are_below n f ≡ true → Places n f
  below-places e =
      let three = and_right (ltb f.west n) (ltb f.north n && (ltb f.east n && ltb f.south n)) e in
      let two = and_right (ltb f.north n) (ltb f.east n && ltb f.south n) three in
      record {
        west = ltb-true f.west n (and_left (ltb f.west n) (ltb f.north n && (ltb f.east n && ltb f.south n)) e);
        north = ltb-true f.north n (and_left (ltb f.north n) (ltb f.east n && ltb f.south n) three);
        east = ltb-true f.east n (and_left (ltb f.east n) (ltb f.south n) two);
        south = ltb-true f.south n (and_right (ltb f.east n) (ltb f.south n) two);
      }

  places-below : Places n f → are_below n f ≡ true
  places-below p =
      rw (lt-ltb f.west n p.west, lt-ltb f.north n p.north, lt-ltb f.east n p.east, lt-ltb f.south n p.south)

-- ---- the definition, by its two tests

cond-off : {A : Type 0} (a : Bool) {b : Bool} (x y : A) → b ≡ false → cond (a && b) x y ≡ y
cond-off true x y e = rw e
cond-off false x y e = refl

module _ (w : List ℕ) (f : Corners) where
  -- Too many letters, or a place past the end of the list
  pub cuts-long : longest < length w → cut_places_of w f ≡ record { forward = false; at = replicate 5 0 }
  unfolding cut_places_of
  cuts-long h = rw (lt-leb (length w) longest h)

  pub cuts-off : are_below (length w) f ≡ false → cut_places_of w f ≡ record { forward = false; at = replicate 5 0 }
  unfolding cut_places_of
  cuts-off h = cond-off (leb (length w) longest) _ _ h

  -- Otherwise the sums
  abbrev placed : ℕ → ℕ
  placed p = place_read (is_forward w f) (length w) f.west p

  abbrev sums : List ℕ
  sums = cuts_along (length w) (placed f.north) (placed f.east) (placed f.south)

  cuts-found : length w ≤ longest → Places (length w) f → cut_places_of w f ≡ record { forward = is_forward w f; at = sums }
  unfolding cut_places_of
  cuts-found h p = rw (le-leb (length w) longest h, places-below (length w) f p)

  pub cuts-summed : {north east south a b c d : ℕ} → length w ≤ longest → Places (length w) f
      → north ≡ placed f.north → east ≡ placed f.east → south ≡ placed f.south
      → a ≡ ahead (length w) 0 north → b ≡ ahead (length w) north east → c ≡ ahead (length w) east south → d ≡ ahead (length w) south 0
      → record { forward = is_forward w f; at = 0 ∷ a ∷ (a + b) ∷ (a + b + c) ∷ (a + b + c + d) ∷ [] } ≡ cut_places_of w f
  unfolding cuts_along
  cuts-summed {north} {east} {south} {a} {b} {c} {d} h p n e s ea eb ec ed =
      let same : (0 ∷ a ∷ (a + b) ∷ (a + b + c) ∷ (a + b + c + d) ∷ []) ≡ sums = cc in
      (λ i. record { forward = is_forward w f; at = same i }) ∙ sym (cuts-found h p)

-- ---- the corners of an outline past 1 to 6

module _ {o : Outline} {f : Corners} (simple : Simple o) (h : f ≡ corners_of o) where
  found-west : f.west ≡ west_place o
  unfolding corners_of west_place
  found-west = ap (λ (c : Corners). c.west) h

  found-north : f.north ≡ corner_place o 1
  unfolding corners_of
  found-north = ap (λ (c : Corners). c.north) h

  found-east : f.east ≡ corner_place o 2
  unfolding corners_of
  found-east = ap (λ (c : Corners). c.east) h

  found-south : f.south ≡ corner_place o 3
  unfolding corners_of
  found-south = ap (λ (c : Corners). c.south) h

  pub found-places : Places (size o) f
  found-places =
      let some : 0 < size o = omega (arith, (walked o simple).long) in
      record {
        west = omega (arith, found-west, west-lt o simple);
        north = omega (arith, found-north, corner_place-lt o 1 some);
        east = omega (arith, found-east, corner_place-lt o 2 some);
        south = omega (arith, found-south, corner_place-lt o 3 some);
      }

  -- Clockwise is read forward
  way-is : is_forward o.letters f ≡ clockwise (from_w o)
  unfolding is_forward clockwise
  way-is = ap (λ (a : ℕ). eqb a 1) (ap (letter_at o) found-west ∙ sym (leaving-west o (walked o simple)))

  place_is : (k : ℕ) {p : ℕ} → p ≡ corner_place o k → placed o.letters f p ≡ corner_place (border o) k
  place_is k c =
      let a = way-is in
      let b = found-west in
      let e = border-place o simple k in
      cc

-- So for these corners the result has the cut places of the border
pub cuts-of : (o : Outline) → Simple o → CutsOf o (cut_places_of o.letters (corners_of o))
cuts-of o simple =
    rw (cuts-found o.letters (corners_of o) (walked o simple).short (found-places simple refl))
    (record { way = way-is simple refl; places = λ k l. along k ∙ cuts-along (border o) k l })
  where
    t : Outline
    t = border o

    along : (k : ℕ) → get_or (sums o.letters (corners_of o)) k 0
        ≡ get_or (cuts_along (size t) (corner_place t 1) (corner_place t 2) (corner_place t 3)) k 0
    along k =
        let n : size o ≡ size (border o) = sym (border-size o simple) in
        let north = place_is simple refl 1 (found-north simple refl) in
        let east = place_is simple refl 2 (found-east simple refl) in
        let south = place_is simple refl 3 (found-south simple refl) in
        cc
