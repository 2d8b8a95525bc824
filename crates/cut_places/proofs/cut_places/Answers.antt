-- The cut places are the sums that define them, of the corners' places as the border is read.
use Prim.Native.Nat.{ℕ, ◌≤◌}
use native.Mathlib.Omega.{arith}
use mathlib.Core.Path.{◌≡◌, sym, ◌∙◌}
use mathlib.Core.Bool.{Bool, true}
use lib.ListN.{length}
use Rattle.survey_walk.specs.declared.Corners.{Corners}
use Rattle.cut_places.proofs.CutLaws.{steps-le}
use Rattle.cut_places.specs.parts.Cuts.{are_below, is_forward, place_read}
use Rattle.cut_places.proofs.ReadLaws.{read-le, Places, below-places, cuts-long, cuts-off, cuts-summed}
use Rattle.cut_places.proofs.cut_places.Goals.{then-n-gt-LONGEST-via-then-n-gt-LONGEST, then-n-gt-LONGEST-via-else-n-gt-LONGEST+then-not-are_below}
use Rattle.cut_places.proofs.cut_places.Goals as goal

-- The three places in the clockwise form are places of the list too
within : (forward : Bool) {n : ℕ} {found : Corners} {north east south : ℕ} → Places n found
    → north ≡ place_read forward n found.west found.north → east ≡ place_read forward n found.west found.east
    → south ≡ place_read forward n found.west found.south → (north ≤ n) × (east ≤ n) × (south ≤ n)
within forward p n e s = (read-le _ n p.west p.north, read-le _ e p.west p.east, read-le _ s p.west p.south)

-- After the test they are places of the list
tested : {n : ℕ} {found : Corners} {b : Bool} → b ≡ are_below n found → b ≡ true → Places n found
tested e t = below-places _ _ (sym e ∙ t)

-- Too many letters, or a place past the end of the list
pub returns-then-n-gt-LONGEST : goal.returns-then-n-gt-LONGEST
returns-then-n-gt-LONGEST c =
    elim c.then-n-gt-LONGEST.branch [
      | then-n-gt-LONGEST-via-then-n-gt-LONGEST w ↦ sym (cuts-long _ _ w.if-n-gt-LONGEST.true)
      | then-n-gt-LONGEST-via-else-n-gt-LONGEST+then-not-are_below w ↦ sym (cuts-off _ _ (sym w.are_below.ensures ∙ w.if-not-are_below.true))
    ]

pub bounds-letters-west : goal.bounds-letters-west
bounds-letters-west c =
    let p : Places (length c.args.letters.now) c.args.found = tested c.are_below.ensures c.if-not-are_below.false in
    p.west

pub place-north-requires : goal.place-north-requires
place-north-requires c =
    let p : Places (length c.args.letters.now) c.args.found = tested c.are_below.ensures c.if-not-are_below.false in
    (omega (arith, p.west), omega (arith, p.north))

pub place-east-requires : goal.place-east-requires
place-east-requires c =
    let p : Places (length c.args.letters.now) c.args.found = tested c.are_below.ensures c.if-not-are_below.false in
    (omega (arith, p.west), omega (arith, p.east))

pub place-south-requires : goal.place-south-requires
place-south-requires c =
    let p : Places (length c.args.letters.now) c.args.found = tested c.are_below.ensures c.if-not-are_below.false in
    (omega (arith, p.west), omega (arith, p.south))

pub ahead-requires : goal.ahead-requires
ahead-requires c =
    let p : Places (length c.args.letters.now) c.args.found = tested c.are_below.ensures c.if-not-are_below.false in
    read-le _ c.place-north.ensures p.west p.north

pub overflow_add-second : goal.overflow_add-second
overflow_add-second c =
    let p : Places (length c.args.letters.now) c.args.found = tested c.are_below.ensures c.if-not-are_below.false in
    let h = within _ p c.place-north.ensures c.place-east.ensures c.place-south.ensures in
    let small = steps-le h.0 h.1 h.2 in
    omega (arith, c.if-n-gt-LONGEST.false, small, c.ahead.ensures, c.ahead-first.ensures)

pub ahead-requires-2 : goal.ahead-requires-2
ahead-requires-2 c =
    let p : Places (length c.args.letters.now) c.args.found = tested c.are_below.ensures c.if-not-are_below.false in
    read-le _ c.place-east.ensures p.west p.east

pub overflow_add-third : goal.overflow_add-third
overflow_add-third c =
    let p : Places (length c.args.letters.now) c.args.found = tested c.are_below.ensures c.if-not-are_below.false in
    let h = within _ p c.place-north.ensures c.place-east.ensures c.place-south.ensures in
    let small = steps-le h.0 h.1 h.2 in
    omega (arith, c.if-n-gt-LONGEST.false, small, c.ahead-2.ensures, c.ahead.ensures, c.ahead-first.ensures)

pub ahead-requires-3 : goal.ahead-requires-3
ahead-requires-3 c =
    let p : Places (length c.args.letters.now) c.args.found = tested c.are_below.ensures c.if-not-are_below.false in
    read-le _ c.place-south.ensures p.west p.south

pub overflow_add-fourth : goal.overflow_add-fourth
overflow_add-fourth c =
    let p : Places (length c.args.letters.now) c.args.found = tested c.are_below.ensures c.if-not-are_below.false in
    let h = within _ p c.place-north.ensures c.place-east.ensures c.place-south.ensures in
    let small = steps-le h.0 h.1 h.2 in
    omega (
      arith,
      c.if-n-gt-LONGEST.false,
      small,
      c.ahead-3.ensures,
      c.ahead-2.ensures,
      c.ahead.ensures,
      c.ahead-first.ensures,
    )

pub returns : goal.returns
unfolding is_forward
returns c =
    cuts-summed _ _ c.if-n-gt-LONGEST.false (tested c.are_below.ensures c.if-not-are_below.false)
    c.place-north.ensures c.place-east.ensures c.place-south.ensures
    c.ahead-first.ensures c.ahead.ensures c.ahead-2.ensures c.ahead-3.ensures
