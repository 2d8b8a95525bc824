-- A list passes refusal 16 exactly if each direction comes before all later ones and the
-- walk ends where it started, since the order is transitive.
-- Then the rule of the edges, edge by edge.
use Prim.Native.Nat.{zero, suc}
use native.Mathlib.Omega.{arith}
use mathlib.Core.Path.{◌≡◌, refl, ap}
use mathlib.Core.Logic.{◌↔◌}
use mathlib.Core.Bool.{true, false, true≢false, false≢true, not, ◌&&◌, and-eq-true_iff}
use mathlib.Core.List.{List, [], ◌∷◌}
use lib.IntN.{ℤ, pos, negsuc, ◌+ℤ◌, +ℤ_assoc, +ℤ_idr}
use borrow.Author.Tests.{not-false}
use Rattle.base.proofs.BelowLaws.{or-false-iff}
use Rattle.base.proofs.IntegerOrder.{up, down}
use Rattle.base.proofs.Differences.{is-self, is-add}
use Rattle.convexity.specs.Edges.{Edge}
use Rattle.convexity.specs.Inside.{not_negative, side_value, none_outside, col_steps, row_steps, total}
use Rattle.convexity.proofs.Signed.{not-negative-iff}
use Rattle.directions.specs.Round.{positive, is_nil, first_half, precedes}
use Rattle.directions.specs.Increasing.{some_zero, sums_to_zero, precedes_first, rising, bad_edges}
use Rattle.directions.specs.CornerHull.{Met}
use Rattle.directions.proofs.Directions.{Above, Least0, Forward, Backward, Sooner, halves, forwards, backwards, precedes-trans}
use Rattle.directions.proofs.Corners.{Facing, ahead, back, AllAfter, Rising, Ends, Leaves, first, later, inner-side}

-- ---- the order of directions, as a test and as a type

pub facing : (dx dy : ℤ) → (is_nil dx && is_nil dy) ≡ false → Facing dx dy
unfolding is_nil
facing (pos zero) (pos zero) e = absurd (true≢false e)
facing (pos zero) (pos (suc n)) e = ahead Forward.upward
facing (pos zero) (negsuc n) e = back Backward.downward
facing (pos (suc m)) dy e = ahead Forward.across
facing (negsuc m) dy e = back Backward.across

pub facing-not-nil : {dx dy : ℤ} → Facing dx dy → (is_nil dx && is_nil dy) ≡ false
unfolding is_nil
facing-not-nil (ahead Forward.across) = refl
facing-not-nil (ahead Forward.upward) = refl
facing-not-nil (back Backward.across) = refl
facing-not-nil (back Backward.downward) = refl

forward-first : {dx dy : ℤ} → Forward dx dy → first_half dx dy ≡ true
unfolding first_half positive is_nil
forward-first Forward.across = refl
forward-first Forward.upward = refl

backward-first : {dx dy : ℤ} → Backward dx dy → first_half dx dy ≡ false
unfolding first_half positive is_nil
backward-first Backward.across = refl
backward-first Backward.downward = refl

pub positive-above : (z : ℤ) → positive z ≡ true → Above z
unfolding positive
positive-above (pos zero) e = absurd (false≢true e)
positive-above (pos (suc n)) e = omega arith
positive-above (negsuc n) e = absurd (false≢true e)

above-positive : (z : ℤ) → Above z → positive z ≡ true
unfolding positive
above-positive (pos zero) h = absurd (omega arith)
above-positive (pos (suc n)) h = refl
above-positive (negsuc n) h = absurd (omega arith)

pub precedes-of : {dx dy ex ey : ℤ} → Facing dx dy → Facing ex ey → precedes dx dy ex ey ≡ true → Sooner dx dy ex ey
unfolding precedes
precedes-of (ahead d) (ahead e) t = forwards d e (positive-above _ (rw (forward-first d, forward-first e) at t))
precedes-of (ahead d) (back e) t = halves d e
precedes-of (back d) (ahead e) t = absurd (false≢true (rw (backward-first d, forward-first e) at t))
precedes-of (back d) (back e) t = backwards d e (positive-above _ (rw (backward-first d, backward-first e) at t))

pub of-precedes : {dx dy ex ey : ℤ} → Sooner dx dy ex ey → precedes dx dy ex ey ≡ true
unfolding precedes
of-precedes (halves d e) = rw (forward-first d, backward-first e)
of-precedes (forwards d e h) = rw (forward-first d, forward-first e) (above-positive _ h)
of-precedes (backwards d e h) = rw (backward-first d, backward-first e) (above-positive _ h)

-- ---- no edge is zero, and directions increase

all_after : {dx dy ex ey : ℤ} {es : List Edge} → Sooner dx dy ex ey → AllAfter ex ey es → AllAfter dx dy es
all_after b AllAfter.none = AllAfter.none
all_after b (AllAfter.next c a) = AllAfter.next (precedes-trans b c) (all_after b a)

-- An edge that comes before the first of an increasing list comes before all of it
after_first : {dx dy : ℤ} {es : List Edge} → Facing dx dy → Rising es → precedes_first dx dy es ≡ true → AllAfter dx dy es
unfolding precedes_first
after_first f Rising.none s = AllAfter.none
after_first f (Rising.next g a r) s = let b = precedes-of f g s in AllAfter.next b (all_after b a)

rises-of : (es : List Edge) → some_zero es ≡ false → rising es ≡ true → Rising es
unfolding some_zero rising
rises-of [] n t = Rising.none
rises-of ((dx, dy) ∷ es) n t =
    let ns = (or-false-iff _ _).0 n in
    let ts = (and-eq-true_iff _ _).0 t in
    let f = facing dx dy ns.0 in
    let r = rises-of es ns.1 ts.1 in
    Rising.next f (after_first f r ts.0) r

rises-none-nil : {es : List Edge} → Rising es → some_zero es ≡ false
unfolding some_zero
rises-none-nil Rising.none = refl
rises-none-nil (Rising.next f a r) = (or-false-iff _ _).1 (facing-not-nil f, rises-none-nil r)

rises-first : {dx dy : ℤ} {es : List Edge} → AllAfter dx dy es → precedes_first dx dy es ≡ true
unfolding precedes_first
rises-first AllAfter.none = refl
rises-first (AllAfter.next b a) = of-precedes b

rises-rising : {es : List Edge} → Rising es → rising es ≡ true
unfolding rising
rises-rising Rising.none = refl
rises-rising (Rising.next f a r) = (and-eq-true_iff _ _).1 (rises-first a, rises-rising r)

-- ---- the end of the walk

ends : (es : List Edge) (x y : ℤ) → Ends es x y (x +ℤ total (col_steps es)) (y +ℤ total (row_steps es))
unfolding total col_steps row_steps
ends [] x y = rw (+ℤ_idr x, +ℤ_idr y) Ends.none
ends ((dx, dy) ∷ es) x y =
    rw (← (+ℤ_assoc x dx (total (col_steps es))), ← (+ℤ_assoc y dy (total (row_steps es)))) (Ends.next (ends es (x +ℤ dx) (y +ℤ dy)))

nil_is : (z : ℤ) → is_nil z ≡ true → z ≡ pos 0
unfolding is_nil
nil_is (pos zero) e = refl
nil_is (pos (suc n)) e = absurd (false≢true e)
nil_is (negsuc n) e = absurd (false≢true e)

is_zero : (x t : ℤ) → x +ℤ t ≡ x → is_nil t ≡ true
unfolding is_nil
is_zero x (pos zero) e = refl
is_zero x (pos (suc n)) e = absurd (omega (arith, (is-add (is-self x) (is-self (pos (suc n)))).eq, ap up e, ap down e))
is_zero x (negsuc n) e = absurd (omega (arith, (is-add (is-self x) (is-self (negsuc n))).eq, ap up e, ap down e))

returns_of : (es : List Edge) (x y : ℤ) → sums_to_zero es ≡ true → Ends es x y x y
unfolding sums_to_zero
returns_of es x y c =
    let cs = (and-eq-true_iff _ _).0 c in
    rw (nil_is _ cs.0, nil_is _ cs.1, +ℤ_idr x, +ℤ_idr y) at (ends es x y)

ends-unique : {es : List Edge} {x y u v s t : ℤ} → Ends es x y u v → Ends es x y s t → (u ≡ s) × (v ≡ t)
ends-unique Ends.none Ends.none = (refl, refl)
ends-unique (Ends.next w) (Ends.next v) = ends-unique w v

returns-sum : (es : List Edge) (x y : ℤ) → Ends es x y x y → sums_to_zero es ≡ true
unfolding sums_to_zero
returns-sum es x y w =
    let e = ends-unique (ends es x y) w in
    (and-eq-true_iff _ _).1 (is_zero x (total (col_steps es)) e.0, is_zero y (total (row_steps es)) e.1)

-- ---- refusal 16

-- The list passes: directions increase, and the edges from (x, y) on return to it
pub record Passed (es : List Edge) (x y : ℤ) : Type 0 where
  pub rises : Rising es
  pub returns : Ends es x y x y

-- The test decides this
pub passes-iff : (es : List Edge) (x y : ℤ) → (bad_edges es ≡ false) ↔ Passed es x y
unfolding bad_edges
passes-iff es x y = (
  λ e.
      let n = (or-false-iff _ _).0 e in
      let s = (or-false-iff _ _).0 n.1 in
      record { rises = rises-of es n.0 (not-false _ s.1); returns = returns_of es x y (not-false _ s.0) },
  λ h.
      (or-false-iff _ _).1 (
        rises-none-nil h.rises,
        (or-false-iff _ _).1 (ap not (returns-sum es x y h.returns), ap not (rises-rising h.rises)),
      ),
)

-- ---- the rule, edge by edge

-- (c, r) is on the inner side of every edge
pub record Inner (es : List Edge) (x y c r : ℤ) : Type 0 where
  pub side : (ex ey p q : ℤ) (fs : List Edge) → Leaves es x y ex ey p q fs → Least0 (side_value ex ey p q c r)

pub none-outside : (es : List Edge) (x y c r : ℤ) → Inner es x y c r → none_outside es x y c r ≡ true
unfolding none_outside
none-outside [] x y c r h = refl
none-outside ((dx, dy) ∷ es) x y c r h =
    (and-eq-true_iff _ _).1 (
      (not-negative-iff (is-self _)).1 (h.side dx dy x y es first),
      none-outside es (x +ℤ dx) (y +ℤ dy) c r (record { side = λ ex ey p q fs l. h.side ex ey p q fs (later l) }),
    )

outside-both :
    (dx dy : ℤ) (es : List Edge) (x y c r : ℤ) → none_outside ((dx, dy) ∷ es) x y c r ≡ true
    → Least0 (side_value dx dy x y c r) × (none_outside es (x +ℤ dx) (y +ℤ dy) c r ≡ true)
unfolding none_outside
outside-both dx dy es x y c r n =
    let k = (and-eq-true_iff (not_negative (side_value dx dy x y c r)) (none_outside es (x +ℤ dx) (y +ℤ dy) c r)).0 n in
    ((not-negative-iff (is-self (side_value dx dy x y c r))).0 k.0, k.1)

pub inner : (es : List Edge) (x y c r : ℤ) → none_outside es x y c r ≡ true → Inner es x y c r
inner es x y c r n = record { side = λ ex ey p q fs l. go n l }
  where
    go : {es fs : List Edge} {x y ex ey p q : ℤ} → none_outside es x y c r ≡ true → Leaves es x y ex ey p q fs
        → Least0 (side_value ex ey p q c r)
    go n (first {es = es} {ex = ex} {ey = ey} {x = x} {y = y}) = (outside-both ex ey es x y c r n).0
    go n (later {es = es} {dx = dx} {dy = dy} {x = x} {y = y} l) = go (outside-both dx dy es x y c r n).1 l

-- Every corner cell is on the inner side of every edge
pub corner-inner : {es : List Edge} {x y u v : ℤ} → Passed es x y → Met es x y u v → Inner es x y u v
corner-inner h m = record { side = λ ex ey p q fs l. inner-side h.rises h.returns m l }

pub corner-none-outside : (es : List Edge) (x y : ℤ) {u v : ℤ} → bad_edges es ≡ false → Met es x y u v → none_outside es x y u v ≡ true
corner-none-outside es x y {u} {v} a m = none-outside es x y u v (corner-inner ((passes-iff es x y).0 a) m)
