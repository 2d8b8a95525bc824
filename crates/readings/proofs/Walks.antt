-- The walk ends with the answer, by induction over the edges. What was met and what is still to come can be tested apart: the lowest number
-- is at most x exactly if some number is, and at least 0 exactly if all are.
use Prim.Native.Nat.{ℕ, ◌+◌, ◌-◌, ◌*◌, ◌≤◌, ◌<◌}
use native.Mathlib.Omega.{arith}
use mathlib.Core.Path.{◌≡◌, refl, sym, ap, ap₂, ◌∙◌, subst}
use mathlib.Core.Logic.{◌⊎◌, inl, inr, ⊎_elim}
use mathlib.Core.Bool.{Bool, true, false, not, cond, ◌&&◌, ◌||◌, or-false, or_assoc, and-true, and_assoc, and-eq-true_iff}
use mathlib.Core.List.{List, [], ◌∷◌}
use lib.ListN.{length, drop}
use lib.IntN.{ℤ, pos, negsuc, ◌+ℤ◌}
use lib.Signed.{le_z}
use lib.Dec.{leb, ltb}
use native.Mathlib.Decide.{dec_le}
use borrow.Author.Tests.{le-leb, lt-leb, lt-ltb, le-ltb}
use Rattle.std.specs.Int.{int_min, int_max}
use lib.Ieee.{Float, binary32}
use mir.Syntax.{w16, w32}
use mir.Val.{SFits}
use Rattle.base.specs.Each.{all_pass, some_pass}
use Rattle.base.proofs.IntegerOrder.{at-most-iff, not-at-most}
use Rattle.rounding.specs.Units.{value, in_units}
use Rattle.rounding.proofs.InUnits.{units-le}
use Rattle.chart.specs.Limits.{side, most_numbers, longest_list}
use Rattle.chart.specs.declared.Point.{Point}
use Rattle.convexity.specs.Edges.{Edge, pairs}
use Rattle.convexity.specs.Inside.{minℤ, maxℤ, col_steps, row_steps}
use Rattle.directions.specs.CornerHull.{chart_number, is_on_chart}
use Rattle.directions.proofs.OnChart.{on-parts}
use Rattle.edge_walk.specs.declared.Corner.{Corner}
use Rattle.edge_walk.proofs.Loop.{Chunk, next_edge, no_edge}
use Rattle.edge_walk.proofs.Sizes.{Between, After, after-start, after-step, after-fits}
use Rattle.polygon.proofs.Integers.{min-at-most, max-at-least}
use Rattle.polygon.proofs.Spans.{meets, lowest-meets, highest-meets}
use Rattle.calls.specs.declared.Reading.{Reading}
use Rattle.std.specs.Prelude.{Option, Some, None, Result, Ok, Err}
use Rattle.chart.specs.declared.Refusal.{Refusal}
use Rattle.chart.specs.declared.Refusal.TheVariants.{Cell}
use Rattle.readings.specs.declared.Located.{Located}
use Rattle.readings.specs.declared.Located.TheVariants.{Inside, Outside, Undecided}
use Rattle.readings.specs.declared.walk.Met.{Met}
use Rattle.readings.specs.declared.walk.Walk.{Walk}
use Rattle.readings.specs.Sides.{edges_from}
use Rattle.readings.specs.Located.{bad_number, bad_reading, between, within_extremes, far, near, sided, ends_on, stays_on, located_of}
use Rattle.readings.proofs.Numbers.{cell-of, cell-size}
use Rattle.readings.specs.parts.Walk.{Reached, Tame, alone, met, arrived, begun, edge_of, moved, passed, spanned, settled}

-- ---- one coordinate

abbrev under : Float → ℤ → Bool
under v z = le_z (in_units binary32 z) (value binary32 v)

abbrev over : Float → ℤ → Bool
over v z = le_z (value binary32 v) (in_units binary32 z)

-- The minimum and the maximum of two numbers, in units
pick-units : (t : Bool) (a b : ℤ) → in_units binary32 (cond t a b) ≡ cond t (in_units binary32 a) (in_units binary32 b)
pick-units true a b = refl
pick-units false a b = refl

min-under : (a b : ℤ) (v : Float) → under v (minℤ a b) ≡ (under v a || under v b)
unfolding minℤ
min-under a b v =
    rw pick-units
    (rw (sym (units-le binary32 a b)) (min-at-most (in_units binary32 a) (in_units binary32 b) (value binary32 v)))

max-over : (a b : ℤ) (v : Float) → over v (maxℤ a b) ≡ (over v a || over v b)
unfolding maxℤ
max-over a b v =
    rw pick-units
    (rw (sym (units-le binary32 a b)) (max-at-least (in_units binary32 a) (in_units binary32 b) (value binary32 v)))

-- ---- the order of integers

le_trans : (a b c : ℤ) → le_z a b ≡ true → le_z b c ≡ true → le_z a c ≡ true
le_trans a b c h k = (at-most-iff a c).1 (omega (arith, (at-most-iff a b).0 h, (at-most-iff b c).0 k))

le_total : (a b : ℤ) → le_z a b ≡ false → le_z b a ≡ true
le_total a b h = (at-most-iff b a).1 (omega (arith, not-at-most a b h))

and_first : (s t : Bool) → (s ≡ true → t ≡ true) → s ≡ (s && t)
and_first true t h = sym (h refl)
and_first false t h = refl

and_second : (s t : Bool) → (t ≡ true → s ≡ true) → t ≡ (s && t)
and_second true t h = refl
and_second false true h = sym (h refl)
and_second false false h = refl

-- The smaller of two numbers is at least c if both are, and the larger is at most c if both are
min-at-least : (a b c : ℤ) → le_z c (minℤ a b) ≡ (le_z c a && le_z c b)
unfolding minℤ
min-at-least a b c = go (le_z a b) refl
  where
    go : (t : Bool) → le_z a b ≡ t → le_z c (cond t a b) ≡ (le_z c a && le_z c b)
    go true e = and_first _ _ (λ h. le_trans c a b h e)
    go false e = and_second _ _ (λ h. le_trans c b a h (le_total a b e))

max-at-most : (a b c : ℤ) → le_z (maxℤ a b) c ≡ (le_z a c && le_z b c)
unfolding maxℤ
max-at-most a b c = go (le_z a b) refl
  where
    go : (t : Bool) → le_z a b ≡ t → le_z (cond t b a) c ≡ (le_z a c && le_z b c)
    go true e = and_second _ _ (λ h. le_trans a b c e h)
    go false e = and_first _ _ (λ h. le_trans b a c (le_total a b e) h)

-- The library's minimum and maximum are these
turned : (x y : ℤ) (a b : ℕ) → cond (ltb b a) x y ≡ cond (leb a b) y x
turned x y a b = elim (dec_le a b) [
  | yes l ↦ rw (le-leb a b l, le-ltb b a l)
  | no l ↦ rw (lt-leb a b (omega arith), lt-ltb b a (omega arith))
]

pub least-is : (a b : ℤ) → int_min a b ≡ minℤ a b
unfolding minℤ
least-is (pos a) (pos b) = turned (pos b) (pos a) a b
least-is (pos a) (negsuc b) = refl
least-is (negsuc a) (pos b) = refl
least-is (negsuc a) (negsuc b) = turned (negsuc b) (negsuc a) b a

pub most-is : (a b : ℤ) → int_max a b ≡ maxℤ a b
unfolding maxℤ
most-is (pos a) (pos b) = turned (pos a) (pos b) a b
most-is (pos a) (negsuc b) = refl
most-is (negsuc a) (pos b) = refl
most-is (negsuc a) (negsuc b) = turned (negsuc a) (negsuc b) b a

-- ---- one coordinate: the numbers met so far, and those that the steps from x lead to

-- The test passes for all of the numbers that steps from x lead to
keep : (ℤ → Bool) → List ℤ → ℤ → Bool
keep f [] x = true
keep f (d ∷ ds) x = f (x +ℤ d) && keep f ds (x +ℤ d)

abbrev low : ℤ → Bool
low z = le_z (pos 0) z

abbrev high : ℤ → Bool
high z = le_z z (pos (side - 1))

-- All are on the chart
on_from : Met → List ℤ → ℤ → Bool
on_from m ds x = (low m.least && keep low ds x) && (high m.most && keep high ds x)

-- v lies between them
between_from : Met → List ℤ → ℤ → Float → Bool
between_from m ds x v = (under v m.least || meets (under v) ds x) && (over v m.most || meets (over v) ds x)

spanned_from : Met → List ℤ → ℤ → Float → Bool
unfolding on_from between_from
spanned_from m ds x v = on_from m ds x && between_from m ds x v

spanned-step : (m : Met) (d : ℤ) (ds : List ℤ) (x : ℤ) (v : Float)
    → spanned_from m (d ∷ ds) x v ≡ spanned_from (met m (x +ℤ d)) ds (x +ℤ d) v
unfolding spanned_from on_from between_from met meets keep
spanned-step m d ds x v = simp (min-at-least, max-at-most, min-under, max-over, and_assoc, or_assoc)

spanned-end : (m : Met) (x : ℤ) (v : Float) → spanned_from m [] x v ≡ spanned m v
unfolding spanned_from on_from between_from spanned meets keep
spanned-end m x v = simp (or-false, and-true)

between-alone : (ds : List ℤ) (x : ℤ) (v : Float) → between ds x v ≡ between_from (alone x) ds x v
unfolding between between_from
between-alone ds x v = rw (lowest-meets (under v) (λ a b. min-under a b v) ds x, highest-meets (over v) (λ a b. max-over a b v) ds x)

-- ---- both coordinates

-- The answer of the walk for the remaining edges
abbrev after : Option Walk → (Walk → Located) → Located
after None f = Outside
after (Some w) f = f w

unfoldable pub from : List Edge → Walk → Reading → Located
from [] w r = settled w r
from ((dx, dy) ∷ es) w r = after (passed w dx dy r) (λ w'. from es w' r)

-- The same by the tests of all edges at once
abbrev answer : Bool → Bool → Bool → Located
answer w f n = cond (w && not f) (cond n Undecided Inside) Outside

whole : List Edge → Walk → Reading → Located
whole es w r =
    let k = w.at in
    let along = edges_from es k.col k.row in
    answer (spanned_from w.cols (col_steps es) k.col r.angle && spanned_from w.rows (row_steps es) k.row r.load)
    (some_pass (far r) along)
    (w.near || some_pass (near r) along)

-- One more edge: its tests join those of the rest
one_more :
    (f b g m n k : Bool) (w : Walk) (F : Walk → Located) → F w ≡ answer b g ((m || n) || k)
    → after (cond f None (Some w)) F ≡ answer b (f || g) (m || (n || k))
one_more true true g m n k w F h = refl
one_more true false g m n k w F h = refl
one_more false b g m n k w F h = rw or_assoc at h

ended : (p q n : Bool) → cond p (cond q (cond n Undecided Inside) Outside) Outside ≡ answer (p && q) false (n || false)
ended true true true = refl
ended true true false = refl
ended true false n = refl
ended false q n = refl

from-whole : (es : List Edge) (w : Walk) (r : Reading) → from es w r ≡ whole es w r
unfolding from whole passed moved arrived edge_of some_pass edges_from col_steps row_steps settled
from-whole [] w r =
    rw (spanned-end w.cols w.at.col r.angle, spanned-end w.rows w.at.row r.load)
    (ended (spanned w.cols r.angle) (spanned w.rows r.load) w.near)
from-whole ((dx, dy) ∷ es) w r =
    let k = w.at in
    let x = k.col +ℤ dx in
    let y = k.row +ℤ dy in
    let w' = moved w dx dy r in
    let e = edge_of w dx dy in
    let rest = edges_from es x y in
    rw (spanned-step w.cols dx (col_steps es) k.col r.angle, spanned-step w.rows dy (row_steps es) k.row r.load)
    (one_more (far r e) (spanned_from w'.cols (col_steps es) x r.angle && spanned_from w'.rows (row_steps es) y r.load)
    (some_pass (far r) rest) w.near (near r e) (some_pass (near r) rest) w' (λ w'. from es w' r) (from-whole es w' r))

-- ---- the walk stays on the chart

swap : (a b c d : Bool) → ((a && b) && (c && d)) ≡ ((a && c) && (b && d))
swap true b true d = refl
swap true true false d = refl
swap true false false d = refl
swap false b c d = refl

-- The edges end on the chart if the steps keep to its columns and rows
ends_on-met : (es : List Edge) (x y : ℤ)
    → ((keep low (col_steps es) x && keep high (col_steps es) x) && (keep low (row_steps es) y && keep high (row_steps es) y))
    ≡ all_pass ends_on (edges_from es x y)
unfolding keep col_steps row_steps edges_from all_pass ends_on is_on_chart chart_number
ends_on-met [] x y = refl
ends_on-met ((dx, dy) ∷ es) x y =
    let u = x +ℤ dx in
    let v = y +ℤ dy in
    ap₂ ◌&&◌
    (swap (low u) (keep low (col_steps es) u) (high u) (keep high (col_steps es) u))
    (swap (low v) (keep low (row_steps es) v) (high v) (keep high (row_steps es) v))
    ∙ swap (low u && high u) (keep low (col_steps es) u && keep high (col_steps es) u) (low v && high v)
    (keep low (row_steps es) v && keep high (row_steps es) v)
    ∙ ap (λ (b : Bool). ((low u && high u) && (low v && high v)) && b) (ends_on-met es u v)

stays : (a : Point) (es : List ℤ) →
    let ds = pairs es in
    (on_from (alone (pos a.col)) (col_steps ds) (pos a.col) && on_from (alone (pos a.row)) (row_steps ds) (pos a.row))
    ≡ stays_on a es
unfolding on_from stays_on is_on_chart chart_number
stays a es =
    let ds = pairs es in
    let x = pos a.col in
    let y = pos a.row in
    ap₂ ◌&&◌
    (swap (low x) (keep low (col_steps ds) x) (high x) (keep high (col_steps ds) x))
    (swap (low y) (keep low (row_steps ds) y) (high y) (keep high (row_steps ds) y))
    ∙ swap (low x && high x) (keep low (col_steps ds) x && keep high (col_steps ds) x) (low y && high y)
    (keep low (row_steps ds) y && keep high (row_steps ds) y)
    ∙ ap (λ (b : Bool). ((low x && high x) && (low y && high y)) && b) (ends_on-met ds x y)

parted : (s w f n : Bool) → answer (s && w) f n ≡ cond s (answer w f n) Outside
parted true w f n = refl
parted false w f n = refl

-- The same answer is the same result
pub ok : {l m : Located} → l ≡ m → ◌≡◌ {A = Result Located Refusal} (Ok l) (Ok m)
ok e i = Ok (e i)

-- The walk from an anchor locates a reading that is not refused
pub walk-locates : (a : Point) (es : List ℤ) (r : Reading) → bad_reading r ≡ false → Ok (from (pairs es) (begun a) r) ≡ located_of a es r
unfolding begun whole spanned_from located_of sided within_extremes
walk-locates a es r good =
    let ds = pairs es in
    let x = pos a.col in
    let y = pos a.row in
    let f = some_pass (far r) (edges_from ds x y) in
    let n = some_pass (near r) (edges_from ds x y) in
    let s = on_from (alone x) (col_steps ds) x in
    let t = on_from (alone y) (row_steps ds) y in
    let p = between_from (alone x) (col_steps ds) x r.angle in
    let q = between_from (alone y) (row_steps ds) y r.load in
    let mid : answer ((s && p) && (t && q)) f n ≡ cond (s && t) (answer (p && q) f n) Outside =
    ap (λ (b : Bool). answer b f n) (swap s p t q) ∙ parted (s && t) (p && q) f n in
    let end : located_of a es r ≡ Ok (cond (s && t) (answer (p && q) f n) Outside) =
    rw (good, sym (stays a es), between-alone (col_steps ds) x r.angle, between-alone (row_steps ds) y r.load) refl in
    ok (from-whole ds (begun a) r ∙ mid) ∙ sym end

pub located-bad : (a : Point) (es : List ℤ) (r : Reading) → bad_reading r ≡ true → Err Cell ≡ located_of a es r
unfolding located_of
located-bad a es r b = rw b

-- 11, by both numbers
pub bad-both : (r : Reading) {a b : Bool} → a ≡ bad_number r.angle → b ≡ bad_number r.load → (a || b) ≡ bad_reading r
unfolding bad_reading
bad-both r e f = ap₂ ◌||◌ e f

-- ---- an iteration of the loop

-- The numbers of a walk of k edges are not far from the anchor
pub record Sized (k : ℕ) (w : Walk) : Type 0 where
  pub at : After k w.at
  pub least : After k (record { col = w.cols.least; row = w.rows.least })
  pub most : After k (record { col = w.cols.most; row = w.rows.most })

pick-between : {lo hi : ℕ} {a b : ℤ} (t : Bool) → Between lo hi a → Between lo hi b → Between lo hi (cond t a b)
pick-between true p q = p
pick-between false p q = q

min-between : {lo hi : ℕ} {a b : ℤ} → Between lo hi a → Between lo hi b → Between lo hi (minℤ a b)
unfolding minℤ
min-between {a = a} {b} p q = pick-between (le_z a b) p q

max-between : {lo hi : ℕ} {a b : ℤ} → Between lo hi a → Between lo hi b → Between lo hi (maxℤ a b)
unfolding maxℤ
max-between {a = a} {b} p q = pick-between (le_z a b) q p

more-between : (k : ℕ) {z : ℤ} → Between (32768 * k) (65535 + 32767 * k) z → Between (32768 * (k + 1)) (65535 + 32767 * (k + 1)) z
more-between k b = record { above = omega (arith, b.above); below = omega (arith, b.below) }

pub sized-start : (a : Point) → a.col < 65536 → a.row < 65536 → Sized 0 (begun a)
unfolding begun
sized-start a c r =
    record { at = after-start a c r 0; least = after-start a c r 0; most = after-start a c r 0 }

sized-step : {k : ℕ} {w : Walk} {dx dy : ℤ} (r : Reading) → SFits w16 dx → SFits w16 dy → Sized k w → Sized (k + 1) (moved w dx dy r)
unfolding moved arrived met
sized-step {k} r fx fy s =
    let n = after-step s.at fx fy {n = k + 1} (omega arith) in
    record {
      at = n;
      least = record {
        col = min-between (more-between k s.least.col) n.col;
        row = min-between (more-between k s.least.row) n.row;
      };
      most = record {
        col = max-between (more-between k s.most.col) n.col;
        row = max-between (more-between k s.most.row) n.row;
      };
    }

-- The same of a walk that goes on
abbrev SizedOn : ℕ → Option Walk → Type 0
SizedOn k None = Unit {0}
SizedOn k (Some w) = Sized k w

sized_on : {k : ℕ} {w w' : Walk} {dx dy : ℤ} (r : Reading) → SFits w16 dx → SFits w16 dy → Sized k w → passed w dx dy r ≡ Some w'
    → Sized (k + 1) w'
unfolding passed
sized_on {k} {w} {w'} {dx} {dy} r fx fy s e = subst (SizedOn (k + 1)) e (go (far r (edge_of w dx dy)))
  where
    go : (f : Bool) → SizedOn (k + 1) (cond f None (Some (moved w dx dy r)))
    go true = tt
    go false = sized-step r fx fy s

-- After at most 100 edges they are exactly floats
pub reach : (k : ℕ) (z : ℤ) → k ≤ 100 → Between (32768 * k) (65535 + 32767 * k) z → Reached z
reach k (pos n) l b = omega (arith, b.below)
reach k (negsuc n) l b = omega (arith, b.above)

-- One more step fits
pub step_fits :
    (c : Corner) {dx dy : ℤ} → Reached c.col → Reached c.row → SFits w16 dx → SFits w16 dy
    → SFits w32 (c.col +ℤ dx) × SFits w32 (c.row +ℤ dy)
step_fits c x y fx fy = after-fits {k = 256} (record { col = near_by c.col x; row = near_by c.row y }) fx fy (omega arith)
  where
    near_by : (z : ℤ) → Reached z → Between (32768 * 256) (65535 + 32767 * 256) z
    near_by (pos n) h = record { above = omega arith; below = omega (arith, h) }
    near_by (negsuc n) h = record { above = omega (arith, h); below = omega arith }

-- ---- a walk that stays on the chart

-- The numbers of the walk are exactly floats
pub record Exactly (w : Walk) : Type 0 where
  pub at : Reached w.at.col × Reached w.at.row
  pub cols : Reached w.cols.least × Reached w.cols.most
  pub rows : Reached w.rows.least × Reached w.rows.most

on-reached : (z : ℤ) → chart_number z ≡ true → Reached z
on-reached z h = omega (arith, cell-size (cell-of z h))

pick-reached : (a b : ℤ) (t : Bool) → Reached a → Reached b → Reached (cond t a b)
pick-reached a b true p q = p
pick-reached a b false p q = q

min-reached : (a b : ℤ) → Reached a → Reached b → Reached (minℤ a b)
unfolding minℤ
min-reached a b p q = pick-reached a b (le_z a b) p q

max-reached : (a b : ℤ) → Reached a → Reached b → Reached (maxℤ a b)
unfolding maxℤ
max-reached a b p q = pick-reached b a (le_z a b) q p

exactly-start : (a : Point) → is_on_chart (pos a.col) (pos a.row) ≡ true → Exactly (begun a)
unfolding begun
exactly-start a h =
    let on = on-parts (pos a.col) (pos a.row) h in
    let x = on-reached (pos a.col) on.0 in
    let y = on-reached (pos a.row) on.1 in
    record { at = (x, y); cols = (x, x); rows = (y, y) }

exactly-step :
    (w : Walk) (dx dy : ℤ) (r : Reading) → is_on_chart (w.at.col +ℤ dx) (w.at.row +ℤ dy) ≡ true → Exactly w → Exactly (moved w dx dy r)
unfolding moved arrived met
exactly-step w dx dy r h s =
    let on = on-parts (w.at.col +ℤ dx) (w.at.row +ℤ dy) h in
    let x = on-reached (w.at.col +ℤ dx) on.0 in
    let y = on-reached (w.at.row +ℤ dy) on.1 in
    record {
      at = (x, y);
      cols = (
        min-reached w.cols.least (w.at.col +ℤ dx) s.cols.0 x,
        max-reached w.cols.most (w.at.col +ℤ dx) s.cols.1 x,
      );
      rows = (
        min-reached w.rows.least (w.at.row +ℤ dy) s.rows.0 y,
        max-reached w.rows.most (w.at.row +ℤ dy) s.rows.1 y,
      );
    }

-- The edges that are left end on the chart
abbrev EndsOn : List Edge → Walk → Type 0
EndsOn ds w = all_pass ends_on (edges_from ds w.at.col w.at.row) ≡ true

-- What is known of a walk with the edges ds left
pub record Kept (ds : List Edge) (w : Walk) : Type 0 where
  pub exactly : Exactly w
  pub rest : EndsOn ds w

kept_step : (w : Walk) (dx dy : ℤ) (ds : List Edge) (r : Reading) → Kept ((dx, dy) ∷ ds) w → Kept ds (moved w dx dy r)
unfolding moved arrived edges_from all_pass ends_on
kept_step w dx dy ds r s =
    let x = w.at.col +ℤ dx in
    let y = w.at.row +ℤ dy in
    let both = (and-eq-true_iff (is_on_chart x y) (all_pass ends_on (edges_from ds x y))).0 s.rest in
    record { exactly = exactly-step w dx dy r both.0 s.exactly; rest = both.1 }

abbrev KeptOn : List Edge → Option Walk → Type 0
KeptOn ds None = Unit {0}
KeptOn ds (Some w) = Kept ds w

kept_on : (w w' : Walk) (dx dy : ℤ) (ds : List Edge) (r : Reading) → Kept ((dx, dy) ∷ ds) w → passed w dx dy r ≡ Some w' → Kept ds w'
unfolding passed
kept_on w w' dx dy ds r s e = subst (KeptOn ds) e (go (far r (edge_of w dx dy)))
  where
    go : (f : Bool) → KeptOn ds (cond f None (Some (moved w dx dy r)))
    go true = tt
    go false = kept_step w dx dy ds r s

kept-start : (a : Point) (es : List ℤ) → stays_on a es ≡ true → Kept (pairs es) (begun a)
unfolding stays_on begun
kept-start a es h =
    let both = (and-eq-true_iff (is_on_chart (pos a.col) (pos a.row)) (all_pass ends_on (edges_from (pairs es) (pos a.col) (pos a.row)))).0 h in
    record { exactly = exactly-start a both.0; rest = both.1 }

-- ---- either way

-- The walk has passed i edges of es: there are few of them, or the rest ends on the chart
abbrev pub Small : List ℤ → Walk → ℕ → Type 0
Small es w i = ((length es ≤ most_numbers) × Sized i w) ⊎ ((length es ≤ longest_list) × Kept (pairs (drop (2 * i) es)) w)

pub tame-short : (a : Point) (es : List ℤ) → Tame a es → length es ≤ longest_list
tame-short a es t = ⊎_elim (λ l. omega (arith, l)) (λ p. p.0) t

small-exactly : (es : List ℤ) (w : Walk) (i : ℕ) → 2 * i ≤ length es → Small es w i → Exactly w
small-exactly es w i h s = ⊎_elim few (λ p. p.1.exactly) s
  where
    few : (length es ≤ most_numbers) × Sized i w → Exactly w
    few p =
        let l : i ≤ 100 = omega (arith, h, p.0) in
        let z = p.1 in
        record {
          at = (reach _ _ l z.at.col, reach _ _ l z.at.row);
          cols = (reach _ _ l z.least.col, reach _ _ l z.most.col);
          rows = (reach _ _ l z.least.row, reach _ _ l z.most.row);
        }

-- The loop has passed i edges of es. The walk started as w₀
pub record Walked (es : List ℤ) (r : Reading) (w₀ w : Walk) (i : ℕ) : Type 0 where
  pub passed : 2 * i ≤ length es
  pub small : Small es w i
  pub left : from (pairs es) w₀ r ≡ from (pairs (drop (2 * i) es)) w r

pub walked_start : (es : List ℤ) (r : Reading) (a : Point) → Tame a es → a.col < 65536 → a.row < 65536
    → Walked es r (begun a) (begun a) 0
walked_start es r a tame c d = record { passed = omega arith; small = small; left = refl }
  where
    small : Small es (begun a) 0
    small = ⊎_elim (λ l. inl (l, sized-start a c d)) (λ p. inr (p.0, kept-start a es p.1)) tame

module _ {es : List ℤ} {r : Reading} {w₀ w : Walk} {i : ℕ} (h : Walked es r w₀ w i) where
  -- Its numbers are exactly floats
  pub walked-exactly : Exactly w
  walked-exactly = small-exactly es w i h.passed h.small

  module _ {dx dy : ℤ} (edge : Chunk es dx dy (2 * i)) where
    -- The walk at the end of the next edge
    abbrev pub next : Option Walk
    next = passed w dx dy r

    edge-here : pairs (drop (2 * i) es) ≡ (dx, dy) ∷ pairs (drop (2 * i + 2) es)
    edge-here = next_edge es (2 * i) edge.inside ∙ rw (edge.across, edge.up)

    walked_next : from (pairs es) w₀ r ≡ after next (λ w'. from (pairs (drop (2 * i + 2) es)) w' r)
    unfolding from
    walked_next = h.left ∙ rw edge-here

    -- One more edge
    pub walked-edge :
        {w' : Walk} → SFits w16 dx → SFits w16 dy → next ≡ Some w' → Walked es r w₀ w' (i + 1)
    walked-edge {w'} fx fy e =
        let twice : 2 * (i + 1) ≡ 2 * i + 2 = omega arith in
        let inside = edge.inside in
        record {
          passed = omega arith;
          small =
              ⊎_elim (λ p. inl (p.0, sized_on r fx fy p.1 e))
              (λ p. inr (p.0, rw twice (kept_on w w' _ _ _ r (rw edge-here at p.1) e)))
              h.small;
          left = rw twice (rw e at walked_next);
        }

    -- The walk is out
    pub walked-out : next ≡ None → from (pairs es) w₀ r ≡ Outside
    walked-out e = rw e at walked_next

  -- No edge is left
  pub walked_end : length es ≤ 2 * i + 1 → from (pairs es) w₀ r ≡ settled w r
  unfolding from
  walked_end none = h.left ∙ rw (no_edge es (2 * i) none)
