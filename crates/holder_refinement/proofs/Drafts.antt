-- A draft represents the model's: its flag says whether there is one, and the counted letters are the model's. Begin, add and drop preserve
-- that and reply as the model does, because both make the same tests.
use Prim.Native.Nat.{ℕ, suc, ◌+◌, ◌≤◌, ◌<◌, min}
use native.Mathlib.Omega.{arith}
use mathlib.Core.Path.{◌≡◌, refl, sym, ap, ◌∙◌}
use mathlib.Core.Bool.{Bool, true, false, cond, true≢false}
use mathlib.Core.Option.{Option, none, some}
use mathlib.Core.List.{[], ◌∷◌, ◌++◌}
use lib.ListN.{length, length-take, length-set}
use lib.Seq.{take-suc-set}
use lib.Dec.{leb, ltb}
use borrow.Author.Tests.{leb-false}
use Rattle.chart.specs.Limits.{longest}
use Rattle.chart.specs.Outline.{Outline}
use Rattle.chart.specs.declared.Point.{Point}
use Rattle.lattice.specs.Refusals.{bad_start}
use Rattle.holder_model.specs.Book.{OnDraft, begins, adds, drops}
use Rattle.holder_records.specs.Draft.{Draft, Drafted, outline_of, end_of, begun_at, lengthened, begin_of, add_of, drop_of}

-- ---- the relation

-- A draft that keeps this outline
pub record Keeps (d : Draft) (o : Outline) : Type 0 where
  pub begun : d.begun ≡ true
  pub outline : outline_of d ≡ o
  pub fits : d.letter_count ≤ longest

abbrev Stands : Draft → Option Outline → Type 0
Stands d none = d.begun ≡ false
Stands d (some o) = Keeps d o

pub record IsDraft (d : Draft) (o : Option Outline) : Type 0 where
  pub space : length d.letters ≡ longest
  pub stands : Stands d o

-- The same reply, and the next draft represents the model's next draft
abbrev pub AgreesDraft : Drafted → OnDraft → Type 0
AgreesDraft a n = (a.reply ≡ n.reply) × IsDraft a.draft n.draft

-- After the draft ends
pub ended-stands : {d : Draft} {o : Option Outline} → IsDraft d o → IsDraft (end_of d) none
unfolding end_of
ended-stands k = record { space = k.space; stands = refl }

-- ---- tests: the draft's flag is known, or both sides make the same test

if-true : (t : Bool) (x y : Drafted) {n : OnDraft} → t ≡ true → AgreesDraft x n → AgreesDraft (cond t x y) n
if-true true x y e k = k
if-true false x y e k = absurd (true≢false (sym e))

if-false : (t : Bool) (x y : Drafted) {n : OnDraft} → t ≡ false → AgreesDraft y n → AgreesDraft (cond t x y) n
if-false true x y e k = absurd (true≢false e)
if-false false x y e k = k

either : {x y : Drafted} {m n : OnDraft} (t : Bool) → AgreesDraft x m → (t ≡ false → AgreesDraft y n)
    → AgreesDraft (cond t x y) (cond t m n)
either true k l = k
either false k l = l refl

-- ---- begin

pub begin-agrees : (d : Draft) (o : Option Outline) → IsDraft d o → (s : Point) → AgreesDraft (begin_of d s) (begins s o)
unfolding begin_of begins begun_at outline_of
begin-agrees d none k s =
    if-false d.begun _ _ k.stands
    (either (bad_start s) (refl, k) λ on. (
      refl,
      record { space = k.space; stands = record { begun = refl; outline = refl; fits = omega arith } },
    ))
begin-agrees d (some o) k s = if-true d.begun _ _ k.stands.begun (refl, k)

-- ---- add

module _ (d : Draft) (o : Outline) (space : length d.letters ≡ longest) (k : Keeps d o) where
  -- The count is the length of the model's letters
  kept-length : length o.letters ≡ d.letter_count
  unfolding outline_of
  kept-length = ap (λ (v : Outline). length v.letters) (sym k.outline) ∙ rw length-take (omega (arith, k.fits))

  -- One more letter
  kept_more : (a : ℕ) → d.letter_count < longest → outline_of (lengthened d a) ≡ record { start = o.start; letters = o.letters ++ (a ∷ []) }
  unfolding outline_of lengthened
  kept_more a room =
      let now : min d.letter_count longest ≡ d.letter_count = omega arith in
      let then : min (d.letter_count + 1) longest ≡ suc d.letter_count = omega arith in
      rw (sym k.outline, now, then, take-suc-set d.letters d.letter_count a (omega arith))

pub add-agrees : (d : Draft) (o : Option Outline) → IsDraft d o → (a : ℕ) → AgreesDraft (add_of d a) (adds a o)
unfolding add_of adds lengthened
add-agrees d none k a = if-false d.begun _ _ k.stands (refl, k)
add-agrees d (some o) k a =
    if-true d.begun _ _ k.stands.begun
    (rw (kept-length d o k.space k.stands)
    (either (leb longest d.letter_count) (refl, k) λ room.
    either (ltb 3 a) (refl, k) λ letter. (refl, longer (leb-false longest d.letter_count room))))
  where
    longer : d.letter_count < longest → IsDraft (lengthened d a) (some (record { start = o.start; letters = o.letters ++ (a ∷ []) }))
    longer room =
        record {
          space = length-set d.letters d.letter_count a ∙ k.space;
          stands = record { begun = k.stands.begun; outline = kept_more d o k.space k.stands a room; fits = omega arith };
        }

-- ---- drop

pub drop_agrees : (d : Draft) (o : Option Outline) → IsDraft d o → AgreesDraft (drop_of d) (drops o)
unfolding drop_of drops
drop_agrees d none k = if-false d.begun _ _ k.stands (refl, k)
drop_agrees d (some o) k = if-true d.begun _ _ k.stands.begun (refl, ended-stands k)
