-- The order of words is a strict total order, because the computed comparison goes letter by letter and stops at the first difference.
use Prim.Native.Nat.{◌<◌, ◌≤◌}
use native.Mathlib.Omega.{arith}
use mathlib.Core.Path.{◌≡◌, refl, sym, ap, ◌∙◌, subst}
use mathlib.Core.Logic.{◌↔◌, ◌⊎◌, inl, inr, ⊎_elim}
use mathlib.Core.Bool.{Bool, true, false, false≢true}
use mathlib.Core.List.{[], ◌∷◌, ◌++◌, append_assoc, append-nil, head-eq_of_cons-eq, tail-eq_of_cons-eq}
use lib.ListN.{length, length-append}
use Rattle.words.specs.Word.{Word, Less, begins, differs, Differs, Begins, less}
use Rattle.words.specs.Lyndon.{same}

-- ---- prefixes and first differences

-- A first difference is kept after a common prefix
pub differs-prepend : (x : Word) {u v : Word} → Differs u v → Differs (x ++ u) (x ++ v)
differs-prepend x d =
    record {
      same = x ++ d.same;
      low = d.low;
      high = d.high;
      left = ap (λ (w : Word). x ++ w) d.left ∙ sym (append_assoc x d.same (false ∷ d.low));
      right = ap (λ (w : Word). x ++ w) d.right ∙ sym (append_assoc x d.same (true ∷ d.high));
    }

pub begins-prepend : (x : Word) {u v : Word} → Begins u v → Begins (x ++ u) (x ++ v)
begins-prepend x {u} b =
    record {
      next = b.next;
      rest = b.rest;
      whole = ap (λ (w : Word). x ++ w) b.whole ∙ sym (append_assoc x u (b.next ∷ b.rest));
    }

pub less-prepend : (x : Word) {u v : Word} → Less u v → Less (x ++ u) (x ++ v)
less-prepend x (begins b) = begins (begins-prepend x b)
less-prepend x (differs d) = differs (differs-prepend x d)

-- A first difference is kept whatever follows
pub differs-append : {u v : Word} (a b : Word) → Differs u v → Differs (u ++ a) (v ++ b)
differs-append a b d =
    record {
      same = d.same;
      low = d.low ++ a;
      high = d.high ++ b;
      left = ap (λ (w : Word). w ++ a) d.left ∙ append_assoc d.same (false ∷ d.low) a;
      right = ap (λ (w : Word). w ++ b) d.right ∙ append_assoc d.same (true ∷ d.high) b;
    }

pub differs-append-left : {u v : Word} (a : Word) → Differs u v → Differs (u ++ a) v
differs-append-left {u} {v} a d = subst (λ (w : Word). Differs (u ++ a) w) (append-nil v) (differs-append a [] d)

pub differs-append-right : {u v : Word} (b : Word) → Differs u v → Differs u (v ++ b)
differs-append-right {u} {v} b d = subst (λ (w : Word). Differs w (v ++ b)) (append-nil u) (differs-append [] b d)

-- ---- the computed order

less-of-test : (u v : Word) → less u v ≡ true → Less u v
unfolding less
less-of-test u [] e = absurd (false≢true e)
less-of-test [] (b ∷ v) e = begins (record { next = b; rest = v; whole = refl })
less-of-test (false ∷ u) (false ∷ v) e = less-prepend (false ∷ []) (less-of-test u v e)
less-of-test (false ∷ u) (true ∷ v) e = differs (record { same = []; low = u; high = v; left = refl; right = refl })
less-of-test (true ∷ u) (false ∷ v) e = absurd (false≢true e)
less-of-test (true ∷ u) (true ∷ v) e = less-prepend (true ∷ []) (less-of-test u v e)

-- A common prefix does not matter
less-cancel-test : (x u v : Word) → less (x ++ u) (x ++ v) ≡ less u v
unfolding less
less-cancel-test [] u v = refl
less-cancel-test (false ∷ x) u v = less-cancel-test x u v
less-cancel-test (true ∷ x) u v = less-cancel-test x u v

test-of-less : {u v : Word} → Less u v → less u v ≡ true
unfolding less
test-of-less {u} (begins b) = cc (append-nil u, less-cancel-test u [] (b.next ∷ b.rest), b.whole)
test-of-less (differs d) = cc (less-cancel-test d.same (false ∷ d.low) (true ∷ d.high), d.left, d.right)

pub less-iff : (u v : Word) → (less u v ≡ true) ↔ Less u v
less-iff u v = (less-of-test u v, test-of-less)

-- ---- a strict total order

pub less-irrefl : (u : Word) → Less u u → ⊥
unfolding less
less-irrefl u l = go u (test-of-less l)
  where
    go : (w : Word) → less w w ≡ true → ⊥
    go [] e = false≢true e
    go (false ∷ w) e = go w e
    go (true ∷ w) e = go w e

pub less-trans : {u v w : Word} → Less u v → Less v w → Less u w
unfolding less
less-trans {u} {v} {w} l k = less-of-test u w (go u v w (test-of-less l) (test-of-less k))
  where
    go : (a b c : Word) → less a b ≡ true → less b c ≡ true → less a c ≡ true
    go a b [] e f = f
    go a [] (z ∷ c) e f = absurd (false≢true e)
    go [] (y ∷ b) (z ∷ c) e f = refl
    go (false ∷ a) (false ∷ b) (false ∷ c) e f = go a b c e f
    go (false ∷ a) (true ∷ b) (false ∷ c) e f = absurd (false≢true f)
    go (true ∷ a) (false ∷ b) (false ∷ c) e f = absurd (false≢true e)
    go (true ∷ a) (true ∷ b) (false ∷ c) e f = f
    go (false ∷ a) (false ∷ b) (true ∷ c) e f = refl
    go (false ∷ a) (true ∷ b) (true ∷ c) e f = refl
    go (true ∷ a) (false ∷ b) (true ∷ c) e f = absurd (false≢true e)
    go (true ∷ a) (true ∷ b) (true ∷ c) e f = go a b c e f

pub less-asymm : {u v : Word} → Less u v → Less v u → ⊥
less-asymm {u} l k = less-irrefl u (less-trans l k)

pub less-cancel : (x u v : Word) → Less (x ++ u) (x ++ v) ↔ Less u v
less-cancel x u v = (λ l. less-of-test u v (sym (less-cancel-test x u v) ∙ test-of-less l), less-prepend x)

-- ---- how two words compare

-- Two words differ at a letter, or one is a prefix of the other
pub data Compared (u v : Word) : Type 0 where
  lower : Differs u v → Compared u v
  higher : Differs v u → Compared u v
  shorter : (t : Word) → v ≡ u ++ t → Compared u v
  longer : (t : Word) → u ≡ v ++ t → Compared u v

compared-cons : (a : Bool) {u v : Word} → Compared u v → Compared (a ∷ u) (a ∷ v)
compared-cons a (lower d) = lower (differs-prepend (a ∷ []) d)
compared-cons a (higher d) = higher (differs-prepend (a ∷ []) d)
compared-cons a (shorter t e) = shorter t (ap {B = Word} (λ w. a ∷ w) e)
compared-cons a (longer t e) = longer t (ap {B = Word} (λ w. a ∷ w) e)

pub compared : (u v : Word) → Compared u v
compared [] v = shorter v refl
compared (a ∷ u) [] = longer (a ∷ u) refl
compared (false ∷ u) (false ∷ v) = compared-cons false (compared u v)
compared (false ∷ u) (true ∷ v) = lower (record { same = []; low = u; high = v; left = refl; right = refl })
compared (true ∷ u) (false ∷ v) = higher (record { same = []; low = v; high = u; left = refl; right = refl })
compared (true ∷ u) (true ∷ v) = compared-cons true (compared u v)

-- A prefix is equal or smaller
pub prefix_cases : {u v : Word} (t : Word) → v ≡ u ++ t → (u ≡ v) ⊎ Less u v
prefix_cases {u} [] e = inl (sym (e ∙ append-nil u))
prefix_cases (b ∷ t) e = inr (begins (record { next = b; rest = t; whole = e }))

pub less-append : (u t : Word) → 0 < length t → Less u (u ++ t)
less-append u [] h = absurd (omega arith)
less-append u (b ∷ t) h = begins (record { next = b; rest = t; whole = refl })

pub compare-words : (u v : Word) → Less u v ⊎ ((u ≡ v) ⊎ Less v u)
compare-words u v = go (compared u v)
  where
    go : Compared u v → Less u v ⊎ ((u ≡ v) ⊎ Less v u)
    go (lower d) = inl (differs d)
    go (higher d) = inr (inr (differs d))
    go (shorter t e) = ⊎_elim (λ p. inr (inl p)) (λ l. inl l) (prefix_cases t e)
    go (longer t e) = ⊎_elim (λ p. inr (inl (sym p))) (λ l. inr (inr l)) (prefix_cases t e)

-- A word that is smaller and not shorter differs at a letter
pub differs-of-less : {u v : Word} → Less u v → length v ≤ length u → Differs u v
differs-of-less {u} (begins b) h = absurd (omega (arith, simp length-append at (ap length b.whole)))
differs-of-less (differs d) h = d

pub differs-trans : {u v w : Word} → Differs u v → Differs v w → Differs u w
differs-trans {u} {v} {w} d e = go (compared u w)
  where
    go : Compared u w → Differs u w
    go (lower f) = f
    go (higher f) = absurd (less-asymm (less-trans (differs d) (differs e)) (differs f))
    go (shorter t f) = absurd (less-asymm (differs e) (differs (subst (λ (x : Word). Differs x v) (sym f) (differs-append-left t d))))
    go (longer t f) = absurd (less-asymm (differs d) (differs (subst (λ (x : Word). Differs v x) (sym f) (differs-append-right t e))))

-- ---- equality

same_refl : (u : Word) → same u u ≡ true
unfolding same
same_refl [] = refl
same_refl (false ∷ u) = same_refl u
same_refl (true ∷ u) = same_refl u

eq-of-same : (u v : Word) → same u v ≡ true → u ≡ v
unfolding same
eq-of-same [] [] e = refl
eq-of-same [] (b ∷ v) e = absurd (false≢true e)
eq-of-same (a ∷ u) [] e = absurd (false≢true e)
eq-of-same (false ∷ u) (false ∷ v) e = ap {B = Word} (λ w. false ∷ w) (eq-of-same u v e)
eq-of-same (false ∷ u) (true ∷ v) e = absurd (false≢true e)
eq-of-same (true ∷ u) (false ∷ v) e = absurd (false≢true e)
eq-of-same (true ∷ u) (true ∷ v) e = ap {B = Word} (λ w. true ∷ w) (eq-of-same u v e)

pub same-iff : (u v : Word) → (same u v ≡ true) ↔ (u ≡ v)
same-iff u v = (eq-of-same u v, λ e. subst (λ (w : Word). same u w ≡ true) e (same_refl u))

-- ---- two ways to split a word

-- If u ++ v is x ++ y: the second split lies strictly inside u, or at its end or after it
pub data Cuts (u v x y : Word) : Type 0 where
  inside : (a : Bool) (t : Word) → u ≡ x ++ a ∷ t → y ≡ a ∷ t ++ v → Cuts u v x y
  beyond : (t : Word) → x ≡ u ++ t → v ≡ t ++ y → Cuts u v x y

cuts-cons : (a b : Bool) {u v x y : Word} → a ≡ b → Cuts u v x y → Cuts (a ∷ u) v (b ∷ x) y
cuts-cons a b e (inside c t f g) = inside c t (λ i. e i ∷ f i) g
cuts-cons a b e (beyond t f g) = beyond t (λ i. sym e i ∷ f i) g

pub cuts : (u v x y : Word) → u ++ v ≡ x ++ y → Cuts u v x y
cuts [] v x y e = beyond x refl e
cuts (a ∷ u) v [] y e = inside a u refl (sym e)
cuts (a ∷ u) v (b ∷ x) y e = cuts-cons a b (head-eq_of_cons-eq e) (cuts u v x y (tail-eq_of_cons-eq e))
