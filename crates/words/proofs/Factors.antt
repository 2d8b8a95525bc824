-- Every word has exactly one factorisation: increasing Lyndon words join to one Lyndon
-- word, and the first factor is the largest Lyndon prefix.
use Prim.Native.Nat.{ℕ, zero, suc, ◌<◌}
use native.Mathlib.Omega.{arith}
use mathlib.Core.Path.{◌≡◌, refl, sym, ap, ◌∙◌, subst}
use mathlib.Core.Logic.{◌⊎◌, inl, inr, ⊎_elim}
use mathlib.Core.Bool.{Bool, true, false, false≢true}
use mathlib.Core.List.{List, [], ◌∷◌, ◌++◌, append_assoc, append-nil, append_cancel_left}
use lib.ListN.{length, length-append}
use Rattle.words.specs.Word.{Word, Less, begins, differs, Differs, less}
use Rattle.words.specs.Lyndon.{Lyndon, Factor, copies, written, Proper, Falling, no_factors, last, then, Factoring, same, push, factors_of}
use Rattle.words.proofs.Order.{less-iff, same-iff, less-trans, less-irrefl, less-asymm, compare-words, prefix_cases, differs-prepend}
use Rattle.words.proofs.Order.{differs-append, differs-append-left, differs-trans, Cuts, inside, beyond, cuts}
use Rattle.words.proofs.Lyndon.{lyndon-differences, lyndon-single, length_cut}

-- ---- joining Lyndon words

-- A proper suffix of a Lyndon word differs from it at some letter
pub lyndon-lower : {w : Word} → Lyndon w → (u v : Word) → w ≡ u ++ v → 0 < length u → 0 < length v → Differs w v
lyndon-lower {w} l = ((lyndon-differences w).0 l).lower

-- A Lyndon word followed by a larger one is smaller than the larger one
pub differs-join : {u v : Word} → Lyndon u → Lyndon v → Less u v → Differs (u ++ v) v
differs-join {u} {v} lu lv (begins b) =
    let d : Differs v (b.next ∷ b.rest) = lyndon-lower lv u (b.next ∷ b.rest) b.whole lu.above_zero (omega arith) in
    subst (λ (w : Word). Differs (u ++ v) w) (sym b.whole) (differs-prepend u d)
differs-join {u} {v} lu lv (differs d) = differs-append-left v d

pub lyndon-join : {u v : Word} → Lyndon u → Lyndon v → Less u v → Lyndon (u ++ v)
lyndon-join {u} {v} lu lv l =
    (lyndon-differences (u ++ v)).1
    (record {
      above_zero = omega (arith, lu.above_zero, length-append u v);
      lower = λ x y e hx hy. go x y hx hy (cuts u v x y e);
    })
  where
    go : (x y : Word) → 0 < length x → 0 < length y → Cuts u v x y → Differs (u ++ v) y
    go x y hx hy (inside a t e f) =
        subst (λ (w : Word). Differs (u ++ v) w) (sym f) (differs-append v v (lyndon-lower lu x (a ∷ t) e hx (omega arith)))
    go x y hx hy (beyond [] e f) = subst (λ (w : Word). Differs (u ++ v) w) f (differs-join lu lv l)
    go x y hx hy (beyond (a ∷ t) e f) = differs-trans (differs-join lu lv l) (lyndon-lower lv (a ∷ t) y f (omega arith) hy)

-- A Lyndon word absorbs all copies of a larger one
pub lyndon-join-copies : (k : ℕ) {u v : Word} → Lyndon u → Lyndon v → Less u v → Lyndon (u ++ copies k v)
unfolding copies
lyndon-join-copies zero {u} {v} lu lv l = rw append-nil lu
lyndon-join-copies (suc k) {u} {v} lu lv l =
    rw (← append_assoc u v (copies k v)) (lyndon-join-copies k (lyndon-join lu lv l) lv (differs (differs-join lu lv l)))

-- ---- a factorisation exists

push-less : (s : Word) (f : Factor) (fs : List Factor) → less s f.word ≡ true
    → push s (f ∷ fs) ≡ push (s ++ copies f.times f.word) fs
unfolding push
push-less s f fs e = rw (push, e)

push-same : (s : Word) (f : Factor) (fs : List Factor) → less s f.word ≡ false → same s f.word ≡ true
    → push s (f ∷ fs) ≡ record { word = f.word; times = suc f.times } ∷ fs
unfolding push
push-same s f fs e h = rw (push, e, h)

push-first : (s : Word) (f : Factor) (fs : List Factor) → less s f.word ≡ false → same s f.word ≡ false
    → push s (f ∷ fs) ≡ record { word = s; times = 1 } ∷ f ∷ fs
unfolding push
push-first s f fs e h = rw (push, e, h)

pub falling-head : {f : Factor} {fs : List Factor} → Falling (f ∷ fs) → Proper f
falling-head (last p) = p
falling-head (then p l h) = p

pub falling-tail : {f : Factor} {fs : List Factor} → Falling (f ∷ fs) → Falling fs
falling-tail (last p) = no_factors
falling-tail (then p l h) = h

proper-suc : (k : ℕ) {s : Word} → Lyndon s → Proper (record { word = s; times = suc k })
proper-suc k l = record { lyndon = l; repeated = omega arith }

-- One more copy of the first factor
falling-more : {f : Factor} {fs : List Factor} → Falling (f ∷ fs) → Falling (record { word = f.word; times = suc f.times } ∷ fs)
falling-more {f} (last p) = last (proper-suc f.times p.lyndon)
falling-more {f} (then p l h) = then (proper-suc f.times p.lyndon) l h

-- A word that is neither smaller nor equal is larger
larger-of-tests : (u v : Word) → less u v ≡ false → same u v ≡ false → Less v u
larger-of-tests u v e d =
    ⊎_elim (λ l. absurd (false≢true (sym e ∙ (less-iff u v).1 l))) (⊎_elim (λ p. absurd (false≢true (sym d ∙ (same-iff u v).1 p))) (λ l. l))
    (compare-words u v)

-- A Lyndon word in front of a factorisation
pub factoring-push : (fs : List Factor) (s : Word) → Lyndon s → Falling fs → Factoring (s ++ written fs) (push s fs)
unfolding push written copies
factoring-push [] s l h = record { falling = last (proper-suc 0 l); whole = simp append-nil }
factoring-push (f ∷ fs) s l h = go (less s f.word) (same s f.word) refl refl (λ t k. factoring-push fs t k (falling-tail h))
  where
    go :
        (b c : Bool)
        → less s f.word ≡ b
        → same s f.word ≡ c
        → ((t : Word) → Lyndon t → Factoring (t ++ written fs) (push t fs))
        → Factoring (s ++ (copies f.times f.word ++ written fs)) (push s (f ∷ fs))
    go true c e d ih =
        rw (push-less s f fs e, ← append_assoc s (copies f.times f.word) (written fs))
        (ih (s ++ copies f.times f.word) (lyndon-join-copies f.times l (falling-head h).lyndon ((less-iff s f.word).0 e)))
    go false true e d ih =
        rw (push-same s f fs e d)
        (record {
          falling = falling-more h;
          whole = append_assoc f.word (copies f.times f.word) (written fs)
              ∙ ap (λ (w : Word). w ++ (copies f.times f.word ++ written fs)) (sym ((same-iff s f.word).0 d));
        })
    go false false e d ih =
        rw (push-first s f fs e d) (record { falling = then (proper-suc 0 l) (larger-of-tests s f.word e d) h; whole = simp append-nil })

pub factors-exist : (w : Word) → Factoring w (factors_of w)
unfolding factors_of written
factors-exist [] = record { falling = no_factors; whole = refl }
factors-exist (a ∷ w) =
    let f : Factoring w (factors_of w) = factors-exist w in
    subst (λ (v : Word). Factoring (a ∷ v) (push (a ∷ []) (factors_of w))) f.whole
    (factoring-push (factors_of w) (a ∷ []) (lyndon-single a) f.falling)

-- ---- there is only one

-- u is smaller than v or equal to it
abbrev pub AtMost : Word → Word → Type 0
AtMost u v = (u ≡ v) ⊎ Less u v

pub less-of-less-of-at-most : {u v w : Word} → Less u v → AtMost v w → Less u w
less-of-less-of-at-most {u} l (inl e) = subst (λ (x : Word). Less u x) e l
less-of-less-of-at-most l (inr k) = less-trans l k

pub less-of-at-most-of-less : {u v w : Word} → AtMost u v → Less v w → Less u w
less-of-at-most-of-less {w} (inl e) l = subst (λ (x : Word). Less x w) (sym e) l
less-of-at-most-of-less (inr k) l = less-trans k l

pub at-most-trans : {u v w : Word} → AtMost u v → AtMost v w → AtMost u w
at-most-trans {w} (inl e) m = subst (λ (x : Word). AtMost x w) (sym e) m
at-most-trans (inr l) m = inr (less-of-less-of-at-most l m)

pub at-most-antisymm : {u v : Word} → AtMost u v → AtMost v u → u ≡ v
at-most-antisymm (inl e) m = e
at-most-antisymm (inr l) (inl e) = sym e
at-most-antisymm (inr l) (inr k) = absurd (less-asymm l k)

-- The word g has a suffix that is at most h
record Ends (g h : Word) : Type 0 where
  before : Word
  part : Word
  whole : g ≡ before ++ part
  above_zero : 0 < length part
  small : AtMost part h

ends-copies :
    (k : ℕ) (p r h : Word)
    → AtMost p h
    → ((g t : Word) → r ≡ g ++ t → 0 < length g → Ends g h)
    → (g t : Word)
    → copies k p ++ r ≡ g ++ t
    → 0 < length g
    → Ends g h
unfolding copies
ends-copies zero p r h m rest g t e some = rest g t e some
ends-copies (suc k) p r h m rest g t e some =
    go (cuts p (copies k p ++ r) g t (sym (append_assoc p (copies k p) r) ∙ e)) (ends-copies k p r h m rest)
  where
    go : Cuts p (copies k p ++ r) g t → ((x z : Word) → copies k p ++ r ≡ x ++ z → 0 < length x → Ends x h) → Ends g h
    go (inside a z f d) ih = record { before = []; part = g; whole = refl; above_zero = some; small = at-most-trans (prefix_cases (a ∷ z) f) m }
    go (beyond [] f d) ih = record { before = []; part = g; whole = refl; above_zero = some; small = at-most-trans (inl (f ∙ append-nil p)) m }
    go (beyond (a ∷ z) f d) ih =
        let i : Ends (a ∷ z) h = ih (a ∷ z) t d (omega arith) in
        record {
          before = p ++ i.before;
          part = i.part;
          whole = f ∙ ap (λ (w : Word). p ++ w) i.whole ∙ sym (append_assoc p i.before i.part);
          above_zero = i.above_zero;
          small = i.small;
        }

ends-falling : {f : Factor} {fs : List Factor} → Falling (f ∷ fs) → (h : Word) → AtMost f.word h → (g t : Word)
    → written (f ∷ fs) ≡ g ++ t → 0 < length g → Ends g h
unfolding written
ends-falling {f} (last p) h m = ends-copies f.times f.word [] h m (λ g t e some. absurd (omega (arith, length_cut g t e)))
ends-falling {f} (then {g = f'} {fs} p l k) h m =
    ends-copies f.times f.word (written (f' ∷ fs)) h m (ends-falling k h (inr (less-of-less-of-at-most l m)))

-- The first factor is the largest Lyndon prefix: a longer one would have a suffix that
-- is at most the first factor, and so smaller than itself
pub first-largest : {f : Factor} {fs : List Factor} → Falling (f ∷ fs) → (g t : Word) → Lyndon g → written (f ∷ fs) ≡ g ++ t
    → AtMost g f.word
first-largest {f} {fs} h g t l e = let i : Ends g f.word = ends-falling h f.word (inl refl) g t e l.above_zero in
    go i.before i.part i.whole i.above_zero i.small
  where
    go : (x s : Word) → g ≡ x ++ s → 0 < length s → AtMost s f.word → AtMost g f.word
    go [] s d some m = at-most-trans (inl d) m
    go (a ∷ x) s d some m = inr (less-of-less-of-at-most (differs (lyndon-lower l (a ∷ x) s d (omega arith) some)) m)

-- The word starts with its first factor
pub written-first : {f : Factor} {fs : List Factor} → Falling (f ∷ fs) → (t : Word) × (written (f ∷ fs) ≡ f.word ++ t)
unfolding written copies
written-first {f} {fs} h = go f.times (falling-head h).repeated
  where
    go : (k : ℕ) → 0 < k → (t : Word) × (copies k f.word ++ written fs ≡ f.word ++ t)
    go zero some = absurd (omega arith)
    go (suc k) some = (copies k f.word ++ written fs, append_assoc f.word (copies k f.word) (written fs))

-- After its copies the first factor does not occur once more
not-once-more : {f : Factor} {fs : List Factor} → Falling (f ∷ fs) → (t : Word) → written fs ≡ f.word ++ t → ⊥
unfolding written
not-once-more {f} (last p) t e = omega (arith, length_cut f.word t e, p.lyndon.above_zero)
not-once-more {f} (then p l h) t e = less-irrefl _ (less-of-less-of-at-most l (first-largest h f.word t p.lyndon e))

-- If neither rest starts with p, the number of copies of p before it is determined
copies-unique :
    (k m : ℕ) (p r s : Word)
    → ((t : Word) → r ≡ p ++ t → ⊥)
    → ((t : Word) → s ≡ p ++ t → ⊥)
    → copies k p ++ r ≡ copies m p ++ s
    → (k ≡ m) × (r ≡ s)
unfolding copies
copies-unique zero zero p r s hr hs e = (refl, e)
copies-unique zero (suc m) p r s hr hs e = absurd (hr (copies m p ++ s) (e ∙ append_assoc p (copies m p) s))
copies-unique (suc k) zero p r s hr hs e = absurd (hs (copies k p ++ r) (sym e ∙ append_assoc p (copies k p) r))
copies-unique (suc k) (suc m) p r s hr hs e =
    let i : (k ≡ m) × (r ≡ s) =
    copies-unique k m p r s hr hs (append_cancel_left p _ _ (sym (append_assoc p (copies k p) r) ∙ e ∙ append_assoc p (copies m p) s))
    in
    (ap suc i.0, i.1)

-- Of two factorisations of a word, each first factor is at most the other
first-at-most : {f g : Factor} {fs gs : List Factor} → Falling (f ∷ fs) → Falling (g ∷ gs) → written (f ∷ fs) ≡ written (g ∷ gs)
    → AtMost g.word f.word
first-at-most {f} {g} hf hg e = let w = written-first hg in first-largest hf g.word w.0 (falling-head hg).lyndon (e ∙ w.1)

falling-some : {f : Factor} {fs : List Factor} → Falling (f ∷ fs) → written (f ∷ fs) ≡ [] → ⊥
falling-some {f} h e = let w = written-first h in omega (arith, length_cut f.word w.0 (sym e ∙ w.1), (falling-head h).lyndon.above_zero)

falling-unique : (fs gs : List Factor) → Falling fs → Falling gs → written fs ≡ written gs → fs ≡ gs
unfolding written
falling-unique [] [] hf hg e = refl
falling-unique [] (g ∷ gs) hf hg e = absurd (falling-some hg (sym e))
falling-unique (f ∷ fs) [] hf hg e = absurd (falling-some hf e)
falling-unique (f ∷ fs) (g ∷ gs) hf hg e =
    let p : f.word ≡ g.word = at-most-antisymm (first-at-most hg hf (sym e)) (first-at-most hf hg e) in
    let c : (f.times ≡ g.times) × (written fs ≡ written gs) =
    copies-unique f.times g.times f.word (written fs) (written gs) (not-once-more hf)
    (λ t d. not-once-more hg t (d ∙ ap (λ (w : Word). w ++ t) p))
    (e ∙ ap (λ (w : Word). copies g.times w ++ written gs) (sym p))
    in
    let q : fs ≡ gs = falling-unique fs gs (falling-tail hf) (falling-tail hg) c.1 in
    λ i. record { word = p i; times = c.0 i } ∷ q i

pub factors-unique : (w : Word) (fs gs : List Factor) → Factoring w fs → Factoring w gs → fs ≡ gs
factors-unique w fs gs f g = falling-unique fs gs f.falling g.falling (f.whole ∙ sym g.whole)

pub factors-of : (w : Word) (fs : List Factor) → Factoring w fs → factors_of w ≡ fs
factors-of w fs f = factors-unique w (factors_of w) fs (factors-exist w) f

-- ---- the first factor is what the search finds

-- Why the search for copies of p stops at r: r is a proper prefix of p, or has the earlier letter where p has the later. So r is smaller
abbrev pub Stops : Word → Word → Type 0
Stops p r = Less r p

-- Then the first factor of r, a prefix of r, is smaller than p too
falling-before : {p : Word} {k : ℕ} (fs : List Factor) → Lyndon p → 0 < k → Stops p (written fs) → Falling fs
    → Falling (record { word = p; times = k } ∷ fs)
falling-before [] l some s h = last (record { lyndon = l; repeated = some })
falling-before (f ∷ fs) l some s h =
    let w = written-first h in
    then (record { lyndon = l; repeated = some }) (less-of-at-most-of-less (prefix_cases w.0 w.1) s) h

pub factors-first : (p r : Word) (k : ℕ) → Lyndon p → 0 < k → Stops p r
    → factors_of (copies k p ++ r) ≡ record { word = p; times = k } ∷ factors_of r
unfolding written
factors-first p r k l some s =
    let f : Factoring r (factors_of r) = factors-exist r in
    factors-of (copies k p ++ r) (record { word = p; times = k } ∷ factors_of r)
    (record {
      falling = falling-before (factors_of r) l some (rw f.whole s) f.falling;
      whole = ap (λ (w : Word). copies k p ++ w) f.whole;
    })
