-- Duval's search keeps copies of a Lyndon word p and a proper prefix q of it, because
-- each next letter extends them, joins them or ends them.
-- A larger letter makes everything one longer Lyndon word, an equal one keeps this
-- form, and a smaller one or the end determines the factor.
use Prim.Native.Nat.{ℕ, zero, suc, ◌+◌, ◌<◌}
use native.Mathlib.Omega.{arith}
use native.Mathlib.Nat.{zero-add, suc-add}
use mathlib.Core.Path.{◌≡◌, refl, sym, ap, ◌∙◌, subst}
use mathlib.Core.Logic.{◌⊎◌, inl, inr}
use mathlib.Core.Bool.{Bool, true, false}
use mathlib.Core.List.{[], ◌∷◌, ◌++◌, append_assoc, append-nil}
use lib.ListN.{length, length-append}
use Rattle.words.specs.Word.{Word, Less, begins, differs, Differs, Begins}
use Rattle.words.specs.Lyndon.{Lyndon, copies}
use Rattle.words.proofs.Order.{Compared, lower, higher, shorter, longer, compared, less-asymm, less-append, differs-append, Cuts}
use Rattle.words.proofs.Order.{inside, beyond, cuts}
use Rattle.words.proofs.Lyndon.{lyndon-differences, length_cut}
use Rattle.words.proofs.Factors.{lyndon-lower, lyndon-join, Stops}

-- ---- copies

pub copies-append : (k : ℕ) (p : Word) → copies k p ++ p ≡ copies (suc k) p
unfolding copies
copies-append zero p = sym (append-nil p)
copies-append (suc k) p = append_assoc p (copies k p) p ∙ ap (λ (w : Word). p ++ w) (copies-append k p)

pub copies-add : (j k : ℕ) (p : Word) → copies j p ++ copies k p ≡ copies (j + k) p
unfolding copies
copies-add zero k p = rw zero-add
copies-add (suc j) k p = rw suc-add (append_assoc p (copies j p) (copies k p) ∙ ap (λ (w : Word). p ++ w) (copies-add j k p))

-- ---- (a) a larger letter

-- A prefix of a Lyndon word, followed by the later letter where the word has the earlier, is a Lyndon word
pub lyndon-raise : {p : Word} (q y : Word) → Lyndon p → p ≡ q ++ false ∷ y → Lyndon (q ++ true ∷ [])
lyndon-raise {p} q y l e =
    (lyndon-differences (q ++ true ∷ [])).1
    (record {
      above_zero = omega (arith, length-append q (true ∷ []));
      lower = λ u v f hu hv. cut u v hu hv (cuts q (true ∷ []) u v f);
    })
  where
    -- t ++ false ∷ y is a suffix of p
    below : (u t : Word) → 0 < length u → q ≡ u ++ t → Differs p (t ++ false ∷ y)
    below u t hu f =
        lyndon-lower l u (t ++ false ∷ y) (e ∙ ap (λ (w : Word). w ++ false ∷ y) f
        ∙ append_assoc u t (false ∷ y)) hu (omega (arith, length-append t (false ∷ y)))

    go : (u t : Word) → 0 < length u → q ≡ u ++ t → Compared q t → Differs (q ++ true ∷ []) (t ++ true ∷ [])
    go u t hu f (lower d) = differs-append (true ∷ []) (true ∷ []) d
    go u t hu f (higher d) = absurd (less-asymm (differs (below u t hu f)) (differs (rw e (differs-append (false ∷ y) (false ∷ y) d))))
    go u t hu f (shorter s g) = absurd (omega (arith, length_cut u t f, length_cut q s g))
    go u t hu f (longer [] g) = absurd (omega (arith, length_cut u t f, length_cut t [] g))
    go u t hu f (longer (false ∷ s) g) =
        record {
          same = t;
          low = s ++ true ∷ [];
          high = [];
          left = ap (λ (w : Word). w ++ true ∷ []) g ∙ append_assoc t (false ∷ s) (true ∷ []);
          right = refl;
        }
    go u t hu f (longer (true ∷ s) g) =
        absurd
        (less-asymm (differs (below u t hu f))
        (differs
        (record {
          same = t;
          low = y;
          high = s ++ false ∷ y;
          left = refl;
          right = e ∙ ap (λ (w : Word). w ++ false ∷ y) g ∙ append_assoc t (true ∷ s) (false ∷ y);
        })))

    cut : (u v : Word) → 0 < length u → 0 < length v → Cuts q (true ∷ []) u v → Differs (q ++ true ∷ []) v
    cut u v hu hv (inside a t f g) = subst (λ (w : Word). Differs (q ++ true ∷ []) w) (sym g) (go u (a ∷ t) hu f (compared q (a ∷ t)))
    cut u v hu hv (beyond [] f g) =
        subst (λ (w : Word). Differs (q ++ true ∷ []) w) g (go u [] hu (sym (append-nil u ∙ f ∙ append-nil q)) (compared q []))
    cut u v hu hv (beyond (a ∷ t) f g) = absurd (omega (arith, length_cut (a ∷ t) v g))

-- Copies of p followed by a larger Lyndon word: a Lyndon word larger than p
lyndon-copies : (m : ℕ) {p g : Word} → Lyndon p → Lyndon g → Less p g → Lyndon (copies m p ++ g) × Less p (copies m p ++ g)
unfolding copies
lyndon-copies zero lp lg h = (lg, h)
lyndon-copies (suc m) {p} {g} lp lg h =
    let i : Lyndon (copies m p ++ g) × Less p (copies m p ++ g) = lyndon-copies m lp lg h in
    rw (append_assoc p (copies m p) g) (lyndon-join lp i.0 i.1, less-append p (copies m p ++ g) i.0.above_zero)

pub lyndon-larger : (m : ℕ) {p : Word} (q y : Word) → Lyndon p → p ≡ q ++ false ∷ y → Lyndon (copies m p ++ (q ++ true ∷ []))
lyndon-larger m {p} q y l e =
    (lyndon-copies m l (lyndon-raise q y l e) (differs (record { same = q; low = y; high = []; left = e; right = refl }))).0

-- ---- (b) the same letter

-- Either q with its next letter is still a proper prefix of p, or it is p, and there is one more copy
pub step_same : (m : ℕ) {p : Word} (q : Word) (b : Bool) (y : Word) → p ≡ q ++ b ∷ y
    → Begins (q ++ b ∷ []) p ⊎ ((q ++ b ∷ [] ≡ p) × (copies m p ++ (q ++ b ∷ []) ≡ copies (suc m) p))
step_same m {p} q b [] e = inr (sym e, ap (λ (w : Word). copies m p ++ w) (sym e) ∙ copies-append m p)
step_same m q b (c ∷ y) e = inl (record { next = c; rest = y; whole = e ∙ sym (append_assoc q (b ∷ []) (c ∷ y)) })

-- ---- (c) the end, or a smaller letter

pub stops-at-end : {p : Word} (q : Word) (b : Bool) (y : Word) → p ≡ q ++ b ∷ y → Stops p q
stops-at-end q b y e = begins (record { next = b; rest = y; whole = e })

pub stops-at-smaller : {p : Word} (q y z : Word) → p ≡ q ++ true ∷ y → Stops p (q ++ false ∷ z)
stops-at-smaller q y z e = differs (record { same = q; low = z; high = y; left = refl; right = e })
