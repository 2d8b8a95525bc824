-- A list of values, read and written. A store in one value's window leaves the windows of the others unchanged.
use Prim.Native.Nat.{ℕ, zero, suc, ◌+◌, ◌-◌, ◌≤◌, ◌<◌}
use native.Mathlib.Nat.{zero-add, suc-add, add-zero, add-sub_of_le, eq-or-lt_of_le}
use native.Mathlib.Omega.{arith}
use mathlib.Core.Path.{◌≡◌, refl, sym, ap, ap₂, ◌∙◌}
use mathlib.Core.Logic.{◌⊎◌, inl, inr, ⊎_elim}
use mathlib.Core.List.{List, [], ◌∷◌, ◌++◌, append_assoc}
use lib.ListN.{length, take, drop, get_or, set}
use lib.Seq.{take-set-le, take-set-lt, drop-set-lt, drop-set-add, take-nil, take_all, take_at, drop_at, take-append-le, take-take}
use lib.Seq.{drop-drop, length-take-le, paste, drop-paste}
use mathlib.Core.Bool.{Bool, true, false}
use lib.Dec.{ltb}
use borrow.Author.Tests.{ltb-true, ltb-false}
use Rattle.windows.specs.Windows.{window, slots_from}

module _ {A : Type 0} where
  pub slots_same : (f g : ℕ → A) (i n : ℕ) → ((j : ℕ) → i ≤ j → g j ≡ f j) → slots_from g i n ≡ slots_from f i n
  unfolding slots_from
  slots_same f g i zero e = refl
  slots_same f g i (suc n) e = ap₂ ◌∷◌ (e i (omega arith)) (slots_same f g (suc i) n (λ j l. e j (omega arith)))

  pub slots-below : (f g : ℕ → A) (i n : ℕ) → ((j : ℕ) → j < i + n → g j ≡ f j) → slots_from g i n ≡ slots_from f i n
  unfolding slots_from
  slots-below f g i zero e = refl
  slots-below f g i (suc n) e = ap₂ ◌∷◌ (e i (omega arith)) (slots-below f g (suc i) n (λ j l. e j (omega arith)))

  -- Two lists of values that differ in one place only
  pub slots_set : (f g : ℕ → A) (i n k : ℕ) (v : A) → k < n → g (i + k) ≡ v → ((j : ℕ) → (j ≡ i + k → ⊥) → g j ≡ f j)
      → slots_from g i n ≡ set (slots_from f i n) k v
  unfolding slots_from
  slots_set f g i zero k v l here others = absurd (omega arith)
  slots_set f g i (suc n) zero v l here others =
      ap₂ ◌∷◌ (ap g (sym (add-zero i)) ∙ here) (slots_same f g (suc i) n (λ j m. others j (λ q. omega arith)))
  slots_set f g i (suc n) (suc k) v l here others =
      let shift : suc i + k ≡ i + suc k = omega arith in
      ap₂ ◌∷◌ (others i (λ q. omega arith))
      (slots_set f g (suc i) n k v (omega arith) (ap g shift ∙ here) (λ j m. others j (λ q. m (omega arith))))

  pub slots_at : (f : ℕ → A) (i n k : ℕ) (d : A) → k < n → get_or (slots_from f i n) k d ≡ f (i + k)
  unfolding slots_from
  slots_at f i zero k d l = absurd (omega arith)
  slots_at f i (suc n) zero d l = ap f (sym (add-zero i))
  slots_at f i (suc n) (suc k) d l = slots_at f (suc i) n k d (omega arith) ∙ ap f (omega arith)

  -- A store inside a window, and outside
  pub window-set : (a w o : ℕ) (l : List A) (v : A) → o < w → window a w (set l (a + o) v) ≡ set (window a w l) o v
  window-set a w o l v h = ap (take w) (drop-set-add a l o v) ∙ take-set-lt w (drop a l) o v h

  pub window-before : (a w n : ℕ) (l : List A) (v : A) → n < a → window a w (set l n v) ≡ window a w l
  window-before a w n l v h = ap (take w) (drop-set-lt a l n v h)

  pub window-after : (a w n : ℕ) (l : List A) (v : A) → a + w ≤ n → window a w (set l n v) ≡ window a w l
  window-after a w n l v h =
      let e : a + (n - a) ≡ n = add-sub_of_le (omega arith) in
      ap (λ (m : ℕ). window a w (set l m v)) (sym e) ∙ ap (take w) (drop-set-add a l (n - a) v)
      ∙ take-set-le w (drop a l) (n - a) v (omega arith)

-- ---- a copy into a list: the window that it fills, and the others

module _ {A : Type 0} where
  window-slice : (b w : ℕ) (l : List A) → window b w l ≡ drop b (take (b + w) l)
  window-slice zero w l = rw (zero-add w)
  window-slice (suc b) w [] = rw (take-nil {A = A} w, suc-add b w)
  window-slice (suc b) w (x ∷ l) = rw (suc-add b w) (window-slice b w l)

  module _ (d : List A) (at n : ℕ) (s : List A) (room : at + n ≤ length d) (full : length s ≡ n) where
    pub window-paste : window at n (paste d at s n) ≡ s
    window-paste =
        ap (λ (l : List A). take n (drop at l)) (append_assoc (take at d) (take n s) (drop (at + n) d))
        ∙ ap (take n) (drop_at (take at d) (take n s ++ drop (at + n) d) at (length-take-le at d (omega arith)))
        ∙ take_at (take n s) (drop (at + n) d) n (length-take-le n s (omega arith))
        ∙ take_all n s (omega arith)

    pub window-paste-before : (b w : ℕ) → b + w ≤ at → window b w (paste d at s n) ≡ window b w d
    window-paste-before b w h =
        window-slice b w (paste d at s n)
        ∙ ap (drop b)
        (ap (take (b + w)) (append_assoc (take at d) (take n s) (drop (at + n) d))
        ∙ take-append-le (b + w) (take at d) (take n s ++ drop (at + n) d) (omega (arith, length-take-le at d (omega arith)))
        ∙ take-take (b + w) at d h)
        ∙ sym (window-slice b w d)

    pub window-paste-after : (b w : ℕ) → at + n ≤ b → window b w (paste d at s n) ≡ window b w d
    window-paste-after b w h =
        let e : at + n + (b - (at + n)) ≡ b = add-sub_of_le h in
        let same : drop (at + n) (paste d at s n) ≡ drop (at + n) d = drop-paste d at s n (omega arith) (omega arith) in
        ap (take w)
        (ap (λ (m : ℕ). drop m (paste d at s n)) (sym e) ∙ sym (drop-drop (b - (at + n)) (at + n) (paste d at s n))
        ∙ ap (drop (b - (at + n))) same
        ∙ drop-drop (b - (at + n)) (at + n) d
        ∙ ap (λ (m : ℕ). drop m d) e)

-- Two numbers that differ
pub order : (j p : ℕ) → (j ≡ p → ⊥) → (j < p) ⊎ (p < j)
order j p d = go (ltb j p) refl
  where
    go : (t : Bool) → ltb j p ≡ t → (j < p) ⊎ (p < j)
    go true e = inl (ltb-true j p e)
    go false e = ⊎_elim (λ q. absurd (d (sym q))) inr (eq-or-lt_of_le (ltb-false j p e))
