-- A list with one number for each row is lowered or raised row by row: the rows so far have their bounds, and the others are unchanged.
use Prim.Native.Nat.{ℕ, ◌+◌, ◌≤◌, ◌<◌, min, max}
use native.Mathlib.Decide.{dec_le, dec_lt, ℕ_discrete}
use native.Mathlib.Omega.{arith}
use mathlib.Core.Path.{◌≡◌, refl, sym, ap, ◌∙◌}
use mathlib.Core.Bool.{Bool, true, false, cond, ◌&&◌}
use mathlib.Core.List.{List}
use lib.Dec.{ltb}
use lib.ListN.{length, get_or, set, length-set}
use lib.Seq.{get_or-set_same, get_or-set_other}
use borrow.Author.Tests.{lt-ltb, le-ltb, ltb-true, ltb-false}
use Rattle.chart.specs.Limits.{side}
use Rattle.comparison.specs.parts.Rows.{in_rows, AllBelow, Lowered, Raised}

-- ---- the rows between two

module _ (a b : ℕ) (f : ℕ → ℕ) (d : ℕ) where
  in_rows-inside : (r : ℕ) → a < r → r < b → in_rows a b f d r ≡ f r
  unfolding in_rows
  in_rows-inside r h k = rw (lt-ltb a r h, lt-ltb r b k)

  off-below : (r : ℕ) → r ≤ a → in_rows a b f d r ≡ d
  unfolding in_rows
  off-below r h = rw (le-ltb a r h)

  off-above : (r : ℕ) → b ≤ r → in_rows a b f d r ≡ d
  unfolding in_rows
  off-above r h = go (ltb a r)
    where
      go : (s : Bool) → cond (s && ltb r b) (f r) d ≡ d
      go true = rw (le-ltb r b h)
      go false = refl

-- One more row changes nothing for the other rows
one_more : (a n : ℕ) (f : ℕ → ℕ) (d r : ℕ) → (r ≡ n → ⊥) → in_rows a (n + 1) f d r ≡ in_rows a n f d r
unfolding in_rows
one_more a n f d r h = go (ltb r n) refl
  where
    go : (s : Bool) → ltb r n ≡ s → cond (ltb a r && ltb r (n + 1)) (f r) d ≡ cond (ltb a r && ltb r n) (f r) d
    go true e = rw (e, lt-ltb r (n + 1) (omega (arith, ltb-true r n e)))
    go false e = rw (e, le-ltb r (n + 1) (omega (arith, ltb-false r n e)))

-- After the last row, or if there is none, all rows are done
all-rows : (a b n : ℕ) (f : ℕ → ℕ) (d r : ℕ) → b ≤ n → n ≤ max (a + 1) b → in_rows a n f d r ≡ in_rows a b f d r
all-rows a b n f d r h k =
    elim (dec_lt a r) [
      | no g ↦ off-below a n f d r (omega arith) ∙ sym (off-below a b f d r (omega arith))
      | yes g ↦
          elim (dec_lt r b) [
            | no e ↦ off-above a n f d r (omega arith) ∙ sym (off-above a b f d r (omega arith))
            | yes e ↦ in_rows-inside a n f d r g (omega arith) ∙ sym (in_rows-inside a b f d r g e)
          ]
    ]

-- ---- lists

-- A number put at n, with the others unchanged
module _ (l : List ℕ) (n v : ℕ) (room : n < length l) where
  put-here : (r : ℕ) → r ≡ n → get_or (set l n v) r 0 ≡ v
  put-here r e = rw e (get_or-set_same l n v 0 room)

  put-else : (r : ℕ) → (r ≡ n → ⊥) → get_or (set l n v) r 0 ≡ get_or l r 0
  put-else r h = get_or-set_other l n r v 0 h

pub lowered-below : {f : ℕ → ℕ} {before after : List ℕ} → AllBelow before → Lowered f before after → AllBelow after
lowered-below b w = record { long = w.long ∙ b.long; at = λ r l. omega (arith, b.at r l, w.at r l) }

module _ (a : ℕ) (f : ℕ → ℕ) (before : List ℕ) where
  pub low-start : AllBelow before → Lowered (in_rows a (a + 1) f side) before before
  low-start b =
      record {
        long = refl;
        at = λ r l.
            elim (dec_le r a) [
              | yes h ↦ omega (arith, b.at r l, off-below a (a + 1) f side r h)
              | no h ↦ omega (arith, b.at r l, off-above a (a + 1) f side r (omega arith))
            ];
      }

  pub low-next : {n : ℕ} {list : List ℕ} (w : ℕ) → AllBelow before → Lowered (in_rows a n f side) before list → a < n → n < length list
      → f n ≡ min w side
      → Lowered (in_rows a (n + 1) f side) before (set list n (min (get_or list n 0) w))
  low-next {n} {list} w b o h room e =
      record {
        long = length-set list n _ ∙ o.long;
        at = λ r l.
            elim (ℕ_discrete r n) [
              | yes k ↦
                  put-here list n _ room r k
                  ∙ rw k (omega (
                    arith,
                    b.at n (omega arith),
                    o.at n (omega arith),
                    off-above a n f side n (omega arith),
                    in_rows-inside a (n + 1) f side n h (omega arith),
                  ))
              | no k ↦ put-else list n _ room r k ∙ o.at r l ∙ ap (min (get_or before r 0)) (sym (one_more a n f side r k))
            ];
      }

  pub low_end : {b n : ℕ} {list : List ℕ} → Lowered (in_rows a n f side) before list → b ≤ n → n ≤ max (a + 1) b
      → Lowered (in_rows a b f side) before list
  low_end {b} {n} o h k = record { long = o.long; at = λ r l. o.at r l ∙ ap (min (get_or before r 0)) (all-rows a b n f side r h k) }

  pub high-start : Raised (in_rows a (a + 1) f 0) before before
  high-start =
      record {
        long = refl;
        at = λ r l.
            elim (dec_le r a) [
              | yes h ↦ omega (arith, off-below a (a + 1) f 0 r h)
              | no h ↦ omega (arith, off-above a (a + 1) f 0 r (omega arith))
            ];
      }

  pub high-next : {n : ℕ} {list : List ℕ} (w : ℕ) → Raised (in_rows a n f 0) before list → a < n → n < length list → f n ≡ w
      → Raised (in_rows a (n + 1) f 0) before (set list n (max (get_or list n 0) w))
  high-next {n} {list} w o h room e =
      record {
        long = length-set list n _ ∙ o.long;
        at = λ r l.
            elim (ℕ_discrete r n) [
              | yes k ↦
                  put-here list n _ room r k
                  ∙ rw k (omega (arith, o.at n (omega arith), off-above a n f 0 n (omega arith), in_rows-inside a (n + 1) f 0 n h (omega arith)))
              | no k ↦ put-else list n _ room r k ∙ o.at r l ∙ ap (max (get_or before r 0)) (sym (one_more a n f 0 r k))
            ];
      }

  pub high_end : {b n : ℕ} {list : List ℕ} → Raised (in_rows a n f 0) before list → b ≤ n → n ≤ max (a + 1) b
      → Raised (in_rows a b f 0) before list
  high_end {b} {n} o h k = record { long = o.long; at = λ r l. o.at r l ∙ ap (max (get_or before r 0)) (all-rows a b n f 0 r h k) }

-- ---- a single row

module _ (f : ℕ → ℕ) (before : List ℕ) (n w : ℕ) (room : n < length before) where
  pub low-one : AllBelow before → f n ≡ min w side → ((r : ℕ) → (r ≡ n → ⊥) → f r ≡ side)
      → Lowered f before (set before n (min (get_or before n 0) w))
  low-one b e h =
      record {
        long = length-set before n _;
        at = λ r l.
            elim (ℕ_discrete r n) [
              | yes k ↦ put-here before n _ room r k ∙ rw k (omega (arith, b.at r l, ap (λ (i : ℕ). get_or before i 0) k))
              | no k ↦ put-else before n _ room r k ∙ omega (arith, b.at r l, h r k)
            ];
      }

  pub high_one : f n ≡ w → ((r : ℕ) → (r ≡ n → ⊥) → f r ≡ 0) → Raised f before (set before n (max (get_or before n 0) w))
  high_one e h =
      record {
        long = length-set before n _;
        at = λ r l.
            elim (ℕ_discrete r n) [
              | yes k ↦ put-here before n _ room r k ∙ rw k (omega arith)
              | no k ↦ put-else before n _ room r k ∙ omega (arith, h r k)
            ];
      }
