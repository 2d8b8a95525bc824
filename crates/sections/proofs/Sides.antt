-- For a cell in a triangle of marked cells, some side of the triangle is at or below it in its layer, and some
-- side is at or above it. Both have one proof, with the direction as a Bool. No sorting is needed: the cell's
-- layer has one corner on one side and two on the other, or all corners with weight are in it.
use Prim.Native.Nat.{ℕ, zero, suc, ◌+◌, ◌-◌, ◌*◌, ◌≤◌, ◌<◌}
use native.Mathlib.Nat.{add_comm, mul-le-mul_left, mul-le-mul_right, le_of_mul-le-mul_left, le_of_eq}
use native.Mathlib.Decide.{dec_le, dec_lt}
use native.Mathlib.Omega.{arith}
use mathlib.Core.Path.{◌≡◌, refl, sym, ap, subst}
use mathlib.Core.Logic.{◌⊎◌, inl, inr}
use mathlib.Core.Bool.{Bool, true, false}
use Rattle.chart.specs.declared.Point.{Point}
use Rattle.lattice.specs.Hull.{InTriangle}
use Rattle.sections.proofs.Lines.{Line, own, line}

-- "at most" for the low ends, "at least" for the high ends
abbrev pub Dir : Bool → ℕ → ℕ → Type 0
Dir true e s = e ≤ s
Dir false e s = s ≤ e

-- ---- laws of the direction

dir-trans : (u : Bool) (a b c : ℕ) → Dir u a b → Dir u b c → Dir u a c
dir-trans true a b c h k = omega arith
dir-trans false a b c h k = omega arith

pub dir-add : (u : Bool) (a b c d : ℕ) → Dir u a b → Dir u c d → Dir u (a + c) (b + d)
dir-add true a b c d h k = omega arith
dir-add false a b c d h k = omega arith

pub dir-times : (u : Bool) (n a b : ℕ) → Dir u a b → Dir u (n * a) (n * b)
dir-times true n a b h = mul-le-mul_left n h
dir-times false n a b h = mul-le-mul_left n h

pub dir-cancel : (u : Bool) (n a b : ℕ) → 0 < n → Dir u (n * a) (n * b) → Dir u a b
dir-cancel true n a b p h = le_of_mul-le-mul_left h p
dir-cancel false n a b p h = le_of_mul-le-mul_left h p

pub dir-as : (u : Bool) {a b c d : ℕ} → a ≡ c → b ≡ d → Dir u a b → Dir u c d
dir-as true e e' h = omega arith
dir-as false e e' h = omega arith

dir-zero : (u : Bool) (a b : ℕ) → Dir u (0 * a) (0 * b)
dir-zero true a b = omega arith
dir-zero false a b = omega arith

cancel : (w l j : ℕ) → 0 < w → w * l ≡ w * j → l ≡ j
cancel w l j p e =
    let h : l ≤ j = le_of_mul-le-mul_left (le_of_eq e) p in
    let k : j ≤ l = le_of_mul-le-mul_left (le_of_eq (sym e)) p in
    omega arith

-- ---- a mean j of l, m and n: if none is beyond j, all that have weight are at j; and not all are beyond

level-left :
    (a b c j l m n : ℕ) →
    (a + b + c) * j ≡ a * l + b * m + c * n →
    l ≤ j →
    m ≤ j →
    n ≤ j →
    (a * l ≡ a * j) × (b * m ≡ b * j) × (c * n ≡ c * j)
level-left a b c j l m n e h k i = omega (arith, mul-le-mul_left a h, mul-le-mul_left b k, mul-le-mul_left c i)

level-right :
    (a b c j l m n : ℕ) →
    (a + b + c) * j ≡ a * l + b * m + c * n →
    j ≤ l →
    j ≤ m →
    j ≤ n →
    (a * l ≡ a * j) × (b * m ≡ b * j) × (c * n ≡ c * j)
level-right a b c j l m n e h k i = omega (arith, mul-le-mul_left a h, mul-le-mul_left b k, mul-le-mul_left c i)

none_left : (a b c j l m n : ℕ) → 0 < a + b + c → (a + b + c) * j ≡ a * l + b * m + c * n → j < l → j < m → j < n → ⊥
none_left a b c j l m n p e h k i = omega (arith, mul-le-mul_left a h, mul-le-mul_left b k, mul-le-mul_left c i)

-- Distances from j, with l on one side and m and n on the other
distances :
    (a b c j l m n d e f : ℕ) → j ≡ l + d → m ≡ j + e → n ≡ j + f → (a + b + c) * j ≡ a * l + b * m + c * n → a * d ≡ b * e + c * f
distances a b c j l m n d e f h k i g = omega (arith, ap (λ z. a * z) h, ap (λ z. b * z) k, ap (λ z. c * z) i)

distances-right :
    (a b c j l m n d e f : ℕ) → l ≡ j + d → j ≡ m + e → j ≡ n + f → (a + b + c) * j ≡ a * l + b * m + c * n → a * d ≡ b * e + c * f
distances-right a b c j l m n d e f h k i g = omega (arith, ap (λ z. a * z) h, ap (λ z. b * z) k, ap (λ z. c * z) i)

others-count : (a b c d e f : ℕ) → 0 < d → 0 < a + b + c → a * d ≡ b * e + c * f → 0 < b + c
others-count a b c d e f p s h =
    elim (dec_lt 0 (b + c)) [
      | yes k ↦ k
      | no k ↦
          let i : b ≤ 0 = omega arith in
          let j : c ≤ 0 = omega arith in
          absurd (omega (arith, mul-le-mul_left a p, mul-le-mul_right e i, mul-le-mul_right f j))
    ]

-- ---- one corner on one side at the distance d, and two on the other at e and f: the two sides from that corner

-- Two equal means with the same weights: one of the first two numbers is at most its counterpart
one_of_two : (b c x x' y y' : ℕ) → 0 < b + c → b * x + c * y ≡ b * x' + c * y' → (x ≤ x') ⊎ (y ≤ y')
one_of_two b c x x' y y' p e =
    elim (dec_le x x') [
      | yes h ↦ inl h
      | no h ↦
          elim (dec_le y y') [
            | yes k ↦ inr k
            | no k ↦
                let h' : suc x' ≤ x = omega arith in
                let k' : suc y' ≤ y = omega arith in
                absurd (omega (arith, mul-le-mul_left b h', mul-le-mul_left c k'))
          ]
    ]

-- The cell is the mean of the points of the two sides in its layer
mean-of-sides :
    (a b c d e f r y₁ y₂ y₃ : ℕ) →
    a * d ≡ b * e + c * f →
    (a + b + c) * r ≡ a * y₁ + b * y₂ + c * y₃ →
    b * (e * y₁ + d * y₂) + c * (f * y₁ + d * y₃) ≡ b * ((d + e) * r) + c * ((d + f) * r)
mean-of-sides a b c d e f r y₁ y₂ y₃ h k = omega (arith, ap (λ n. n * r) h, ap (λ n. n * y₁) h, ap (λ n. d * n) k)

apex :
    (u : Bool) (a b c d e f r y₁ y₂ y₃ : ℕ) →
    0 < d →
    0 < a + b + c →
    a * d ≡ b * e + c * f →
    (a + b + c) * r ≡ a * y₁ + b * y₂ + c * y₃ →
    Dir u (e * y₁ + d * y₂) ((d + e) * r) ⊎ Dir u (f * y₁ + d * y₃) ((d + f) * r)
apex true a b c d e f r y₁ y₂ y₃ p s h k =
    one_of_two b c _ _ _ _ (others-count a b c d e f p s h) (mean-of-sides a b c d e f r y₁ y₂ y₃ h k)
apex false a b c d e f r y₁ y₂ y₃ p s h k =
    one_of_two b c _ _ _ _ (others-count a b c d e f p s h) (sym (mean-of-sides a b c d e f r y₁ y₂ y₃ h k))

turned : {x p q t : Point} → InTriangle x p q t → InTriangle x q t p
turned h = record { a = h.b; b = h.c; c = h.a; above_zero = omega arith; cols = omega (arith, h.cols); rows = omega (arith, h.rows) }

module _ (u : Bool) (full : ℕ → Bool) (end : ℕ → ℕ) where
  -- The cell is in a full layer, at or past the layer's end
  pub record Mark (p : Point) : Type 0 where
    pub is-full : full p.col ≡ true
    pub reached : Dir u (end p.col) p.row

  -- A side from p to q gives the line through the ends of their layers
  side :
      (x p q : Point) →
      Mark p →
      Mark q →
      p.col ≤ x.col →
      x.col ≤ q.col →
      p.col < q.col →
      Dir u ((q.col - x.col) * p.row + (x.col - p.col) * q.row) ((q.col - p.col) * x.row) →
      Line (Dir u) full end x.col x.row
  side x p q m n h k l s =
      line p.col q.col m.is-full n.is-full h k l
      (dir-trans u _ _ _
      (dir-add u _ _ _ _ (dir-times u (q.col - x.col) _ _ m.reached) (dir-times u (x.col - p.col) _ _ n.reached))
      s)

  -- ---- all corners with weight are in the cell's layer

  part : (w j : ℕ) (p : Point) → Mark p → w * p.col ≡ w * j → Dir u (w * end j) (w * p.row)
  part zero j p m e = dir-zero u (end j) p.row
  part (suc w) j p m e =
      dir-times u (suc w) (end j) p.row (subst (λ l. Dir u (end l) p.row) (cancel (suc w) p.col j (omega arith) e) m.reached)

  full_at : (w j : ℕ) (p : Point) → Mark p → 0 < w → w * p.col ≡ w * j → full j ≡ true
  full_at w j p m l e = rw (cancel w p.col j l e) at m.is-full

  level :
      (x p q t : Point) (h : InTriangle x p q t) →
      Mark p →
      Mark q →
      Mark t →
      h.a * p.col ≡ h.a * x.col →
      h.b * q.col ≡ h.b * x.col →
      h.c * t.col ≡ h.c * x.col →
      Line (Dir u) full end x.col x.row
  level x p q t h m n o e f g =
      own some-full
      (dir-cancel u (h.a + h.b + h.c) _ _ h.above_zero
      (dir-as u (omega arith) (sym h.rows)
      (dir-add u _ _ _ _ (dir-add u _ _ _ _ (part h.a j p m e) (part h.b j q n f)) (part h.c j t o g))))
    where
      j : ℕ
      j = x.col

      some-full : full j ≡ true
      some-full =
          elim (dec_lt 0 h.a) [
            | yes k ↦ full_at h.a j p m k e
            | no k ↦ elim (dec_lt 0 h.b) [ yes l ↦ full_at h.b j q n l f | no l ↦ full_at h.c j t o (omega (arith, h.above_zero)) g ]
          ]

  -- ---- one corner on one side, two on the other

  apex-lines :
      (x p q t : Point) (h : InTriangle x p q t) (d e f : ℕ) →
      0 < d →
      h.a * d ≡ h.b * e + h.c * f →
      (Dir u (e * p.row + d * q.row) ((d + e) * x.row) → Line (Dir u) full end x.col x.row) →
      (Dir u (f * p.row + d * t.row) ((d + f) * x.row) → Line (Dir u) full end x.col x.row) →
      Line (Dir u) full end x.col x.row
  apex-lines x p q t h d e f l g q-line t-line =
      elim (apex u h.a h.b h.c d e f x.row p.row q.row t.row l h.above_zero g h.rows)
      [ inl i ↦ q-line i | inr i ↦ t-line i ]

  apex-left :
      (x p q t : Point) → InTriangle x p q t → Mark p → Mark q → Mark t → p.col ≤ x.col → x.col < q.col → x.col < t.col
      → Line (Dir u) full end x.col x.row
  apex-left x p q t h m n o k l g =
      elim (dec_lt p.col x.col) [ yes s ↦ lines s | no s ↦ level x p q t h m n o (flat s).0 (flat s).1 (flat s).2 ]
    where
      flat : (p.col < x.col → ⊥) → (h.a * p.col ≡ h.a * x.col) × (h.b * q.col ≡ h.b * x.col) × (h.c * t.col ≡ h.c * x.col)
      flat s = level-right h.a h.b h.c x.col p.col q.col t.col h.cols (omega arith) (omega arith) (omega arith)

      lines : p.col < x.col → Line (Dir u) full end x.col x.row
      lines s =
          apex-lines x p q t h (x.col - p.col) (q.col - x.col) (t.col - x.col) (omega arith)
          (distances h.a h.b h.c _ _ _ _ _ _ _ (omega arith) (omega arith) (omega arith) h.cols)
          (λ i. side x p q m n (omega arith) (omega arith) (omega arith) (dir-as u refl (ap (λ z. z * x.row) (omega arith)) i))
          (λ i. side x p t m o (omega arith) (omega arith) (omega arith) (dir-as u refl (ap (λ z. z * x.row) (omega arith)) i))

  apex-right :
      (x p q t : Point) → InTriangle x p q t → Mark p → Mark q → Mark t → x.col < p.col → q.col ≤ x.col → t.col ≤ x.col
      → Line (Dir u) full end x.col x.row
  apex-right x p q t h m n o k l g =
      apex-lines x p q t h (p.col - x.col) (x.col - q.col) (x.col - t.col) (omega arith)
      (distances-right h.a h.b h.c _ _ _ _ _ _ _ (omega arith) (omega arith) (omega arith) h.cols)
      (λ i. side x q p n m (omega arith) (omega arith) (omega arith) (dir-as u (add_comm _ _) (ap (λ z. z * x.row) (omega arith)) i))
      (λ i. side x t p o m (omega arith) (omega arith) (omega arith) (dir-as u (add_comm _ _) (ap (λ z. z * x.row) (omega arith)) i))

  pub triangle-line : (x p q t : Point) → InTriangle x p q t → Mark p → Mark q → Mark t → Line (Dir u) full end x.col x.row
  triangle-line x p q t h m n o =
      elim (dec_le p.col x.col) [
        | yes k ↦
            elim (dec_le q.col x.col) [
              | yes l ↦
                  elim (dec_le t.col x.col) [
                    | yes g ↦ level x p q t h m n o (flat k l g).0 (flat k l g).1 (flat k l g).2
                    | no g ↦ apex-right x t p q (turned (turned h)) o m n (omega arith) k l
                  ]
              | no l ↦
                  elim (dec_le t.col x.col) [
                    | yes g ↦ apex-right x q t p (turned h) n o m (omega arith) g k
                    | no g ↦ apex-left x p q t h m n o k (omega arith) (omega arith)
                  ]
            ]
        | no k ↦
            elim (dec_le q.col x.col) [
              | yes l ↦
                  elim (dec_le t.col x.col) [
                    | yes g ↦ apex-right x p q t h m n o (omega arith) l g
                    | no g ↦ apex-left x q t p (turned h) n o m l (omega arith) (omega arith)
                  ]
              | no l ↦
                  elim (dec_le t.col x.col) [
                    | yes g ↦ apex-left x t p q (turned (turned h)) o m n g (omega arith) (omega arith)
                    | no g ↦
                        absurd (none_left h.a h.b h.c x.col p.col q.col t.col h.above_zero h.cols (omega arith)
                        (omega arith) (omega arith))
                  ]
            ]
      ]
    where
      flat :
          p.col ≤ x.col →
          q.col ≤ x.col →
          t.col ≤ x.col →
          (h.a * p.col ≡ h.a * x.col) × (h.b * q.col ≡ h.b * x.col) × (h.c * t.col ≡ h.c * x.col)
      flat = level-left h.a h.b h.c x.col p.col q.col t.col h.cols
