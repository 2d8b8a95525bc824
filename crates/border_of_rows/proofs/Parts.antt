-- The letters round rows, part by part: each iteration writes one more row, and the parts follow one another.
use Prim.Native.Nat.{ℕ, zero, suc, pred, ◌+◌, ◌-◌, ◌≤◌, ◌<◌}
use native.Mathlib.Omega.{arith}
use mathlib.Core.Path.{◌≡◌, refl, sym, ap, ◌∙◌}
use mathlib.Core.List.{List, [], ◌∷◌, ◌++◌, append_assoc, append-nil}
use lib.ListN.{length, length-append}
use Rattle.completion.specs.RowsOutline.{across}
use Rattle.completion.proofs.Segments.{length-across}
use Rattle.completion.specs.parts.Written.{ascent, descent, to_row, written_from}

-- ---- up

module _ (lo : ℕ → ℕ) where
  -- One more row
  rise-next : (y n : ℕ) → to_row lo y (suc n) ≡ to_row lo y n ++ (1 ∷ across (lo (y + n)) (lo (suc (y + n))))
  unfolding to_row
  rise-next y zero = let e : y + 0 ≡ y = omega arith in rw (e, append-nil) refl
  rise-next y (suc n) =
      let e : y + suc n ≡ suc y + n = omega arith in
      let a = across (lo y) (lo (suc y)) in
      rw e (ap (λ (w : List ℕ). 1 ∷ w) (ap (λ (w : List ℕ). a ++ w) (rise-next (suc y) n) ∙ sym (append_assoc a (to_row lo (suc y) n) _)))

  pub rise-more : (y n : ℕ) → to_row lo y (n + 1) ≡ (to_row lo y n ++ (1 ∷ [])) ++ across (lo (y + n)) (lo (y + n + 1))
  rise-more y n =
      let d : n + 1 ≡ suc n = omega arith in
      let f : suc (y + n) ≡ y + n + 1 = omega arith in
      ap (to_row lo y) d ∙ rise-next y n ∙ rw f (sym (append_assoc (to_row lo y n) (1 ∷ []) (across (lo (y + n)) (lo (y + n + 1)))))

  pub rise-length : (y n : ℕ)
      → length (to_row lo y (n + 1)) ≡ length (to_row lo y n) + suc (length (across (lo (y + n)) (lo (y + n + 1))))
  rise-length y n =
      let w = to_row lo y n in
      omega (
        arith,
        ap length (rise-more y n),
        length-append (w ++ (1 ∷ [])) (across (lo (y + n)) (lo (y + n + 1))),
        length-append w (1 ∷ []),
      )

  rise-longer : (y n d : ℕ) → length (to_row lo y n) ≤ length (to_row lo y (n + d))
  rise-longer y n zero = let e : n + 0 ≡ n = omega arith in rw e (omega arith)
  rise-longer y n (suc d) =
      let e : n + suc d ≡ suc (n + d) = omega arith in
      let z : List ℕ = 1 ∷ across (lo (y + (n + d))) (lo (suc (y + (n + d)))) in
      rw e (omega (arith, ap length (rise-next y (n + d)), length-append (to_row lo y (n + d)) z, rise-longer y n d))

  pub rise-fits : (y n m : ℕ) → n < m
      → length (to_row lo y n) + suc (length (across (lo (y + n)) (lo (y + n + 1)))) ≤ length (to_row lo y m)
  rise-fits y n m l =
      let d : m ≡ (n + 1) + (m - (n + 1)) = omega arith in
      omega (arith, ap (λ (j : ℕ). length (to_row lo y j)) d, rise-longer y (n + 1) (m - (n + 1)), rise-length y n)

  pub rise-ascent : (y k : ℕ) → ascent lo y k ≡ to_row lo y k ++ (1 ∷ [])
  unfolding ascent to_row
  rise-ascent y zero = refl
  rise-ascent y (suc k) =
      let a = across (lo y) (lo (suc y)) in
      ap (λ (w : List ℕ). 1 ∷ w) (ap (λ (w : List ℕ). a ++ w) (rise-ascent (suc y) k) ∙ sym (append_assoc a (to_row lo (suc y) k) (1 ∷ [])))

-- ---- down

module _ (hi : ℕ → ℕ) where
  pub fall-first : (e : ℕ) → descent hi e 0 ≡ 3 ∷ []
  unfolding descent
  fall-first e = refl

  pub fall-more : (i n : ℕ) → 0 < i
      → descent hi (i - 1) (n + 1) ≡ (descent hi i n ++ across (hi i) (hi (i - 1))) ++ (3 ∷ [])
  unfolding descent
  fall-more i n h =
      let d : n + 1 ≡ suc n = omega arith in
      let f : suc (i - 1) ≡ i = omega arith in
      ap (descent hi (i - 1)) d
      ∙ ap (λ (j : ℕ). descent hi j n ++ (across (hi j) (hi (i - 1)) ++ (3 ∷ []))) f
      ∙ sym (append_assoc (descent hi i n) (across (hi i) (hi (i - 1))) (3 ∷ []))

  fall-longer : (y k d : ℕ) → length (descent hi (y + d) k) ≤ length (descent hi y (d + k))
  unfolding descent
  fall-longer y k zero =
      let e : y + 0 ≡ y = omega arith in
      let f : 0 + k ≡ k = omega arith in
      rw (e, f) (omega arith)
  fall-longer y k (suc d) =
      let e : y + suc d ≡ suc y + d = omega arith in
      let f : suc d + k ≡ suc (d + k) = omega arith in
      rw (e, f) (omega (
        arith,
        fall-longer (suc y) k d,
        length-append (descent hi (suc y) (d + k)) (across (hi (suc y)) (hi y) ++ (3 ∷ [])),
      ))

  pub fall-fits : (y i n e : ℕ) → y < i → i + n ≡ e
      → length (descent hi i n) + suc (length (across (hi i) (hi (i - 1)))) ≤ length (descent hi y (e - y))
  fall-fits y i n e h l =
      let d : e - y ≡ (i - 1 - y) + (n + 1) = omega arith in
      let f : y + (i - 1 - y) ≡ i - 1 = omega arith in
      let w = descent hi i n in
      let a = across (hi i) (hi (i - 1)) in
      rw d
      (omega (
        arith,
        fall-longer y (n + 1) (i - 1 - y),
        ap (λ (j : ℕ). length (descent hi j (n + 1))) f,
        ap length (fall-more i n (omega arith)),
        length-append (w ++ a) (3 ∷ []),
        length-append w a,
      ))

  pub fall-some : (y k : ℕ) → 0 < length (descent hi y k)
  unfolding descent
  fall-some y zero = omega arith
  fall-some y (suc k) =
      let w = across (hi (suc y)) (hi y) in
      omega (arith, length-append (descent hi (suc y) k) (w ++ (3 ∷ [])), length-append w (3 ∷ []))

  -- As many letters as up the same ends, and one
  pub fall-length : (y k : ℕ) → length (descent hi y k) ≡ suc (length (to_row hi y k))
  unfolding descent to_row
  fall-length y zero = refl
  fall-length y (suc k) =
      let a = across (hi y) (hi (suc y)) in
      let z = across (hi (suc y)) (hi y) in
      omega (
        arith,
        fall-length (suc y) k,
        length-append (descent hi (suc y) k) (z ++ (3 ∷ [])),
        length-append z (3 ∷ []),
        length-append a (to_row hi (suc y) k),
        length-across (hi y) (hi (suc y)),
        length-across (hi (suc y)) (hi y),
      )

-- ---- round

module _ (lo hi : ℕ → ℕ) (b t m : ℕ) (below : m < t) where
  abbrev pub in_parts : List ℕ
  in_parts =
      ((((to_row lo m (t - 1 - m) ++ (1 ∷ [])) ++ across (lo (t - 1)) (hi (t - 1))) ++ descent hi b (t - 1 - b)) ++ across (hi b) (lo b))
      ++ to_row lo b (m - b)

  pub round-parts : in_parts ≡ written_from lo hi b t m
  unfolding written_from
  round-parts =
      let d : t - suc m ≡ t - 1 - m = omega arith in
      let e : t - suc b ≡ t - 1 - b = omega arith in
      let f : pred t ≡ t - 1 = omega arith in
      rw (
        rise-ascent lo m (t - suc m),
        d,
        e,
        f,
      ) (moved (to_row lo m (t - 1 - m)) (1 ∷ []) (across (lo (t - 1)) (hi (t - 1))) (descent hi b (t - 1 - b)) (across (hi b) (lo b))
      (to_row lo b (m - b)))
    where
      moved : (u a x d y r : List ℕ) → ((((u ++ a) ++ x) ++ d) ++ y) ++ r ≡ ((u ++ a) ++ (x ++ (d ++ y))) ++ r
      moved u a x d y r = simp append_assoc refl

  pub round-length :
      length (to_row lo m (t - 1 - m)) + 1 + length (across (lo (t - 1)) (hi (t - 1))) + length (descent hi b (t - 1 - b)) + length
      (across (hi b) (lo b)) + length (to_row lo b (m - b))
      ≡ length (written_from lo hi b t m)
  round-length =
      let u = to_row lo m (t - 1 - m) in
      let x = across (lo (t - 1)) (hi (t - 1)) in
      let d = descent hi b (t - 1 - b) in
      let y = across (hi b) (lo b) in
      let r = to_row lo b (m - b) in
      omega (
        arith,
        ap length round-parts,
        length-append u (1 ∷ []),
        length-append (u ++ (1 ∷ [])) x,
        length-append ((u ++ (1 ∷ [])) ++ x) d,
        length-append (((u ++ (1 ∷ [])) ++ x) ++ d) y,
        length-append ((((u ++ (1 ∷ [])) ++ x) ++ d) ++ y) r,
      )
