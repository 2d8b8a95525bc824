-- Each line across the block is left at exactly one place by the letter that leads
-- across it, since only two neighbouring pieces have that letter.
-- It is the earlier letter of the first and the later letter of the second. The first piece leads up to the line where the second starts,
-- and the second leads on. The cells of the line to the right of that place are those under the paths of both pieces.
use Prim.Native.Nat.{ℕ, suc, ◌+◌, ◌-◌, ◌≤◌, ◌<◌}
use native.Mathlib.Nat.{lt_of_not-le}
use native.Mathlib.Decide.{dec_le, dec_lt}
use native.Mathlib.Omega.{arith}
use mathlib.Core.Path.{◌≡◌, refl, sym, ap, ◌∙◌}
use mathlib.Core.Logic.{◌↔◌}
use mathlib.Core.Bool.{Bool, true, false}
use mathlib.Core.List.{◌∷◌, ◌++◌}
use lib.ListN.{length, take, get_or, length-append}
use lib.Seq.{get_or-append_seam}
use Rattle.words.specs.Word.{Word, earliers, laters}
use Rattle.words.proofs.Counts.{laters-append, earliers-take-le, laters-take-le, earliers-take-mono, laters-take-mono}
use Rattle.words.proofs.Counts.{earliers-next-earlier, laters-next-later}
use Rattle.chart.specs.declared.Point.{Point}
use Rattle.chart.specs.Outline.{Outline}
use Rattle.chart.specs.Limits.{side}
use Rattle.lattice.specs.Chart.{corner_at, letter_at}
use Rattle.convexity.specs.Frame.{frame_of, along, next}
use Rattle.convexity.specs.Cut.{cut}
use Rattle.convexity.specs.Pieces.{word}
use Rattle.convexity.specs.parts.InFrame.{start_e, start_l, cell_e, cell_l, UnderFrom}
use Rattle.convexity.specs.Shape.{NoBackStep, Shape}
use Rattle.convexity.proofs.Frame.{EarlierAt, LaterAt, earlier-at, later-at, take_split}
use Rattle.convexity.proofs.Ring.{next-lt, turns, earlier-injective, later-injective, along-next, cell-turned, cell-next}
use Rattle.convexity.proofs.Levels.{LetterAt}
use Rattle.convexity.proofs.Shape.{shape, letter_of, CornerIn, place-lt, letter-in-piece, corner-in-piece, in-piece}
use Rattle.convexity.proofs.UnderLaws.{under-from-start, under-from-end, under-from-row, under-from-column}

-- A function that never decreases passes each value once
rises-once : (f : ℕ → ℕ) → ((i j : ℕ) → i ≤ j → f i ≤ f j) → (i j : ℕ) → f i < f (suc i) → f j < f (suc j) → f i ≡ f j → i ≡ j
rises-once f mono i j a b e =
    elim (dec_lt i j) [
      | yes l ↦ absurd (omega (arith, mono (suc i) j l))
      | no l ↦ elim (dec_lt j i) [ yes m ↦ absurd (omega (arith, mono (suc j) i m)) | no m ↦ omega arith ]
    ]

module _ (o : Outline) where
  -- The cell x is under the path of piece k
  abbrev pub UnderPiece : ℕ → Point → Type 0
  UnderPiece k x = UnderFrom (word o k) (start_e o k) (start_l o k) (cell_e k x) (cell_l k x)

  -- The line of the corner at place i, and how far along the line it lies, in the frame after frame k
  abbrev pub line : ℕ → ℕ → ℕ
  line k i = along (frame_of (next k)).later (corner_at o i)

  abbrev pub depth : ℕ → ℕ → ℕ
  depth k i = along (frame_of (next k)).earlier (corner_at o i)

  -- The crossing letter at place i is in piece k or in the next
  data Stands (k i : ℕ) : Type 0 where
    lower : (m : ℕ) → m < length (true ∷ word o k) → cut o k + m ≡ i → get_or (true ∷ word o k) m false ≡ false → Stands k i
    upper : (m : ℕ) → m < length (true ∷ word o (next k)) → cut o (next k) + m ≡ i → get_or (true ∷ word o (next k)) m false ≡ true
        → Stands k i

  -- The only place where the crossing letter leaves line m
  pub record Crossing (k m : ℕ) : Type 0 where
    pub place : ℕ
    pub letter : LetterAt o.letters (frame_of (next k)).later place
    pub here : line k place ≡ m
    pub only : (i : ℕ) → LetterAt o.letters (frame_of (next k)).later i → line k i ≡ m → i ≡ place
    pub under : (x : Point) → x.col < side → x.row < side → cell_l (next k) x ≡ m
        → (depth k place ≤ cell_e (next k) x) ↔ (UnderPiece k x × UnderPiece (next k) x)

  -- If a piece is split at a letter: that letter on the border, and the corner that it leaves
  split_at : (c : NoBackStep o) (k : ℕ) → k < 4 → (x : Word) (b : Bool) (y : Word) → true ∷ word o k ≡ x ++ b ∷ y
      → LetterAt o.letters (letter_of (frame_of k) b) (cut o k + length x)
      × CornerIn k (corner_at o (cut o k + length x)) (start_e o k + earliers x) (start_l o k + laters x)
  split_at c k h x b y e =
      let v : Word = true ∷ word o k in
      let n : length x < length v = omega (arith, simp length-append at (ap length e)) in
      let at : get_or v (length x) false ≡ b = ap (λ (w : Word). get_or w (length x) false) e ∙ get_or-append_seam x b y false in (
        (place-lt o c k h (length x) n, letter-in-piece o c k h (length x) n ∙ ap (letter_of (frame_of k)) at),
        rw (take_split v x (b ∷ y) e) at (corner-in-piece o c k h (length x) (omega arith)),
      )

  module _ (c : NoBackStep o) (k : ℕ) (h : k < 4) where
    abbrev formed : Shape o
    formed = shape o c

    stands : (i : ℕ) → LetterAt o.letters (frame_of (next k)).later i → Stands k i
    unfolding letter_of
    stands i (l, e) =
        let q = in-piece o c i l in
        go q.piece q.small q.offset q.within q.place (get_or (true ∷ word o q.piece) q.offset false) refl
        (sym (letter-in-piece o c q.piece q.small q.offset q.within) ∙ ap (λ (j : ℕ). letter_at o j) q.place ∙ e)
      where
        lower_in : (j : ℕ) → j ≡ k → (m : ℕ) → m < length (true ∷ word o j) → cut o j + m ≡ i → get_or (true ∷ word o j) m false ≡ false
            → Stands k i
        lower_in j d = rw d lower

        upper_in : (j : ℕ) → j ≡ next k → (m : ℕ) → m < length (true ∷ word o j) → cut o j + m ≡ i → get_or (true ∷ word o j) m false ≡ true
            → Stands k i
        upper_in j d = rw d upper

        go : (j : ℕ) → j < 4 → (m : ℕ) → m < length (true ∷ word o j) → cut o j + m ≡ i → (b : Bool) → get_or (true ∷ word o j) m false ≡ b
            → letter_of (frame_of j) b ≡ (frame_of (next k)).later → Stands k i
        go j small m n p false d f = lower_in j (earlier-injective j k small h (f ∙ (turns k).later)) m n p d
        go j small m n p true d f = upper_in j (later-injective j (next k) small (next-lt k) f) m n p d

    lower-line : (m : ℕ) → m < length (true ∷ word o k) → line k (cut o k + m) ≡ start_e o k + earliers (take m (true ∷ word o k))
    lower-line m n = rw (turns k).later (corner-in-piece o c k h m (omega arith)).across

    upper-line : (m : ℕ) → m < length (true ∷ word o (next k))
        → line k (cut o (next k) + m) ≡ start_l o (next k) + laters (take m (true ∷ word o (next k)))
    upper-line m n = (corner-in-piece o c (next k) (next-lt k) m (omega arith)).up

    -- The bounds within piece k, up to the start of the next one, and within the next, up to its end
    lower-bounds : (m : ℕ) → m < length (true ∷ word o k) → get_or (true ∷ word o k) m false ≡ false
        → (start_e o k ≤ line k (cut o k + m)) × (line k (cut o k + m) < start_l o (next k))
    unfolding earliers
    lower-bounds m n d =
        let v : Word = true ∷ word o k in
        let e = lower-line m n in
        (omega arith, omega (arith, earliers-next-earlier m v n d, earliers-take-le (suc m) v, formed.next_later k h))

    upper-bounds : (m : ℕ) → m < length (true ∷ word o (next k)) → get_or (true ∷ word o (next k)) m false ≡ true
        → (start_l o (next k) ≤ line k (cut o (next k) + m)) × (line k (cut o (next k) + m) + start_e o (next (next k)) < side)
    unfolding laters
    upper-bounds m n d =
        let v : Word = true ∷ word o (next k) in
        let e = upper-line m n in
        (omega arith, omega (arith, laters-next-later m v n d, laters-take-le (suc m) v, formed.next_earlier (next k) (next-lt k)))

    -- The crossing letter leaves no other line
    pub line-bounds : (i : ℕ) → LetterAt o.letters (frame_of (next k)).later i
        → (start_e o k ≤ line k i) × (line k i + start_e o (next (next k)) < side)
    line-bounds i l = go (stands i l)
      where
        go : Stands k i → (start_e o k ≤ line k i) × (line k i + start_e o (next (next k)) < side)
        go (lower m n e d) = rw (← e) (let b = lower-bounds m n d in omega (arith, formed.next_earlier (next k) (next-lt k)))
        go (upper m n e d) = rw (← e) (let b = upper-bounds m n d in omega (arith, formed.next_later k h))

    once : (i j : ℕ) → Stands k i → Stands k j → line k i ≡ line k j → i ≡ j
    once i j (lower m n e d) (lower m' n' e' d') g =
        let v : Word = true ∷ word o k in
        let same : m ≡ m' =
        rises-once (λ a. earliers (take a v)) (λ a b. earliers-take-mono a b v) m m' (omega (arith, earliers-next-earlier m v n d))
        (omega (arith, earliers-next-earlier m' v n' d'))
        (omega (arith, lower-line m n, lower-line m' n', ap (line k) e, ap (line k) e')) in
        omega arith
    once i j (lower m n e d) (upper m' n' e' d') g =
        absurd (omega (arith, lower-bounds m n d, upper-bounds m' n' d', ap (line k) e, ap (line k) e'))
    once i j (upper m n e d) (lower m' n' e' d') g =
        absurd (omega (arith, upper-bounds m n d, lower-bounds m' n' d', ap (line k) e, ap (line k) e'))
    once i j (upper m n e d) (upper m' n' e' d') g =
        let v : Word = true ∷ word o (next k) in
        let same : m ≡ m' =
        rises-once (λ a. laters (take a v)) (λ a b. laters-take-mono a b v) m m' (omega (arith, laters-next-later m v n d))
        (omega (arith, laters-next-later m' v n' d'))
        (omega (arith, upper-line m n, upper-line m' n', ap (line k) e, ap (line k) e')) in
        omega arith

    module _ (m : ℕ) where
      crossing-low : start_e o k ≤ m → m < start_l o (next k) → Crossing k m
      unfolding earliers laters letter_of
      crossing-low a b =
          let v : Word = true ∷ word o k in
          let r : EarlierAt v (m - start_e o k) = earlier-at v (m - start_e o k) (omega (arith, formed.next_later k h)) in
          let ((below, letter), q) = split_at c k h r.before false r.after r.split in
          let i : ℕ = cut o k + length r.before in
          let e : start_e o k + earliers r.before ≡ m = omega (arith, r.count) in
          let across : LetterAt o.letters (frame_of (next k)).later i = (below, letter ∙ sym (turns k).later) in
          let here : line k i ≡ m = rw (turns k).later (q.across ∙ e) in
          let turned = along-next k (corner_at o i) q.on_chart in
          let within : start_e o (next k) ≤ depth k i =
          omega (arith, formed.next_earlier k h, ap laters r.split, laters-append r.before (false ∷ r.after)) in
          record {
            place = i;
            letter = across;
            here = here;
            only = λ j l g. once j i (stands j l) (stands i across) (g ∙ sym here);
            under = λ x x-col x-row f.
                let cell = cell-next k x x-col x-row in
                let column =
                under-from-column (word o k) (start_e o k) (start_l o k) (cell_e k x) (cell_l k x) r.before r.after r.split (e
                ∙ sym f ∙ cell-turned k x) in (
                  λ l. (column.1 (omega arith), under-from-start _ _ _ _ _ (omega arith) (omega arith)),
                  λ (u, w). omega (arith, column.0 u),
                );
          }

      crossing-high : start_l o (next k) ≤ m → m + start_e o (next (next k)) < side → Crossing k m
      unfolding earliers laters letter_of
      crossing-high a b =
          let v : Word = true ∷ word o (next k) in
          let r : LaterAt v (suc (m - start_l o (next k))) =
          later-at v (suc (m - start_l o (next k))) (omega arith) (omega (arith, formed.next_earlier (next k) (next-lt k))) in
          let (across, q) = split_at c (next k) (next-lt k) r.before true r.after r.split in
          let i : ℕ = cut o (next k) + length r.before in
          let e : start_l o (next k) + laters r.before ≡ m = omega (arith, r.count) in
          let here : line k i ≡ m = q.up ∙ e in
          record {
            place = i;
            letter = across;
            here = here;
            only = λ j l g. once j i (stands j l) (stands i across) (g ∙ sym here);
            under = λ x x-col x-row f.
                let cell = cell-next k x x-col x-row in
                let turned = cell-turned k x in
                let row =
                under-from-row (word o (next k)) (start_e o (next k)) (start_l o (next k)) (cell_e (next k) x) (cell_l (next k) x)
                r.before r.after r.split (e ∙ sym f) in (
                  λ l. (
                    under-from-end _ _ _ _ _ (omega (arith, formed.next_later k h)) (omega (arith, formed.next_earlier k h)),
                    row.1 (omega arith),
                  ),
                  λ (u, w). omega (arith, row.0 w),
                );
          }

      pub crossing : start_e o k ≤ m → m + start_e o (next (next k)) < side → Crossing k m
      crossing a b = elim (dec_le (start_l o (next k)) m) [ yes l ↦ crossing-high l b | no l ↦ crossing-low a (lt_of_not-le l) ]
