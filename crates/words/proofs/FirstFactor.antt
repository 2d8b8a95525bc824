-- The letters read are always copies of a Lyndon word and a proper prefix of it, so
-- where the search stops the copies are the first factor.
-- The first j - i letters are one copy, so their later letters are counted for it.
use Prim.Native.Nat.{ℕ, zero, suc, ◌+◌, ◌-◌, ◌*◌, ◌/◌, ◌≤◌, ◌<◌}
use native.Mathlib.Nat.{div-eq_of_lt-le}
use native.Mathlib.Omega.{arith}
use mathlib.Core.Path.{◌≡◌, refl, sym, ap, ◌∙◌}
use mathlib.Core.Logic.{⊎_elim}
use mathlib.Core.Bool.{Bool, true, false}
use mathlib.Core.List.{List, [], ◌∷◌, ◌++◌, append_assoc, append-nil}
use lib.ListN.{length, take, drop, get_or, length-append, length-drop, take-append-drop, drop_of_length-le}
use lib.Seq.{take-suc, take-append_seam, drop-cons, get_or_at, get_or-drop, length-take-le}
use lib.Dec.{eqb}
use borrow.Author.Tests.{eq-eqb, ne_eqb}
use Rattle.words.specs.Word.{Word, Begins, word_of, laters}
use Rattle.words.specs.Lyndon.{Lyndon, copies, factors_of}
use Rattle.std.specs.Prelude.{Some, None}
use Rattle.words.specs.parts.Search.{rank, rank_of, first_of}
use Rattle.words.proofs.WordOf.{length-word_of, letter-word_of}
use Rattle.words.proofs.Lyndon.{lyndon-single, length_cut}
use Rattle.words.proofs.Factors.{Stops, factors-first}
use Rattle.words.proofs.Counts.{length-copies, laters-take-suc}
use Rattle.words.proofs.Duval.{copies-append, lyndon-larger, step_same, stops-at-end, stops-at-smaller}

-- j letters of w are read: `times` copies of a Lyndon word and a proper prefix of it. Letter i is the next letter in that word
pub record Read (w : Word) (i j : ℕ) : Type 0 where
  pub word : Word
  pub times : ℕ
  pub begun : Word
  pub next : Bool
  pub rest : Word
  pub lyndon : Lyndon word
  pub above_zero : 0 < times
  pub proper : word ≡ begun ++ next ∷ rest
  pub front : take j w ≡ copies times word ++ begun
  pub gap : i + length word ≡ j
  pub within : j ≤ length w

-- A word that is not empty has a first letter
first-letter : (p : Word) → 0 < length p → (a : Bool) × (u : Word) × (p ≡ [] ++ a ∷ u)
first-letter [] h = absurd (omega arith)
first-letter (a ∷ u) h = (a, u, refl)

-- One or more copies of a Lyndon word, and nothing else
read-copies : {w : Word} {i j : ℕ} (p : Word) (m : ℕ) → Lyndon p → 0 < m → take j w ≡ copies m p → i + length p ≡ j → j ≤ length w
    → Read w i j
read-copies p m l some f g h =
    let a = first-letter p l.above_zero in
    record {
      word = p;
      times = m;
      begun = [];
      next = a.0;
      rest = a.1;
      lyndon = l;
      above_zero = some;
      proper = a.2;
      front = f ∙ sym (append-nil (copies m p));
      gap = g;
      within = h;
    }

-- The first letter alone
pub read-start : (w : Word) → 0 < length w → Read w 0 1
unfolding copies
read-start [] h = absurd (omega arith)
read-start (a ∷ w) h = read-copies (a ∷ []) 1 (lyndon-single a) (omega arith) refl (omega arith) (omega arith)

module _ {w : Word} {i j : ℕ} (r : Read w i j) where
  -- The letters read, and the rest
  read_whole : w ≡ copies r.times r.word ++ (r.begun ++ drop j w)
  read_whole =
      sym (take-append-drop j w) ∙ ap (λ (u : Word). u ++ drop j w) r.front
      ∙ append_assoc (copies r.times r.word) r.begun (drop j w)

  read_length : j ≡ r.times * length r.word + length r.begun
  read_length =
      omega (
        arith,
        length-take-le j w r.within,
        length_cut (copies r.times r.word) r.begun r.front,
        length-copies r.times r.word,
      )

  begun-lt : length r.begun < length r.word
  begun-lt = omega (arith, length_cut r.begun (r.next ∷ r.rest) r.proper)

-- The next letter of the word is the letter one copy before the end
letter-back :
    (m : ℕ) {p : Word} (q : Word) (b : Bool) (y t : Word) (i : ℕ)
    → 0 < m
    → p ≡ q ++ b ∷ y
    → i + length p ≡ m * length p + length q
    → get_or (copies m p ++ t) i false ≡ b
letter-back zero q b y t i h e g = absurd (omega arith)
letter-back (suc k) {p} q b y t i h e g = ap (λ (u : Word). get_or u i false) cut ∙ get_or_at (copies k p ++ q) b (y ++ t) false i here
  where
    cut : copies (suc k) p ++ t ≡ (copies k p ++ q) ++ b ∷ (y ++ t)
    cut =
        ap (λ (u : Word). u ++ t) (sym (copies-append k p) ∙ ap (λ (u : Word). copies k p ++ u) e
        ∙ sym (append_assoc (copies k p) q (b ∷ y)))
        ∙ append_assoc (copies k p ++ q) (b ∷ y) t

    here : length (copies k p ++ q) ≡ i
    here = omega (arith, length-append (copies k p) q, length-copies k p)

-- Several copies start with one
copies-first : (m : ℕ) (p t : Word) → 0 < m → (u : Word) × (copies m p ++ t ≡ p ++ u)
unfolding copies
copies-first zero p t h = absurd (omega arith)
copies-first (suc k) p t h = (copies k p ++ t, append_assoc p (copies k p) t)

module _ {w : Word} {i j : ℕ} (r : Read w i j) where
  pub read-letter : get_or w i false ≡ r.next
  read-letter =
      ap (λ (u : Word). get_or u i false) (read_whole r)
      ∙ letter-back r.times r.begun r.next r.rest (r.begun ++ drop j w) i r.above_zero r.proper
      (omega (arith, r.gap, read_length r))

  -- With letter j read too
  read_more : j < length w → take (suc j) w ≡ copies r.times r.word ++ (r.begun ++ get_or w j false ∷ [])
  read_more h =
      take-suc w j false h
      ∙ ap (λ (u : Word). u ++ get_or w j false ∷ []) r.front
      ∙ append_assoc (copies r.times r.word) r.begun (get_or w j false ∷ [])

  -- The same letter: the search continues in the same word
  pub read_same : j < length w → get_or w i false ≡ get_or w j false → Read w (suc i) (suc j)
  read_same h e = ⊎_elim on whole (step_same r.times r.begun r.next r.rest r.proper)
    where
      front : take (suc j) w ≡ copies r.times r.word ++ (r.begun ++ r.next ∷ [])
      front = rw (sym e ∙ read-letter) at (read_more h)

      on : Begins (r.begun ++ r.next ∷ []) r.word → Read w (suc i) (suc j)
      on b =
          record {
            word = r.word;
            times = r.times;
            begun = r.begun ++ r.next ∷ [];
            next = b.next;
            rest = b.rest;
            lyndon = r.lyndon;
            above_zero = r.above_zero;
            proper = b.whole;
            front = front;
            gap = omega (arith, r.gap);
            within = h;
          }

      whole : (r.begun ++ r.next ∷ [] ≡ r.word)
          × (copies r.times r.word ++ (r.begun ++ r.next ∷ []) ≡ copies (suc r.times) r.word) → Read w (suc i) (suc j)
      whole s = read-copies r.word (suc r.times) r.lyndon (omega arith) (front ∙ s.1) (omega (arith, r.gap)) h

  -- A larger letter: everything read is one Lyndon word
  pub read-larger : j < length w → get_or w i false ≡ false → get_or w j false ≡ true → Read w 0 (suc j)
  unfolding copies
  read-larger h e f =
      let l : Lyndon (copies r.times r.word ++ (r.begun ++ true ∷ [])) =
      lyndon-larger r.times r.begun r.rest r.lyndon (rw (← e, read-letter) r.proper)
      in
      let p : take (suc j) w ≡ copies r.times r.word ++ (r.begun ++ true ∷ []) = rw f at (read_more h) in
      read-copies (take (suc j) w) 1 (rw p l) (omega arith) (sym (append-nil (take (suc j) w))) (omega (arith, length-take-le (suc j) w h))
      h

  -- One period is the prefix of j - i letters
  read-period : take (j - i) w ≡ r.word
  read-period =
      let p : j - i ≡ length r.word = omega (arith, r.gap) in
      let c = copies-first r.times r.word (r.begun ++ drop j w) r.above_zero in
      rw p (ap (λ (u : Word). take (length r.word) u) (read_whole r ∙ c.1) ∙ take-append_seam r.word c.0)

  -- At the stop the copies are the first factor
  found :
      Stops r.word (r.begun ++ drop j w)
      → first_of (factors_of w) ≡ Some (record { length = j - i; times = j / (j - i); laters = laters (take (j - i) w) })
  unfolding first_of
  found s =
      let p : j - i ≡ length r.word = omega (arith, r.gap) in
      let m : j / length r.word ≡ r.times =
      div-eq_of_lt-le (length r.word) (omega (arith, read_length r)) (omega (arith, read_length r, begun-lt r)) in
      let f : factors_of w ≡ record { word = r.word; times = r.times } ∷ factors_of (r.begun ++ drop j w) =
      ap factors_of (read_whole r) ∙ factors-first r.word (r.begun ++ drop j w) r.times r.lyndon r.above_zero s
      in
      rw (read-period, p, m) (ap first_of f)

  pub found-at-end : length w ≤ j → first_of (factors_of w) ≡ Some (record { length = j - i; times = j / (j - i); laters = laters (take (j - i) w) })
  found-at-end h =
      found (rw (drop_of_length-le w h, append-nil r.begun) (stops-at-end r.begun r.next r.rest r.proper))

  pub found-at-smaller :
      j < length w
      → get_or w i false ≡ true
      → get_or w j false ≡ false
      → first_of (factors_of w) ≡ Some (record { length = j - i; times = j / (j - i); laters = laters (take (j - i) w) })
  found-at-smaller h e f =
      found (rw (drop-cons w j false h, f) (stops-at-smaller r.begun r.rest (drop (suc j) w) (rw (← e, read-letter) r.proper)))

-- ---- in a list of letters, from an index on

-- i and j are indices of the list; `all` of the letters read are the later one, and `one` of those in one period
pub record Search (l : List ℕ) (from later i j all one : ℕ) : Type 0 where
  pub start : from ≤ i
  pub ahead : i < j
  pub within : j ≤ length l
  pub few : all ≤ j
  pub whole : all ≡ laters (take (j - from) (word_of later (drop from l)))
  pub period : one ≡ laters (take (j - i) (word_of later (drop from l)))
  pub read : Read (word_of later (drop from l)) (i - from) (j - from)

-- The two ranks tell the letters apart
rank_lt : (a b : Bool) → rank a < rank b → (a ≡ false) × (b ≡ true)
rank_lt false false h = absurd (omega arith)
rank_lt false true h = (refl, refl)
rank_lt true false h = absurd (omega arith)
rank_lt true true h = absurd (omega arith)

rank-eq : (a b : Bool) → rank a ≤ rank b → rank b ≤ rank a → a ≡ b
rank-eq false false h k = refl
rank-eq false true h k = absurd (omega arith)
rank-eq true false h k = absurd (omega arith)
rank-eq true true h k = refl

rank-later : (a later : ℕ) → a ≡ later → rank_of a later ≡ 1
rank-later a later e = rw (eq-eqb a later e)

rank-other : (a later : ℕ) → (a ≡ later → ⊥) → rank_of a later ≡ 0
rank-other a later n = rw (ne_eqb a later n)

rank-le : (a : Bool) → rank a ≤ 1
rank-le false = omega arith
rank-le true = omega arith

-- The word from an index on: its length, and its letters
length-after : (l : List ℕ) (from later : ℕ) → length (word_of later (drop from l)) ≡ length l - from
length-after l from later = length-word_of later (drop from l) ∙ length-drop from l

letter-after : (l : List ℕ) (from later i : ℕ) → from ≤ i → i < length l
    → get_or (word_of later (drop from l)) (i - from) false ≡ eqb (get_or l i 0) later
letter-after l from later i p h =
    let e : from + (i - from) ≡ i = omega arith in
    letter-word_of later (drop from l) (i - from) (omega (arith, length-drop from l))
    ∙ rw (get_or-drop from l (i - from) 0, e)

-- Reading a letter adds its rank to the count
laters-one : (a : Bool) → laters (a ∷ []) ≡ rank a
unfolding laters
laters-one false = refl
laters-one true = refl

laters-after :
    (l : List ℕ) (from later j : ℕ)
    → from ≤ j
    → j < length l
    → laters (take (j + 1 - from) (word_of later (drop from l)))
    ≡ laters (take (j - from) (word_of later (drop from l))) + rank_of (get_or l j 0) later
laters-after l from later j p h =
    let w = word_of later (drop from l) in
    let e : j + 1 - from ≡ suc (j - from) = omega arith in
    rw (
      e,
      laters-take-suc (j - from) w (omega (arith, length-after l from later)),
      letter-after l from later j p h,
      laters-one (eqb (get_or l j 0) later),
    )

read_at : {w : Word} {i j i' j' : ℕ} → i ≡ i' → j ≡ j' → Read w i j → Read w i' j'
read_at p q r = rw (← p, ← q) r

pub search-start :
    (l : List ℕ) (from later : ℕ) → from < length l
    → Search l from later from (from + 1) (rank_of (get_or l from 0) later) (rank_of (get_or l from 0) later)
unfolding laters
search-start l from later h =
    let none : from - from ≡ 0 = omega arith in
    let one : rank_of (get_or l from 0) later ≡ laters (take (from + 1 - from) (word_of later (drop from l))) =
    omega (arith, rw none at (laters-after l from later from (omega arith) h))
    in
    record {
      start = omega arith;
      ahead = omega arith;
      within = omega arith;
      few = omega (arith, rank-le (eqb (get_or l from 0) later));
      whole = one;
      period = one;
      read = read_at (omega arith) (omega arith) (read-start (word_of later (drop from l)) (omega (arith, length-after l from later)));
    }

module _ {l : List ℕ} {from later i j all one : ℕ} (s : Search l from later i j all one) where
  before : i < length l
  before = omega (arith, s.ahead, s.within)

  -- The two letters that are compared
  here : get_or (word_of later (drop from l)) (i - from) false ≡ eqb (get_or l i 0) later
  here = letter-after l from later i s.start before

  there : j < length l → get_or (word_of later (drop from l)) (j - from) false ≡ eqb (get_or l j 0) later
  there h = letter-after l from later j (omega (arith, s.start, s.ahead)) h

  inside : j < length l → j - from < length (word_of later (drop from l))
  inside h = omega (arith, s.start, s.ahead, length-after l from later)

  -- With letter j counted too
  more : j < length l → all + rank_of (get_or l j 0) later ≡ laters (take (j + 1 - from) (word_of later (drop from l)))
  more h = omega (arith, s.whole, laters-after l from later j (omega (arith, s.start, s.ahead)) h)

  few-more : all + rank_of (get_or l j 0) later ≤ j + 1
  few-more = omega (arith, s.few, rank-le (eqb (get_or l j 0) later))

  pub search-fits : j < length l → {b : ℕ} → b ≡ rank_of (get_or l j 0) later → all + b ≤ length l
  search-fits h e = omega (arith, few-more, e)

  search-larger :
      j < length l
      → rank_of (get_or l i 0) later < rank_of (get_or l j 0) later
      → Search l from later from (j + 1) (all + rank_of (get_or l j 0) later) (all + rank_of (get_or l j 0) later)
  search-larger h k =
      let p = rank_lt (eqb (get_or l i 0) later) (eqb (get_or l j 0) later) k in
      record {
        start = omega arith;
        ahead = omega (arith, s.start, s.ahead);
        within = omega arith;
        few = few-more;
        whole = more h;
        period = more h;
        read = read_at (omega arith) (omega (arith, s.start, s.ahead)) (read-larger s.read (inside h) (here ∙ p.0) (there h ∙ p.1));
      }

  search-same :
      j < length l
      → rank_of (get_or l i 0) later ≤ rank_of (get_or l j 0) later
      → rank_of (get_or l j 0) later ≤ rank_of (get_or l i 0) later
      → Search l from later (i + 1) (j + 1) (all + rank_of (get_or l j 0) later) one
  search-same h k m =
      let p = rank-eq (eqb (get_or l i 0) later) (eqb (get_or l j 0) later) k m in
      let d : j + 1 - (i + 1) ≡ j - i = omega arith in
      record {
        start = omega (arith, s.start);
        ahead = omega (arith, s.ahead);
        within = omega arith;
        few = few-more;
        whole = more h;
        period = rw d s.period;
        read =
            read_at (omega (arith, s.start)) (omega (arith, s.start, s.ahead))
            (read_same s.read (inside h) (here ∙ p ∙ sym (there h)));
      }

  -- The answer when the search stops
  answer :
      first_of (factors_of (word_of later (drop from l)))
      ≡ Some (record {
        length = j - from - (i - from);
        times = (j - from) / (j - from - (i - from));
        laters = laters (take (j - from - (i - from)) (word_of later (drop from l)));
      })
      → Some (record { length = j - i; times = (j - from) / (j - i); laters = one }) ≡ first_of (factors_of (word_of later (drop from l)))
  answer e = let d : j - from - (i - from) ≡ j - i = omega (arith, s.start, s.ahead) in rw s.period (sym (rw d at e))

  pub search-end :
      length l ≤ j → Some (record { length = j - i; times = (j - from) / (j - i); laters = one })
      ≡ first_of (factors_of (word_of later (drop from l)))
  search-end h = answer (found-at-end s.read (omega (arith, length-after l from later)))

  search-smaller :
      j < length l
      → rank_of (get_or l j 0) later < rank_of (get_or l i 0) later
      → Some (record { length = j - i; times = (j - from) / (j - i); laters = one }) ≡ first_of (factors_of (word_of later (drop from l)))
  search-smaller h k =
      let p = rank_lt (eqb (get_or l j 0) later) (eqb (get_or l i 0) later) k in
      answer (found-at-smaller s.read (inside h) (here ∙ p.1) (there h ∙ p.0))

  -- The four pairs of letters as the code distinguishes them: equal letters, a later one
  -- after another, another after a later one, and two others
  pub pair_same : j < length l → get_or l i 0 ≡ get_or l j 0 → Search l from later (i + 1) (j + 1) (all + rank_of (get_or l j 0) later) one
  pair_same h e = let f = ap (λ (a : ℕ). rank_of a later) e in search-same h (omega arith) (omega arith)

  pub pair-larger : j < length l → (get_or l i 0 ≡ get_or l j 0 → ⊥) → get_or l j 0 ≡ later
      → Search l from later from (j + 1) (all + rank_of (get_or l j 0) later) (all + rank_of (get_or l j 0) later)
  pair-larger h n e =
      let a = rank-other (get_or l i 0) later (λ (f : get_or l i 0 ≡ later). n (f ∙ sym e)) in
      let b = rank-later (get_or l j 0) later e in
      search-larger h (omega arith)

  pub pair-others : j < length l → (get_or l j 0 ≡ later → ⊥) → (get_or l i 0 ≡ later → ⊥)
      → Search l from later (i + 1) (j + 1) (all + rank_of (get_or l j 0) later) one
  pair-others h m n =
      let a = rank-other (get_or l i 0) later n in
      let b = rank-other (get_or l j 0) later m in
      search-same h (omega arith) (omega arith)

  pub pair-smaller : j < length l → (get_or l j 0 ≡ later → ⊥) → get_or l i 0 ≡ later
      → Some (record { length = j - i; times = (j - from) / (j - i); laters = one }) ≡ first_of (factors_of (word_of later (drop from l)))
  pair-smaller h m e =
      let a = rank-later (get_or l i 0) later e in
      let b = rank-other (get_or l j 0) later m in
      search-smaller h (omega arith)

-- After the list's end there are no letters
pub search-none :
    (l : List ℕ) (from later : ℕ) → length l ≤ from
    → None ≡ first_of (factors_of (word_of later (drop from l)))
unfolding word_of factors_of first_of
search-none l from later h = rw (drop_of_length-le l h)
