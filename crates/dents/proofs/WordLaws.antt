-- At every factor, what is found so far and what the rest of the letters still give make the whole.
use Prim.Native.Nat.{ℕ, suc, ◌+◌, ◌-◌, ◌*◌, ◌≤◌}
use native.Mathlib.Nat.{mul-le-mul_left, mul-add}
use native.Mathlib.Omega.{arith}
use mathlib.Core.Path.{◌≡◌, refl, sym, ap, ◌∙◌}
use mathlib.Core.Bool.{true, false}
use mathlib.Core.List.{List, [], ◌∷◌, ◌++◌, append_assoc, append-nil}
use lib.ListN.{length, take, drop, drop_of_length-le}
use lib.Seq.{drop-drop}
use lib.IntN.{ℤ}
use Rattle.std.specs.Prelude.{Some}
use Rattle.words.specs.Word.{word_of, earliers, laters}
use Rattle.words.specs.Lyndon.{Factor, factors_of}
use Rattle.words.specs.Christoffel.{christoffel}
use Rattle.words.specs.parts.Search.{judged}
use Rattle.words.specs.declared.JudgedFactor.{JudgedFactor}
use Rattle.words.proofs.Counts.{earliers-laters}
use Rattle.words.proofs.WalkLaws.{Step, step-at}
use Rattle.chart.specs.Limits.{longest}
use Rattle.convexity.specs.Frame.{frame_of}
use Rattle.convexity.specs.Pieces.{dent_at, dent_length, edges_of}
use Rattle.dents.specs.declared.edge.Edge.{Edge}
use Rattle.dents.specs.parts.Edge.{EdgeOf}
use Rattle.dents.specs.parts.Dents.{Put, factors_in, Room, EdgesPut, DentIn}

-- ---- the rest of a list

-- Lists that agree from a place on agree from any later place on
pub drop-further : (l m : List ℤ) (a b : ℕ) → a ≤ b → drop a l ≡ drop a m → drop b l ≡ drop b m
drop-further l m a b h e =
    let d : b ≡ a + (b - a) = omega arith in
    ap (λ (n : ℕ). drop n l) d ∙ sym (drop-drop (b - a) a l) ∙ ap (drop (b - a)) e ∙ drop-drop (b - a) a m
    ∙ ap (λ (n : ℕ). drop n m) (sym d)

-- ---- the walk over the factors of letters in the frame of piece k

-- After the letters up to `at`, with `count` edges in the list
pub record Tracing (k : ℕ) (letters : List ℕ) (from : ℕ) (before list : List ℤ) (count at : ℕ) : Type 0 where
  pub same : length list ≡ length before
  pub passed : at ≤ length letters
  pub dent-at : dent_at (factors_in k letters) ≡ at + dent_at (factors_in k (drop at letters))
  pub dent-length : dent_length (factors_in k letters) ≡ dent_length (factors_in k (drop at letters))
  pub beyond : drop (2 * count) list ≡ drop (2 * count) before
  pub counted : Room k letters from before → count + length (factors_in k (drop at letters)) ≡ from + length (factors_in k letters)
  pub edges :
      Room k letters from before
      → take (2 * count) list ++ edges_of (frame_of k) (factors_in k (drop at letters))
      ≡ take (2 * from) before ++ edges_of (frame_of k) (factors_in k letters)

pub tracing-start : (k : ℕ) (letters : List ℕ) (from : ℕ) (before : List ℤ) → Tracing k letters from before before from 0
tracing-start k letters from before =
    record {
      same = refl;
      passed = omega arith;
      dent-at = omega arith;
      dent-length = refl;
      beyond = refl;
      counted = λ room. refl;
      edges = λ room. refl;
    }

-- A first factor that is a Christoffel word is passed, and one that is not is the dent
dent_at-true : (f : Factor) (fs : List Factor) → christoffel f.word ≡ true → dent_at (f ∷ fs) ≡ f.times * length f.word + dent_at fs
unfolding dent_at
dent_at-true f fs e = rw (e, dent_at)

dent_at-false : (f : Factor) (fs : List Factor) → christoffel f.word ≡ false → dent_at (f ∷ fs) ≡ 0
unfolding dent_at
dent_at-false f fs e = rw (e, dent_at)

dent_length-true : (f : Factor) (fs : List Factor) → christoffel f.word ≡ true → dent_length (f ∷ fs) ≡ dent_length fs
unfolding dent_length
dent_length-true f fs e = rw (e, dent_length)

dent_length-false : (f : Factor) (fs : List Factor) → christoffel f.word ≡ false → dent_length (f ∷ fs) ≡ length f.word
unfolding dent_length
dent_length-false f fs e = rw (e, dent_length)

edges-cons : (k : ℕ) (f : Factor) (fs : List Factor) (g : Edge)
    → EdgeOf (frame_of k) (f.times * earliers f.word) (f.times * laters f.word) g
    → g.dx ∷ g.dy ∷ edges_of (frame_of k) fs ≡ edges_of (frame_of k) (f ∷ fs)
unfolding edges_of
edges-cons k f fs g e = rw (e.dx, e.dy)

module _ {k : ℕ} {letters : List ℕ} {from : ℕ} {before list : List ℤ} {count at : ℕ} (t : Tracing k letters from before list count at)
    (short : length letters ≤ longest) {r : JudgedFactor} (e : Some r ≡ judged (factors_in k (drop at letters))) where
  pub step : Step letters at (frame_of k).later r
  step = step-at letters at (frame_of k).later e

  pub rise_le : r.times * r.laters ≤ r.times * r.length
  rise_le = mul-le-mul_left r.times step.counted

  abbrev rest : List Factor
  rest = factors_in k (drop (at + r.times * r.length) letters)

  -- The factor that is judged, by its parts
  judged-christoffel : r.christoffel ≡ christoffel step.first.word
  judged-christoffel = ap (λ (j : JudgedFactor). j.christoffel) step.read

  judged-length : r.length ≡ length step.first.word
  judged-length = ap (λ (j : JudgedFactor). j.length) step.read

  judged-size : r.times * r.length ≡ step.first.times * length step.first.word
  judged-size = ap (λ (j : JudgedFactor). j.times * j.length) step.read

  judged-rise : r.times * r.laters ≡ step.first.times * laters step.first.word
  judged-rise = ap (λ (j : JudgedFactor). j.times * j.laters) step.read

  judged-run : r.times * r.length - r.times * r.laters ≡ step.first.times * earliers step.first.word
  judged-run =
      let f = step.first in
      let e : f.times * length f.word ≡ f.times * earliers f.word + f.times * laters f.word =
      ap (λ (n : ℕ). f.times * n) (sym (earliers-laters f.word)) ∙ mul-add f.times (earliers f.word) (laters f.word) in
      omega (arith, judged-size, judged-rise)

  pub tracing-dent : r.christoffel ≡ false → DentIn k letters 0 (record { piece = k; at = at; length = r.length })
  tracing-dent d =
      let no : christoffel step.first.word ≡ false = sym judged-christoffel ∙ d in
      let here : dent_at (factors_in k (drop at letters)) ≡ 0 = ap dent_at step.factors ∙ dent_at-false step.first rest no in
      let long : dent_length (factors_in k (drop at letters)) ≡ length step.first.word =
      ap dent_length step.factors ∙ dent_length-false step.first rest no in
      record {
        piece = refl;
        within = omega (arith, step.fits);
        long = omega (arith, step.above_zero, judged-length);
        at = omega (arith, t.dent-at);
        size = judged-length ∙ sym (t.dent-length ∙ long);
      }

  pub tracing-edge : r.christoffel ≡ true → {g : Edge}
      → EdgeOf (frame_of k) (r.times * r.length - r.times * r.laters) (r.times * r.laters) g
      → {after : List ℤ} {next : ℕ} → Put list count g.dx g.dy after next → length after ≡ length list
      → Tracing k letters from before after next (at + r.times * r.length)
  tracing-edge d {g} edge {after} {next} put same =
      let yes : christoffel step.first.word ≡ true = sym judged-christoffel ∙ d in
      let here : dent_at (factors_in k (drop at letters)) ≡ step.first.times * length step.first.word + dent_at rest =
      ap dent_at step.factors ∙ dent_at-true step.first rest yes in
      let long : dent_length (factors_in k (drop at letters)) ≡ dent_length rest = ap dent_length step.factors
      ∙ dent_length-true step.first rest yes in
      let more : length (factors_in k (drop at letters)) ≡ suc (length rest) = ap length step.factors in
      let space : (room : Room k letters from before) → 2 * (count + 1) ≤ length list =
      λ room. omega (arith, room, t.counted room, t.same) in
      record {
        same = same ∙ t.same;
        passed = step.within;
        dent-at = omega (arith, t.dent-at, judged-size);
        dent-length = t.dent-length ∙ long;
        beyond = put.beyond ∙ drop-further list before (2 * count) (2 * next) (omega (arith, put.grows)) t.beyond;
        counted = λ room. omega (arith, t.counted room, put.one_more (space room));
        edges = λ room.
            let e : EdgeOf (frame_of k) (step.first.times * earliers step.first.word) (step.first.times * laters step.first.word)
            g =
            rw (judged-run, judged-rise) at edge in
            ap (λ (n : ℕ). take (2 * n) after ++ edges_of (frame_of k) rest) (put.one_more (space room)) ∙
            ap (λ (l : List ℤ). l ++ edges_of (frame_of k) rest) (put.edges (space room)) ∙
            append_assoc (take (2 * count) list) (g.dx ∷ g.dy ∷ []) (edges_of (frame_of k) rest) ∙
            ap (λ (l : List ℤ). take (2 * count) list ++ l) (edges-cons k step.first rest g e
            ∙ ap (edges_of (frame_of k)) (sym step.factors)) ∙
            t.edges room;
      }

pub tracing-end : {k : ℕ} {letters : List ℕ} {from : ℕ} {before list : List ℤ} {count at : ℕ} → Tracing k letters from before list count at
    → length letters ≤ at
    → EdgesPut k letters from before list count
unfolding word_of factors_of dent_length edges_of
tracing-end {k} {letters} {from} {before} {list} {count} {at} t h =
    let none : drop at letters ≡ [] = drop_of_length-le letters h in
    record {
      no_dent = t.dent-length ∙ rw none;
      beyond = t.beyond;
      edges_counted = λ room. omega (arith, rw none at (t.counted room));
      edges = λ room. sym (append-nil _) ∙ rw none at (t.edges room);
    }
