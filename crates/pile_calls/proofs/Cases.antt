-- The cases of the definitions, each from the tests that lead to it.
use Rattle.std.specs.Prelude.{Result, Ok, Err}
use Prim.Native.Nat.{ℕ, ◌≤◌, ◌<◌}
use native.Mathlib.Omega.{arith}
use mathlib.Core.Path.{◌≡◌, refl, sym}
use mathlib.Core.Bool.{Bool, true, false, cond}
use mathlib.Core.List.{List, [], ◌∷◌}
use lib.ListN.{length, get_or, set}
use lib.Dec.{leb, ltb}
use borrow.Author.Tests.{lt-ltb, le-ltb, leb-false}
use Rattle.base.proofs.BelowLaws.{or-false-iff}
use Rattle.chart.specs.Limits.{side}
use Rattle.chart.specs.Outline.{Outline}
use Rattle.chart.specs.Fields.{verdict_fields}
use Rattle.chart.specs.declared.Point.{Point}
use Rattle.chart.specs.declared.Refusal.{Refusal}
use Rattle.chart.specs.declared.Taken.{Taken}
use Rattle.chart.specs.declared.Refusal.TheVariants.{Section, Layer}
use Rattle.chart.specs.declared.SectionKind.TheVariants.{Column, Row}
use Rattle.verdict.specs.Verdict.{verdict_of}
use Rattle.verdict.specs.Named.{CellNamed}
use Rattle.verdict.proofs.Cells.{verdict-named}
use Rattle.polygon.specs.Loose.{bad_cell}
use Rattle.spans.specs.Spans.{spans_of}
use Rattle.sections.specs.Sections.{last_layer}
use Rattle.pile_sections.specs.Sections.{dented_column, dented_row}
use Rattle.pile_sections.proofs.RunLaws.{column-decided, row-decided}
use Rattle.pile_replies.specs.declared.PileAnswer.TheVariants.{Done, Taken as WasTaken}
use Rattle.pile_replies.specs.Replies.{pile_fields}
use Rattle.pile_model.specs.Calls.{Set, Check}
use Rattle.pile_sections.specs.Meaning.{CheckedRuns}
use Rattle.pile_sections.proofs.CheckLaws.{column-said, row-said, none_said}
use Rattle.span_list.specs.SpanList.{rows_put}
use Rattle.live_sections.proofs.LayerLaws.{bytes_fit}
use Rattle.pile_calls.specs.declared.Pile.{Pile}
use Rattle.pile_calls.specs.declared.Piled.{Piled}
use Rattle.pile_calls.specs.Arrays.{arrays, says, layers_in, passed_word, failing}
use Rattle.pile_calls.specs.Arrays.{set_as, set_of, check_of, answer_of}

-- ---- a state of two numbers, after stores

module _ (l : List ℕ) (two : length l ≡ 2) where
  pub word-then-position : (w k : ℕ) → set (set l 0 w) 1 k ≡ w ∷ k ∷ []
  word-then-position w k = go l two
    where
      go : (l : List ℕ) → length l ≡ 2 → set (set l 0 w) 1 k ≡ w ∷ k ∷ []
      go [] e = absurd (omega (arith, e))
      go (a ∷ []) e = absurd (omega (arith, e))
      go (a ∷ b ∷ []) e = refl
      go (a ∷ b ∷ c ∷ l) e = absurd (omega (arith, e))

  pub position-then-word : (w k : ℕ) → set (set l 1 k) 0 w ≡ w ∷ k ∷ []
  position-then-word w k = go l two
    where
      go : (l : List ℕ) → length l ≡ 2 → set (set l 1 k) 0 w ≡ w ∷ k ∷ []
      go [] e = absurd (omega (arith, e))
      go (a ∷ []) e = absurd (omega (arith, e))
      go (a ∷ b ∷ []) e = refl
      go (a ∷ b ∷ c ∷ l) e = absurd (omega (arith, e))

  pub position-alone : (k : ℕ) → set l 1 k ≡ get_or l 0 0 ∷ k ∷ []
  position-alone k = go l two
    where
      go : (l : List ℕ) → length l ≡ 2 → set l 1 k ≡ get_or l 0 0 ∷ k ∷ []
      go [] e = absurd (omega (arith, e))
      go (a ∷ []) e = absurd (omega (arith, e))
      go (a ∷ b ∷ []) e = refl
      go (a ∷ b ∷ c ∷ l) e = absurd (omega (arith, e))

-- ---- set

-- The reply and what is left, and the cell that the reply names
abbrev pub Sets : Pile → ℕ → Outline → Piled → Type 0
Sets p l o x = (x ≡ answer_of p (Set l o)) × CellNamed o (pile_fields x.reply)

module _ (p : Pile) (l : ℕ) (o : Outline) where
  judged-named : (v : Result Taken Refusal) → CellNamed o (verdict_fields v) → CellNamed o (pile_fields (set_as p l o v).reply)
  unfolding set_as pile_fields
  judged-named (Err f) c = c
  judged-named (Ok t) c = c

  sets-by : (x : Piled) → x ≡ answer_of p (Set l o) → Sets p l o x
  unfolding answer_of set_of pile_fields
  sets-by x e = (e, rw e (go (ltb last_layer l)))
    where
      go : (b : Bool) → CellNamed o (pile_fields (cond b (says (Err Layer) p) (set_as p l o (verdict_of o))).reply)
      go true = record { anchor = λ e. absurd (omega arith); missing = λ e. absurd (omega arith) }
      go false = judged-named (verdict_of o) (verdict-named o)

  pub set-high : last_layer < l → Sets p l o (says (Err Layer) p)
  unfolding answer_of set_of
  set-high h = sets-by _ (rw (lt-ltb last_layer l h))

  module _ (h : l ≤ last_layer) {r : Result Taken Refusal} (e : r ≡ verdict_of o) where
    set-as : (v : Result Taken Refusal) → r ≡ v → set_as p l o v ≡ answer_of p (Set l o)
    unfolding answer_of set_of
    set-as v g = rw (le-ltb last_layer l h, sym e, g)

    pub set-refused : (f : Refusal) → r ≡ Err f → Sets p l o (says (Err f) p)
    unfolding set_as
    set-refused f g = sets-by _ (set-as (Err f) g)

    pub set-taken : (t : Taken) → r ≡ Ok t → (rows : List ℕ) → rows ≡ rows_put p.rows l (spans_of o)
        → (state : List ℕ) → state ≡ 0 ∷ 0 ∷ [] → Sets p l o (says (Ok (WasTaken t)) (arrays rows state))
    unfolding set_as
    set-taken t g rows k state z = sets-by _ (rw (k, z) (set-as (Ok t) g))

-- ---- check

-- The reply and what is left, and what the reply means
abbrev pub Checks : Pile → Piled → Type 0
Checks p x = (x ≡ answer_of p Check) × CheckedRuns (layers_in p) x.reply

module _ (p : Pile) (c : ℕ) (ec : c ≡ dented_column (layers_in p)) where
  pub column-checks : c < side → (q : Pile) → q ≡ failing p → Checks p (says (Err (Section Column c)) q)
  unfolding answer_of check_of
  column-checks h q k =
      let found : dented_column (layers_in p) < side = omega (arith, ec) in
      rw (k, ec) (
        rw (lt-ltb (dented_column (layers_in p)) side found),
        column-said _ _ (layers_in p) (λ c i. column-decided (layers_in p) c) found,
      )

  module _ (left : side ≤ c) (bytes : (i : ℕ) → get_or p.rows i 0 ≤ side) (r : ℕ) (er : r ≡ dented_row (layers_in p)) where
    none-column : side ≤ dented_column (layers_in p)
    none-column = omega (arith, ec)

    pub row-checks : r < side → (q : Pile) → q ≡ failing p → Checks p (says (Err (Section Row r)) q)
    unfolding answer_of check_of
    row-checks h q k =
        let found : dented_row (layers_in p) < side = omega (arith, er) in
        rw (k, er) (
          rw (le-ltb (dented_column (layers_in p)) side none-column, lt-ltb (dented_row (layers_in p)) side found),
          row-said _ _ (layers_in p) (λ c i. column-decided (layers_in p) c) none-column
              (λ k i j. row-decided (layers_in p) k (bytes_fit p.rows bytes k i)) found,
        )

    pub passing-checks : side ≤ r → (state : List ℕ) → state ≡ passed_word ∷ 0 ∷ [] → Checks p (says (Ok Done) (arrays p.rows state))
    unfolding answer_of check_of
    passing-checks h state z =
        let none : side ≤ dented_row (layers_in p) = omega (arith, er) in
        rw z (
          rw (le-ltb (dented_column (layers_in p)) side none-column, le-ltb (dented_row (layers_in p)) side none),
          none_said _ _ (layers_in p) (λ c i. column-decided (layers_in p) c) none-column
              (λ k i j. row-decided (layers_in p) k (bytes_fit p.rows bytes k i)) none,
        )

-- ---- query

-- The row of a cell on the chart
pub good_row : (x : Point) → bad_cell x ≡ false → x.row < side
unfolding bad_cell
good_row x e = leb-false side x.row ((or-false-iff (leb side x.col) (leb side x.row)).0 e).1
