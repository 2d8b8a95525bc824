-- The word of a comparison names the statement that holds, by the theorem of the five statements, and a refusal has no word.
use Prim.Native.Nat.{ℕ, ◌<◌}
use native.Mathlib.Omega.{arith}
use mathlib.Core.Path.{◌≡◌, refl, sym, ap, ◌∙◌}
use mathlib.Core.Bool.{cond}
use mathlib.Core.List.{List, []}
use Rattle.std.specs.Prelude.{Result, Ok, Err}
use lib.Dec.{eqb}
use lib.IntN.{ℤ}
use denote.Ref.{Bor}
use Rattle.chart.specs.declared.Point.{Point}
use Rattle.chart.specs.declared.Fields.{Fields}
use Rattle.chart.specs.declared.Nesting.{Nesting}
use Rattle.chart.specs.declared.Nesting.TheVariants.{Equal, FirstWithin, SecondWithin, Apart, Crossing}
use Rattle.chart.specs.declared.RefusedList.{RefusedList}
use Rattle.chart.specs.declared.Refusal.{Refusal}
use Rattle.chart.proofs.RefusalLaws.{refusal-number}
use Rattle.chart.specs.Fields.{placed, refusal_fields, nesting_fields, comparison_fields}
use Rattle.nesting.specs.Cells.{polygon}
use Rattle.nesting.specs.Answer.{nesting}
use Rattle.nesting.proofs.Answer.{answer-iff}
use Rattle.comparison.specs.Compared.{checked_of, decided, comparison_of, CellsNamed, ReturnedList}
use Rattle.comparison.proofs.Cases.{fit-passes}

-- Each word belongs to one result
word-above : (v : Nesting) → 0 < (nesting_fields v).word
word-above Equal = omega arith
word-above FirstWithin = omega arith
word-above SecondWithin = omega arith
word-above Apart = omega arith
word-above Crossing = omega arith

worded : ℕ → Nesting
worded n = cond (eqb n 11) Equal (cond (eqb n 12) FirstWithin (cond (eqb n 13) SecondWithin (cond (eqb n 14) Apart Crossing)))

worded-is : (v : Nesting) → worded (nesting_fields v).word ≡ v
unfolding worded
worded-is Equal = refl
worded-is FirstWithin = refl
worded-is SecondWithin = refl
worded-is Apart = refl
worded-is Crossing = refl

pub word-once : (v w : Nesting) → (nesting_fields v).word ≡ (nesting_fields w).word → v ≡ w
word-once v w e = sym (worded-is v) ∙ ap worded e ∙ worded-is w

module _ (a : Point) (es : List ℤ) (b : Point) (fs : List ℤ) where
  unnamed : (n : ℕ) (f : Refusal) → CellsNamed (polygon a es) (polygon b fs) (placed (refusal_fields f).number n)
  unnamed n f = record { says = λ v e. absurd (omega (arith, word-above v)); only = λ e. absurd (omega (arith, refusal-number f)) }

  named :
      (s t : Result (Unit {0}) Refusal) → s ≡ checked_of a es → t ≡ checked_of b fs
      → CellsNamed (polygon a es) (polygon b fs) (comparison_fields (decided s t (nesting (polygon a es) (polygon b fs))))
  unfolding decided
  named (Err f) t p q = unnamed 1 f
  named (Ok u) (Err f) p q = unnamed 2 f
  named (Ok u) (Ok w) p q =
      let iff = answer-iff (polygon a es) (polygon b fs) (fit-passes a es p) (fit-passes b fs q) in
      record {
        says = λ v e. (iff v).1 (word-once (nesting (polygon a es) (polygon b fs)) v e);
        only = λ e v h. ap nesting_fields ((iff v).0 h);
      }

  cells-named : CellsNamed (polygon a es) (polygon b fs) (comparison_fields (comparison_of a es b fs))
  unfolding comparison_of
  cells-named = named (checked_of a es) (checked_of b fs) refl refl

  -- The same for anything equal to that result
  pub answer-named :
      (c : Result Nesting RefusedList) → c ≡ comparison_of a es b fs
      → (c ≡ comparison_of a es b fs) × CellsNamed (polygon a es) (polygon b fs) (comparison_fields c)
  answer-named c e = (e, rw e cells-named)

-- The piece of a reply names the list that comes with it
module _ (f : Fields) (first second : Bor (List ℤ)) where
  pub returned-one : f.piece ≡ 1 → ReturnedList f first first second
  returned-one e = record { one = λ h. refl; two = λ h. absurd (omega arith); neither = λ h. absurd (omega arith) }

  pub returned-two : f.piece ≡ 2 → ReturnedList f second first second
  returned-two e = record { one = λ h. absurd (omega arith); two = λ h. refl; neither = λ h. absurd (omega arith) }

  pub returned-neither : (list : Bor (List ℤ)) → f.piece ≡ 0 → list.ref_ptr ≡ first.ref_ptr → list.now ≡ [] → ReturnedList f list first second
  returned-neither list e p q = record { one = λ h. absurd (omega arith); two = λ h. absurd (omega arith); neither = λ h. (p, q) }
