-- The seven numbers hold the reply's fields, so what is known of the reply is known of them.
use Prim.Native.Nat.{ℕ}
use mathlib.Core.Path.{◌≡◌, ap, ◌∙◌}
use mathlib.Core.Bool.{Bool}
use mathlib.Core.List.{List}
use Rattle.chart.specs.declared.Fields.{Fields}
use Rattle.chart.specs.Fields.{numbers_of, fields_of}
use Rattle.chart.specs.Outline.{Outline}
use Rattle.chart.specs.declared.Point.{Point}
use Rattle.chart.proofs.ReplyLaws.{read_back}
use Rattle.verdict.specs.Named.{CellNamed}
use Rattle.pile_replies.specs.Replies.{PileReply}
use Rattle.pile_replies.specs.Replies.{pile_fields}
use Rattle.pile_sections.specs.Meaning.{AllConvex, CheckedBy}
use Rattle.pile_sections.proofs.CheckLaws.{checked-number}
use Rattle.pile_model.specs.Calls.{PileCall, Query}
use Rattle.pile_calls.specs.declared.Pile.{Pile}
use Rattle.pile_calls.specs.declared.Piled.{Piled}
use Rattle.std.specs.declared.option.Option.{Option}
use Rattle.pile_calls.specs.declared.Stepped.{Stepped}
use Rattle.pile_calls.specs.Arrays.{says, query_of, answer_of}
use Rattle.pile_calls.specs.Steps.{stepped, steps_of}
use Rattle.pile_written.specs.Written.{progress_fields, Done, StepsDone, CheckWritten}

module _ (p q : Pile) (f : Fields) (numbers : List ℕ) (put : numbers ≡ numbers_of f) where
  pub done_by : (c : PileCall) (r : PileReply) → says r q ≡ answer_of p c → f ≡ pile_fields r → Done p q c numbers
  done_by c r e is =
      record {
        pile = ap (λ (x : Piled). x.pile) e;
        replied = put ∙ ap numbers_of is ∙ ap (λ (x : Piled). numbers_of (pile_fields x.reply)) e;
      }

  pub steps_by : (n : ℕ) (x : Option PileReply) → stepped x q ≡ steps_of n p → f ≡ progress_fields x → StepsDone p q n numbers
  steps_by n x e is =
      record {
        pile = ap (λ (s : Stepped). s.pile) e;
        replied = put ∙ ap numbers_of is ∙ ap (λ (s : Stepped). numbers_of (progress_fields s.progress)) e;
      }

pub query_by : (p : Pile) (l : ℕ) (x : Point) (f : Fields) (numbers : List ℕ) → numbers ≡ numbers_of f → (r : PileReply)
    → r ≡ query_of p l x → f ≡ pile_fields r → Done p p (Query l x) numbers
unfolding answer_of
query_by p l x f numbers put r e is = done_by p p f numbers put (Query l x) r (ap (λ (r : PileReply). says r p) e) is

module _ (f : Fields) (numbers : List ℕ) (put : numbers ≡ numbers_of f) (r : PileReply) (is : f ≡ pile_fields r) where
  pub cell_written : (o : Outline) → CellNamed o (pile_fields r) → CellNamed o (fields_of numbers)
  cell_written o c = rw (put, read_back f, is) c

  pub check_written : {columns rows : ℕ → ℕ → ℕ → Bool} → CheckedBy columns rows r
      → CheckWritten (CheckedBy columns rows) (AllConvex columns rows) numbers
  check_written said =
      record { answer = r; fact = said; written = put ∙ ap numbers_of is; zero_iff = rw (put, read_back f, is) (checked-number r said) }
