-- Lists of the calls on a pile that C makes, each on the arrays that the one before it left, and the model's replies to them (contract 12.7
-- and 12.8).
use Rattle.std.specs.Prelude.{ℕ, ◌≡◌, List, [], ◌∷◌, Option, None, Some}
use Rattle.pile_replies.specs.Replies.{PileReply}
use Rattle.pile_model.specs.Calls.{PileCall, Check}
use Rattle.pile_model.specs.Book.{PileBook, fresh, Answers, next}
use Rattle.pile_calls.specs.declared.Pile.{Pile}
use Rattle.pile_calls.specs.declared.Stepped.{Stepped}
use Rattle.pile_calls.specs.Arrays.{answer_of, check_of, fresh_pile}
use Rattle.pile_calls.specs.Steps.{stepped, steps_of}
use Rattle.pile_written.specs.Written.{Done, StepsDone}

-- ---- calls by value, or in place

unfoldable pub replies_from : Pile → List PileCall → List PileReply
replies_from p [] = []
replies_from p (c ∷ cs) = (answer_of p c).reply ∷ replies_from (answer_of p c).pile cs

-- What the whole check does, as a step that replies
unfoldable pub whole : Pile → Stepped
whole p = stepped (Some (check_of p).reply) (check_of p).pile

-- ---- what C calls: the arrays are made a fresh pile, a call, or some sections of a check

pub data Move : Type 0 where
  renew : Move
  call : PileCall → Move
  steps : ℕ → Move

unfoldable pub moved : Pile → Move → Pile
moved p renew = fresh_pile
moved p (call c) = (answer_of p c).pile
moved p (steps n) = (steps_of n p).pile

unfoldable pub moved_by : Pile → List Move → Pile
moved_by p [] = p
moved_by p (m ∷ ms) = moved_by (moved p m) ms

-- What they reply, in turn. A fresh pile is no reply
unfoldable pub said_by : Pile → List Move → List (Option PileReply)
said_by p [] = []
said_by p (renew ∷ ms) = said_by fresh_pile ms
said_by p (call c ∷ ms) = Some (answer_of p c).reply ∷ said_by (answer_of p c).pile ms
said_by p (steps n ∷ ms) = (steps_of n p).progress ∷ said_by (steps_of n p).pile ms

-- Calls of the functions for C, one by one, from arrays p to arrays q, with the seven numbers that each wrote
pub data Made : Pile → List Move → List (List ℕ) → Pile → Type 0 where
  end : {p : Pile} → Made p [] [] p
  renewed : {p n q : Pile} {ms : List Move} {rs : List (List ℕ)} → n ≡ fresh_pile → Made n ms rs q → Made p (renew ∷ ms) rs q
  called : {p n q : Pile} {c : PileCall} {ms : List Move} {r : List ℕ} {rs : List (List ℕ)} → Done p n c r → Made n ms rs q
      → Made p (call c ∷ ms) (r ∷ rs) q
  went : {p n q : Pile} {k : ℕ} {ms : List Move} {r : List ℕ} {rs : List (List ℕ)} → StepsDone p n k r → Made n ms rs q
      → Made p (steps k ∷ ms) (r ∷ rs) q

-- ---- in the model a step that replies is a check, and one that does not is nothing

unfoldable pub AllMoves : PileBook → List Move → List (Option PileReply) → Type 0
AllMoves b [] [] = Unit {0}
AllMoves b [] (r ∷ rs) = ⊥
AllMoves b (renew ∷ ms) rs = AllMoves fresh ms rs
AllMoves b (call c ∷ ms) [] = ⊥
AllMoves b (call c ∷ ms) (None ∷ rs) = ⊥
AllMoves b (call c ∷ ms) (Some r ∷ rs) = Answers b c r × AllMoves (next b c r) ms rs
AllMoves b (steps n ∷ ms) [] = ⊥
AllMoves b (steps n ∷ ms) (None ∷ rs) = AllMoves b ms rs
AllMoves b (steps n ∷ ms) (Some r ∷ rs) = Answers b Check r × AllMoves (next b Check r) ms rs

-- The model after them
unfoldable pub next_step : PileBook → Option PileReply → PileBook
next_step b None = b
next_step b (Some r) = next b Check r

unfoldable pub book_by : PileBook → Pile → List Move → PileBook
book_by b p [] = b
book_by b p (renew ∷ ms) = book_by fresh fresh_pile ms
book_by b p (call c ∷ ms) = book_by (next b c (answer_of p c).reply) (answer_of p c).pile ms
book_by b p (steps n ∷ ms) = book_by (next_step b (steps_of n p).progress) (steps_of n p).pile ms
