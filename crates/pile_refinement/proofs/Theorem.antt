-- Arrays and model stay in step through every call that C makes, so each reply is the model's, by induction over the list.
use Rattle.std.specs.Prelude.{Ok}
use Prim.Native.Nat.{ℕ, ◌+◌, ◌≤◌, ◌<◌}
use mathlib.Core.Path.{◌≡◌, refl, sym, ap, ap₂, ◌∙◌}
use mathlib.Core.Bool.{true, false}
use mathlib.Core.Logic.{◌⊎◌, inl, inr, ⊎_elim}
use mathlib.Core.List.{List, [], ◌∷◌, map}
use lib.ListN.{length}
use borrow.Author.Tests.{le-ltb}
use Rattle.chart.specs.Limits.{side}
use Rattle.chart.specs.Fields.{worded, more, numbers_of}
use Rattle.chart.specs.declared.Point.{Point}
use Rattle.lattice.specs.Hull.{InHull}
use Rattle.polygon.specs.Loose.{bad_cell}
use Rattle.sections.specs.Sections.{layers, last_layer}
use Rattle.pile_replies.specs.Replies.{PileReply}
use Rattle.pile_replies.specs.declared.PileAnswer.TheVariants.{Done as Fine}
use Rattle.pile_replies.specs.Replies.{pile_fields}
use Rattle.pile_model.specs.Calls.{PileCall, Check, Query}
use Rattle.pile_model.specs.Book.{PileBook, fresh, column_marks, row_marks, Checked, NoneDented, located, queried, Answers, next, AllAnswer}
use Rattle.pile_model.proofs.Sections.{column-plane, row-plane}
use Rattle.pile_model.proofs.Once.{replies-once}
use Rattle.pile_calls.specs.declared.Pile.{Pile}
use Rattle.std.specs.declared.option.Option.{Option}
use Rattle.std.specs.declared.option.Option.TheVariants.{None, Some}
use Rattle.pile_calls.specs.declared.Stepped.{Stepped}
use Rattle.pile_calls.specs.Arrays.{layers_in, word, passed, position, with_state, check_of, answer_of, fresh_pile, Fits}
use Rattle.pile_calls.specs.Steps.{sections, steps_of}
use Rattle.pile_written.specs.Written.{progress_fields, Done, StepsDone, CheckWritten}
use Rattle.pile_written.proofs.WrittenLaws.{check_written}
use Rattle.pile_refinement.specs.Moves.{replies_from, whole, Move, renew, call, steps, moved, moved_by, said_by}
use Rattle.pile_refinement.specs.Moves.{Made, end, renewed, called, went, AllMoves, next_step, book_by}
use Rattle.pile_refinement.proofs.InStep.{InStep, step-fresh, step-check, step-query, call-agrees, said, done-checked, layers-size}
use Rattle.pile_refinement.proofs.Steps.{Under, under-fresh, under-move, anew, Do, ends, rests, steps-do, steps-end}
use Rattle.pile_refinement.proofs.Unaltered.{refused-unaltered}

-- ---- calls, by value or in place

replies-agree : (cs : List PileCall) (b : PileBook) (p : Pile) → InStep b p → AllAnswer b cs (replies_from p cs)
unfolding AllAnswer replies_from
replies-agree [] b p t = tt
replies-agree (c ∷ cs) b p t = let (a, u) = call-agrees b p t c in (a, replies-agree cs _ _ u)

-- For every list of calls from a fresh pile every reply is the model's, and no other replies are
pub pile-theorem : (cs : List PileCall) → AllAnswer fresh cs (replies_from fresh_pile cs)
pile-theorem cs = replies-agree cs fresh fresh_pile step-fresh

pub pile-once : (cs : List PileCall) (rs : List PileReply) → AllAnswer fresh cs rs → replies_from fresh_pile cs ≡ rs
pile-once cs rs a = replies-once cs fresh (replies_from fresh_pile cs) rs (pile-theorem cs) a

-- ---- some sections of a check

-- The position is nothing to the model
still : (b : PileBook) (p : Pile) → InStep b p → (k : ℕ) → InStep b (with_state p (word p) k)
still b p t k = record { size = t.size; kept = t.kept; same = t.same; whole = t.whole }

-- What a step replies: more, or a check's reply in the model
unfoldable pub StepAnswers : PileBook → Option PileReply → Type 0
StepAnswers b None = Unit {0}
StepAnswers b (Some r) = Answers b Check r

pub steps-agree : (n : ℕ) (b : PileBook) (p : Pile) → InStep b p → Under p
    → StepAnswers b (steps_of n p).progress × InStep (next_step b (steps_of n p).progress) (steps_of n p).pile
unfolding StepAnswers next_step whole
steps-agree n b p t u = go (steps_of n p) (steps-do n p u)
  where
    go : (s : Stepped) → Do p (position p + n) s → StepAnswers b s.progress × InStep (next_step b s.progress) s.pile
    go s (ends e) = rw e (step-check b (anew p) (still b p t 0))
    go s (rests e near before) = rw e (tt, still b p t (position p + n))

-- ---- what C calls

step-moves : (b : PileBook) (x : Option PileReply) → StepAnswers b x → (n : ℕ) (ms : List Move) (rs : List (Option PileReply)) → AllMoves (next_step b x) ms rs
    → AllMoves b (steps n ∷ ms) (x ∷ rs)
unfolding StepAnswers AllMoves next_step
step-moves b None a n ms rs later = later
step-moves b (Some r) a n ms rs later = (a, later)

moves-agree : (ms : List Move) (b : PileBook) (p : Pile) → InStep b p → Under p → AllMoves b ms (said_by p ms)
unfolding AllMoves said_by moved
moves-agree [] b p t u = tt
moves-agree (renew ∷ ms) b p t u = moves-agree ms fresh fresh_pile step-fresh under-fresh
moves-agree (call c ∷ ms) b p t u =
    let (a, v) = call-agrees b p t c in (a, moves-agree ms _ _ v (under-move p u (call c)))
moves-agree (steps n ∷ ms) b p t u =
    let (a, v) = steps-agree n b p t u in
    step-moves b (steps_of n p).progress a n ms _ (moves-agree ms _ _ v (under-move p u (steps n)))

-- For every list of calls, sections of a check and fresh piles, in any order, every reply is the model's: a step that replies is a check
-- there, and one that does not is nothing
pub moves-theorem : (ms : List Move) → AllMoves fresh ms (said_by fresh_pile ms)
moves-theorem ms = moves-agree ms fresh fresh_pile step-fresh under-fresh

-- Seven numbers
abbrev pub written : Option PileReply → List ℕ
written x = numbers_of (progress_fields x)

made-says : (p : Pile) (ms : List Move) (rs : List (List ℕ)) (q : Pile) → Made p ms rs q
    → (rs ≡ map written (said_by p ms)) × (q ≡ moved_by p ms)
unfolding said_by moved_by moved progress_fields
made-says p [] [] q end = (refl, refl)
made-says p [] (r ∷ rs) q m = elim m [ ]
made-says p (renew ∷ ms) rs q (renewed {p = _} {n = n} e later) =
    let (a, b) = made-says n ms rs q later in (
      a ∙ ap (λ (x : Pile). map written (said_by x ms)) e,
      b ∙ ap (λ (x : Pile). moved_by x ms) e,
    )
made-says p (call c ∷ ms) [] q m = elim m [ ]
made-says p (call c ∷ ms) (r ∷ rs) q (called {p = _} {n = n} d later) =
    let (a, b) = made-says n ms rs q later in (
      ap₂ ◌∷◌ d.replied (a ∙ ap (λ (x : Pile). map written (said_by x ms)) d.pile),
      b ∙ ap (λ (x : Pile). moved_by x ms) d.pile,
    )
made-says p (steps k ∷ ms) [] q m = elim m [ ]
made-says p (steps k ∷ ms) (r ∷ rs) q (went {p = _} {n = n} d later) =
    let (a, b) = made-says n ms rs q later in (
      ap₂ ◌∷◌ d.replied (a ∙ ap (λ (x : Pile). map written (said_by x ms)) d.pile),
      b ∙ ap (λ (x : Pile). moved_by x ms) d.pile,
    )

-- ---- after any of them from a fresh pile

abbrev pub book_of : List Move → PileBook
book_of ms = book_by fresh fresh_pile ms

abbrev pub pile_of : List Move → Pile
pile_of ms = moved_by fresh_pile ms

-- As C makes them: from any memory, made a fresh pile, the numbers written are the model's replies, and the arrays are the definition's
pub calls-theorem : (p : Pile) (ms : List Move) (rs : List (List ℕ)) (q : Pile) → Made p (renew ∷ ms) rs q
    → ((said : List (Option PileReply)) × AllMoves fresh ms said × (rs ≡ map written said)) × (q ≡ pile_of ms)
unfolding said_by moved_by moved
calls-theorem p ms rs q d =
    let (a, b) = made-says p (renew ∷ ms) rs q d in ((said_by fresh_pile ms, moves-theorem ms, a), b)

stays : (ms : List Move) (b : PileBook) (p : Pile) → InStep b p → Under p → InStep (book_by b p ms) (moved_by p ms) × Under (moved_by p ms)
unfolding book_by moved_by moved
stays [] b p t u = (t, u)
stays (renew ∷ ms) b p t u = stays ms fresh fresh_pile step-fresh under-fresh
stays (call c ∷ ms) b p t u = stays ms _ _ (call-agrees b p t c).1 (under-move p u (call c))
stays (steps n ∷ ms) b p t u = stays ms _ _ (steps-agree n b p t u).1 (under-move p u (steps n))

module _ (ms : List Move) where
  in_step : InStep (book_of ms) (pile_of ms)
  in_step = (stays ms fresh fresh_pile step-fresh under-fresh).0

  under : Under (pile_of ms)
  under = (stays ms fresh fresh_pile step-fresh under-fresh).1

  -- The arrays keep their lengths
  pub pile-fits : Fits (pile_of ms)
  pile-fits = record { rows = in_step.size; state = ap length under.two }

  -- The state says that the pile has passed exactly if the model does
  pub state-theorem : passed (pile_of ms) ≡ (book_of ms).passed
  state-theorem = in_step.same

  -- A check writes 0 exactly if no section of the taken outlines has a missing cell. Otherwise it names the first that has one
  abbrev pub Checks : List ℕ → Type 0
  Checks numbers = CheckWritten (Checked (book_of ms).layers) (NoneDented (book_of ms).layers) numbers

  pub check-theorem : (q : Pile) (numbers : List ℕ) → Done (pile_of ms) q Check numbers → Checks numbers
  unfolding answer_of
  check-theorem q numbers d = check_written _ numbers d.replied (check_of (pile_of ms)).reply refl (said _ _ in_step)

  -- So do sections of a check in steps, or they write "more" and leave the rows and the word
  abbrev pub GoesOn : ℕ → Pile → List ℕ → Type 0
  GoesOn n q numbers =
      (numbers ≡ numbers_of (worded more)) × (q ≡ with_state (pile_of ms) (word (pile_of ms)) (position (pile_of ms) + n))

  pub step-theorem : (n : ℕ) (q : Pile) (numbers : List ℕ) → StepsDone (pile_of ms) q n numbers → GoesOn n q numbers ⊎ Checks numbers
  unfolding whole progress_fields
  step-theorem n q numbers d = go (steps_of n (pile_of ms)) (steps-do n (pile_of ms) under) d.pile d.replied
    where
      go : (s : Stepped) → Do (pile_of ms) (position (pile_of ms) + n) s → q ≡ s.pile → numbers ≡ written s.progress
          → GoesOn n q numbers ⊎ Checks numbers
      go s (ends e) left told =
          inr (check_written _ numbers (told ∙ ap (λ (x : Stepped). written x.progress) e) (check_of (anew (pile_of ms))).reply refl
          (said _ _ (still _ _ in_step 0)))
      go s (rests e near before) left told =
          inl (told ∙ ap (λ (x : Stepped). written x.progress) e, left ∙ ap (λ (x : Stepped). x.pile) e)

  -- As many sections as are left end it, with the reply and the arrays of the whole check
  pub steps-left : (n : ℕ) → sections ≤ n + position (pile_of ms) → steps_of n (pile_of ms) ≡ whole (anew (pile_of ms))
  steps-left n h = steps-end n (pile_of ms) under h

  -- A query gets the model's reply; if the pile has passed, from the layer's outline
  pub query-replies : (l : ℕ) (x : Point) (q : Pile) (numbers : List ℕ) → Done (pile_of ms) q (Query l x) numbers
      → numbers ≡ numbers_of (pile_fields (queried (book_of ms) l x))
  unfolding answer_of
  query-replies l x q numbers d = d.replied ∙ ap (λ (r : PileReply). numbers_of (pile_fields r)) (step-query _ _ in_step l x)

  pub query-theorem : (book_of ms).passed ≡ true → (l : ℕ) (x : Point) → l ≤ last_layer → bad_cell x ≡ false
      → (q : Pile) (numbers : List ℕ) → Done (pile_of ms) q (Query l x) numbers
      → numbers ≡ numbers_of (pile_fields (located ((book_of ms).layers l) x))
  unfolding queried
  query-theorem e l x h k q numbers d = query-replies l x q numbers d ∙ rw (le-ltb last_layer l h, e, k)

  -- A pile that has passed has no dented section, and passes again
  pub passed-whole : passed (pile_of ms) ≡ true → NoneDented (book_of ms).layers
  passed-whole e = in_step.whole (sym state-theorem ∙ e)

  pub passed-again : passed (pile_of ms) ≡ true → (answer_of (pile_of ms) Check).reply ≡ Ok Fine
  unfolding answer_of
  passed-again e = done-checked (check_of (pile_of ms)).reply (said _ _ in_step) (passed-whole e)

  -- So a refused call leaves every number, a check too
  pub refused-kept : (c : PileCall) → ((pile_fields (answer_of (pile_of ms) c).reply).number ≡ 0 → ⊥)
      → (answer_of (pile_of ms) c).pile ≡ pile_of ms
  unfolding pile_fields
  refused-kept c r =
      ⊎_elim (λ e. e)
      (λ (is, e). absurd (r (rw (is, passed-again e) refl)))
      (refused-unaltered (pile_of ms) c r)

  refused-anew : ((pile_fields (check_of (anew (pile_of ms))).reply).number ≡ 0 → ⊥) → (check_of (anew (pile_of ms))).pile ≡ anew (pile_of ms)
  unfolding answer_of pile_fields
  refused-anew r =
      ⊎_elim (λ e. e)
      (λ (is, e). absurd (r (rw (done-checked (check_of (anew (pile_of ms))).reply (said _ _ (still _ _ in_step 0)) (passed-whole e)) refl)))
      (refused-unaltered (anew (pile_of ms)) Check r)

  -- A refused step of a check leaves the rows and the word, and the next step begins anew
  pub refused-steps-kept : (n : ℕ) → ((progress_fields (steps_of n (pile_of ms)).progress).number ≡ 0 → ⊥)
      → (steps_of n (pile_of ms)).pile ≡ with_state (pile_of ms) (word (pile_of ms)) 0
  unfolding whole answer_of progress_fields
  refused-steps-kept n r = go (steps_of n (pile_of ms)) (steps-do n (pile_of ms) under) r
    where
      go : (s : Stepped) → Do (pile_of ms) (position (pile_of ms) + n) s → ((progress_fields s.progress).number ≡ 0 → ⊥)
          → s.pile ≡ with_state (pile_of ms) (word (pile_of ms)) 0
      go s (ends e) r =
          ap (λ (x : Stepped). x.pile) e ∙ refused-anew (λ z. r (ap (λ (x : Stepped). (progress_fields x.progress).number) e ∙ z))
      go s (rests e near before) r = absurd (r (ap (λ (x : Stepped). (progress_fields x.progress).number) e))

  -- The plane of a section has 16 by 255 cells, and the hull of its marked cells stays within it
  pub column-on-plane : (k : ℕ) (x : Point) → InHull (column_marks (book_of ms).layers k) x → (x.col < layers) × (x.row < side)
  column-on-plane k x = column-plane (book_of ms).layers (layers_in (pile_of ms)) (layers-size (pile_of ms).rows) in_step.kept k x

  pub row-on-plane : (k : ℕ) (x : Point) → InHull (row_marks (book_of ms).layers k) x → (x.col < layers) × (x.row < side)
  row-on-plane k x = row-plane (book_of ms).layers (layers_in (pile_of ms)) (layers-size (pile_of ms).rows) in_step.kept k x
