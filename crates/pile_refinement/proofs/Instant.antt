-- While the word is not that of a pile that has passed, no query reads the rows. A set takes the word away by its first store, and a check
-- writes it by its last, so at each moment a query gets the reply from before the call, 12, or the reply from after it.
use Rattle.std.specs.Prelude.{Result, Ok, Err}
use Prim.Native.Nat.{ℕ, zero, suc, ◌+◌, ◌*◌, ◌≤◌, ◌<◌}
use native.Mathlib.Decide.{dec_lt}
use native.Mathlib.Omega.{arith}
use mathlib.Core.Path.{◌≡◌, refl, sym, ap, ◌∙◌}
use mathlib.Core.Bool.{Bool, true, false, cond}
use mathlib.Core.Logic.{inl, inr}
use mathlib.Core.List.{List, [], ◌∷◌}
use lib.ListN.{length, get_or, set}
use lib.Seq.{paste, paste-zero, paste-suc, length-paste}
use lib.Dec.{ltb, eqb}
use borrow.Author.Tests.{lt-ltb, le-ltb}
use Rattle.chart.specs.Limits.{side}
use Rattle.chart.specs.Outline.{Outline}
use Rattle.chart.specs.declared.Point.{Point}
use Rattle.chart.specs.declared.Refusal.{Refusal}
use Rattle.chart.specs.declared.Taken.{Taken}
use Rattle.chart.specs.declared.Refusal.TheVariants.{Section, Image}
use Rattle.chart.specs.declared.SectionKind.TheVariants.{Column, Row}
use Rattle.verdict.specs.Verdict.{verdict_of}
use Rattle.images.specs.Image.{is_image, held_in}
use Rattle.spans.specs.declared.Spans.{Spans}
use Rattle.spans.specs.Spans.{no_spans, spans_of}
use Rattle.span_list.specs.SpanList.{slot_bytes}
use Rattle.span_list.proofs.SlotLaws.{Whole, outline-whole, none-whole}
use Rattle.sections.specs.Sections.{layers, last_layer}
use Rattle.pile_sections.specs.Sections.{dented_column, dented_row}
use Rattle.pile_replies.specs.declared.PileAnswer.TheVariants.{Done}
use Rattle.pile_model.specs.Calls.{PileCall, Set, SetEmpty, Check, Query, Restore}
use Rattle.pile_calls.specs.declared.Pile.{Pile}
use Rattle.pile_calls.specs.declared.Piled.{Piled}
use Rattle.std.specs.declared.option.Option.TheVariants.{None, Some}
use Rattle.pile_calls.specs.declared.Stepped.{Stepped}
use Rattle.pile_calls.specs.Arrays.{arrays, says, layers_in, passed_word, word as word_of, passed, position as position_of, with_state, layer_put}
use Rattle.pile_calls.specs.Arrays.{passing, failing, set_as, set_of, empty_of, check_of, query_of, restored_as, restore_of, answer_of, Fits}
use Rattle.pile_calls.specs.Steps.{stepped, clear_at, dent_at, tested_at, ending, step_at, step_of}
use Rattle.pile_calls.proofs.Cases.{word-then-position, position-then-word, position-alone}
use Rattle.pile_refinement.specs.Moves.{Move}
use Rattle.pile_refinement.specs.Stores.{Store, word, position, byte, stored, stored_all, unpasses, passes, bytes, puts, set_stores}
use Rattle.pile_refinement.specs.Stores.{restore_stores, fail_stores, stores_of, step_stores_at, step_stores, Throughout, not_yet, Between}
use Rattle.pile_refinement.proofs.Theorem.{pile_of, pile-fits}

-- ---- a pile that has not passed

-- Whatever its rows hold, and wherever a check in steps stands, a query gets 12, or 22
pub unpassed-replies : (p : Pile) → passed p ≡ false → (l : ℕ) (c : Point) → query_of p l c ≡ not_yet l
unfolding query_of
unpassed-replies p e l c = rw e

-- So any stores into the rows leave every reply
pub rows-unread : (p : Pile) → passed p ≡ false → (rows : List ℕ) (l : ℕ) (c : Point) → query_of (arrays rows p.state) l c ≡ query_of p l c
rows-unread p e rows l c = unpassed-replies (arrays rows p.state) e l c ∙ sym (unpassed-replies p e l c)

-- The first store of a set takes the pass, whatever the arrays hold
pub word-goes : (p : Pile) → passed (stored p (word 0)) ≡ false
unfolding stored
word-goes p = ap (λ (w : ℕ). eqb w passed_word) (go p.state)
  where
    go : (l : List ℕ) → get_or (set l 0 0) 0 0 ≡ 0
    go [] = refl
    go (a ∷ l) = refl

-- No store into the rows, and none of the position, brings it
abbrev Unpassed : Pile → Type 0
Unpassed p = passed p ≡ false

position-keeps : (p : Pile) (k : ℕ) → word_of (stored p (position k)) ≡ word_of p
unfolding stored
position-keeps p k = go p.state
  where
    go : (l : List ℕ) → get_or (set l 1 k) 0 0 ≡ get_or l 0 0
    go [] = refl
    go (a ∷ l) = refl

unpassed-position : (p : Pile) (k : ℕ) → Unpassed p → Unpassed (stored p (position k))
unpassed-position p k e = ap (λ (w : ℕ). eqb w passed_word) (position-keeps p k) ∙ e

unpassed-byte : (p : Pile) (i v : ℕ) → Unpassed p → Unpassed (stored p (byte i v))
unfolding stored
unpassed-byte p i v e = e

-- The position is nothing to a query
position-unread : (p : Pile) (k l : ℕ) (c : Point) → query_of (stored p (position k)) l c ≡ query_of p l c
unfolding query_of stored
position-unread p k l c = rw (position-keeps p k)

-- ---- stores one after another

throughout-as : {P Q : Pile → Type 0} → ((x : Pile) → P x → Q x) → (ss : List Store) (p : Pile) → Throughout P p ss → Throughout Q p ss
unfolding Throughout
throughout-as f [] p h = f p h
throughout-as f (s ∷ ss) p (h, later) = (f p h, throughout-as f ss (stored p s) later)

unpassed-bytes : (at : ℕ) (xs : List ℕ) (n i : ℕ) (rest : List Store) → ((q : Pile) → Unpassed q → Throughout Unpassed q rest) → (p : Pile)
    → Unpassed p → Throughout Unpassed p (bytes at xs i n rest)
unfolding bytes Throughout
unpassed-bytes at xs zero i rest later p e = later p e
unpassed-bytes at xs (suc n) i rest later p e =
    (e, unpassed-bytes at xs n (suc i) rest later (stored p (byte (at + i) (get_or xs i 0))) (unpassed-byte p (at + i) (get_or xs i 0) e))

-- ---- each moment of a call

here : (p q : Pile) → Between p q p
here p q l c = inl refl

there : (p q : Pile) → Between p q q
there p q l c = inr (inr refl)

gone : (p q x : Pile) → Unpassed x → Between p q x
gone p q x e l c = inr (inl (unpassed-replies x e l c))

puts-between : (p q : Pile) (l : ℕ) (x : Spans) → Throughout (Between p q) p (puts l x)
unfolding puts Throughout
puts-between p q l x =
    let p₁ : Pile = stored p (word 0) in
    let p₂ : Pile = stored p₁ (position 0) in
    let second : List Store = bytes (slot_bytes * l + side) x.past 0 side [] in
    let written : Throughout Unpassed p₂ (bytes (slot_bytes * l) x.first 0 side second) =
    unpassed-bytes (slot_bytes * l) x.first side 0 second (unpassed-bytes (slot_bytes * l + side) x.past side 0 [] (λ q e. e)) p₂
    (unpassed-position p₁ 0 (word-goes p)) in
    (here p q, (gone p q p₁ (word-goes p), throughout-as (gone p q) (bytes (slot_bytes * l) x.first 0 side second) p₂ written))

unpasses-between : (p q : Pile) → Throughout (Between p q) p unpasses
unfolding Throughout
unpasses-between p q =
    let p₁ : Pile = stored p (word 0) in
    (here p q, (gone p q p₁ (word-goes p), gone p q (stored p₁ (position 0)) (unpassed-position p₁ 0 (word-goes p))))

passes-between : (p q : Pile) → stored_all p passes ≡ q → Throughout (Between p q) p passes
unfolding Throughout stored_all
passes-between p q e = (here p q, (λ l c. inl (position-unread p 0 l c), rw e (there p q)))

position-between : (p q : Pile) (k : ℕ) → Throughout (Between p q) p (position k ∷ [])
unfolding Throughout
position-between p q k = (here p q, λ l c. inl (position-unread p k l c))

-- ---- what the stores leave

unpasses-leave : (p : Pile) → length p.state ≡ 2 → stored_all p unpasses ≡ with_state p 0 0
unfolding stored_all stored
unpasses-leave p two = ap (arrays p.rows) (word-then-position p.state two 0 0)

passes-leave : (p : Pile) → length p.state ≡ 2 → stored_all p passes ≡ passing p
unfolding stored_all stored
passes-leave p two = ap (arrays p.rows) (position-then-word p.state two passed_word 0)

position-leaves : (p : Pile) → length p.state ≡ 2 → (k : ℕ) → stored_all p (position k ∷ []) ≡ with_state p (word_of p) k
unfolding stored_all stored
position-leaves p two k = ap (arrays p.rows) (position-alone p.state two k)

bytes-leave : (d : List ℕ) (at : ℕ) (xs : List ℕ) (n i : ℕ) → at + (i + n) ≤ length d → i + n ≤ length xs → (s : List ℕ) (rest : List Store)
    → stored_all (arrays (paste d at xs i) s) (bytes at xs i n rest) ≡ stored_all (arrays (paste d at xs (i + n)) s) rest
unfolding bytes stored_all stored
bytes-leave d at xs zero i room all s rest =
    let e : i ≡ i + 0 = omega arith in ap (λ (k : ℕ). stored_all (arrays (paste d at xs k) s) rest) e
bytes-leave d at xs (suc n) i room all s rest =
    let e : suc i + n ≡ i + suc n = omega arith in
    ap (λ (r : List ℕ). stored_all (arrays r s) (bytes at xs (suc i) n rest)) (paste-suc d at xs i 0 (omega arith) (omega arith))
    ∙ bytes-leave d at xs n (suc i) (omega arith) (omega arith) s rest
    ∙ ap (λ (k : ℕ). stored_all (arrays (paste d at xs k) s) rest) e

-- From the first number on
bytes-from : (d : List ℕ) (at : ℕ) (xs : List ℕ) → at + side ≤ length d → side ≤ length xs → (s : List ℕ) (rest : List Store)
    → stored_all (arrays d s) (bytes at xs 0 side rest) ≡ stored_all (arrays (paste d at xs side) s) rest
bytes-from d at xs room all s rest =
    ap (λ (r : List ℕ). stored_all (arrays r s) (bytes at xs 0 side rest)) (paste-zero d at xs)
    ∙ bytes-leave d at xs side 0 room all s rest

puts-leave : (p : Pile) → Fits p → (l : ℕ) → l < layers → (x : Spans) → Whole x → stored_all p (puts l x) ≡ layer_put p l x
unfolding puts stored_all
puts-leave p f l h x w =
    let rows₁ : List ℕ = paste p.rows (slot_bytes * l) x.first side in
    let second : List Store = bytes (slot_bytes * l + side) x.past 0 side [] in
    let size : length rows₁ ≡ length p.rows =
    length-paste p.rows (slot_bytes * l) x.first side (omega (arith, f.rows)) (omega (arith, w.first)) in
    ap (λ (q : Pile). stored_all q (bytes (slot_bytes * l) x.first 0 side second)) (unpasses-leave p f.state)
    ∙ bytes-from p.rows (slot_bytes * l) x.first (omega (arith, f.rows)) (omega (arith, w.first)) (0 ∷ 0 ∷ []) second
    ∙ bytes-from rows₁ (slot_bytes * l + side) x.past (omega (arith, f.rows, size)) (omega (arith, w.past)) (0 ∷ 0 ∷ []) []

-- ---- the calls

module _ (p : Pile) (f : Fits p) where
  set-leaves : (l : ℕ) (o : Outline) → l < layers → (v : Result Taken Refusal) → stored_all p (set_stores l o v) ≡ (set_as p l o v).pile
  unfolding set_stores set_as stored_all
  set-leaves l o h (Err g) = refl
  set-leaves l o h (Ok t) = puts-leave p f l h (spans_of o) (outline-whole o)

  set-between : (l : ℕ) (o : Outline) (v : Result Taken Refusal) → Throughout (Between p (set_as p l o v).pile) p (set_stores l o v)
  unfolding set_stores set_as Throughout
  set-between l o (Err g) = here p p
  set-between l o (Ok t) = puts-between p _ l (spans_of o)

  restore-leaves : (l : ℕ) (o : Outline) → l < layers → (w : List ℕ) → stored_all p (restore_stores l o w) ≡ (restored_as p l o w).pile
  unfolding restore_stores restored_as
  restore-leaves l o h [] = puts-leave p f l h no_spans none-whole
  restore-leaves l o h (a ∷ w) = set-leaves l o h (verdict_of o)

  restore-between : (l : ℕ) (o : Outline) (w : List ℕ) → Throughout (Between p (restored_as p l o w).pile) p (restore_stores l o w)
  unfolding restore_stores restored_as
  restore-between l o [] = puts-between p _ l no_spans
  restore-between l o (a ∷ w) = set-between l o (verdict_of o)

  fail-leaves : stored_all p (fail_stores p) ≡ failing p
  unfolding fail_stores failing stored_all
  fail-leaves = go (passed p)
    where
      go : (t : Bool) → stored_all p (cond t unpasses []) ≡ cond t (with_state p 0 0) p
      go true = unpasses-leave p f.state
      go false = refl

  fail-between : (q : Pile) → Throughout (Between p q) p (fail_stores p)
  unfolding fail_stores Throughout
  fail-between q = go (passed p)
    where
      go : (t : Bool) → Throughout (Between p q) p (cond t unpasses [])
      go true = unpasses-between p q
      go false = here p q

  -- The pile after a check, by its two tests
  abbrev checked : Bool → Bool → Piled
  checked b d =
      cond b (says (Err (Section Column (dented_column (layers_in p)))) (failing p))
      (cond d (says (Err (Section Row (dented_row (layers_in p)))) (failing p)) (says (Ok Done) (passing p)))

  check-leaves : stored_all p (stores_of p Check) ≡ (answer_of p Check).pile
  unfolding stores_of answer_of check_of
  check-leaves = go (ltb (dented_column (layers_in p)) side) (ltb (dented_row (layers_in p)) side)
    where
      go : (b d : Bool) → stored_all p (cond b (fail_stores p) (cond d (fail_stores p) passes)) ≡ (checked b d).pile
      go true d = fail-leaves
      go false true = fail-leaves
      go false false = passes-leave p f.state

  check-between : Throughout (Between p (answer_of p Check).pile) p (stores_of p Check)
  unfolding stores_of answer_of check_of
  check-between = go (ltb (dented_column (layers_in p)) side) (ltb (dented_row (layers_in p)) side)
    where
      go : (b d : Bool) → Throughout (Between p (checked b d).pile) p (cond b (fail_stores p) (cond d (fail_stores p) passes))
      go true d = fail-between _
      go false true = fail-between _
      go false false = passes-between p _ (passes-leave p f.state)

  -- The stores of a call leave the arrays that the call leaves
  pub stores-leave : (c : PileCall) → stored_all p (stores_of p c) ≡ (answer_of p c).pile
  unfolding stores_of answer_of set_of empty_of restore_of stored_all
  stores-leave (Set l o) =
      elim (dec_lt last_layer l) [
        | yes h ↦ rw (lt-ltb last_layer l h)
        | no h ↦ rw (le-ltb last_layer l (omega arith)) (set-leaves l o (omega arith) (verdict_of o))
      ]
  stores-leave (SetEmpty l) =
      elim (dec_lt last_layer l) [
        | yes h ↦ rw (lt-ltb last_layer l h)
        | no h ↦ rw (le-ltb last_layer l (omega arith)) (puts-leave p f l (omega arith) no_spans none-whole)
      ]
  stores-leave Check = check-leaves
  stores-leave (Query l x) = refl
  stores-leave (Restore l i) =
      elim (dec_lt last_layer l) [
        | yes h ↦ rw (lt-ltb last_layer l h)
        | no h ↦ rw (le-ltb last_layer l (omega arith)) (go (is_image i) _ _ (restore-leaves l (held_in i) (omega arith) (held_in i).letters))
      ]
    where
      go : (t : Bool) (ss : List Store) (x : Piled) → stored_all p ss ≡ x.pile → stored_all p (cond t ss []) ≡ (cond t x
          (says (Err Image) p)).pile
      go true ss x e = e
      go false ss x e = refl

  -- At each moment of a call every query gets the reply from before it, 12, or the reply from after it
  pub at-each-moment : (c : PileCall) → Throughout (Between p (answer_of p c).pile) p (stores_of p c)
  unfolding stores_of answer_of set_of empty_of restore_of Throughout
  at-each-moment (Set l o) =
      elim (dec_lt last_layer l) [
        | yes h ↦ rw (lt-ltb last_layer l h) (here p p)
        | no h ↦ rw (le-ltb last_layer l (omega arith)) (set-between l o (verdict_of o))
      ]
  at-each-moment (SetEmpty l) =
      elim (dec_lt last_layer l) [
        | yes h ↦ rw (lt-ltb last_layer l h) (here p p)
        | no h ↦ rw (le-ltb last_layer l (omega arith)) (puts-between p _ l no_spans)
      ]
  at-each-moment Check = check-between
  at-each-moment (Query l x) = here p p
  at-each-moment (Restore l i) =
      elim (dec_lt last_layer l) [
        | yes h ↦ rw (lt-ltb last_layer l h) (here p p)
        | no h ↦ rw (le-ltb last_layer l (omega arith)) (go (is_image i) _ _ (restore-between l (held_in i) (held_in i).letters))
      ]
    where
      go : (t : Bool) (ss : List Store) (x : Piled) → Throughout (Between p x.pile) p ss
          → Throughout (Between p (cond t x (says (Err Image) p)).pile) p (cond t ss [])
      go true ss x e = e
      go false ss x e = here p p

  -- ---- a section of a check in steps

  abbrev stepped_by : ℕ → Bool → Bool → Stepped
  stepped_by k b d =
      cond b (cond d (stepped None (with_state p (word_of p) (k + 1))) (stepped (Some (Ok Done)) (passing p)))
      (stepped (Some (dent_at k)) (ending p))

  abbrev step_stores_by : ℕ → Bool → Bool → List Store
  step_stores_by k b d = cond b (cond d (position (k + 1) ∷ []) passes) (cond (passed p) unpasses (position 0 ∷ []))

  ending-leaves : stored_all p (cond (passed p) unpasses (position 0 ∷ [])) ≡ ending p
  unfolding ending
  ending-leaves = go (passed p)
    where
      go : (t : Bool) → stored_all p (cond t unpasses (position 0 ∷ [])) ≡ with_state p (cond t 0 (word_of p)) 0
      go true = unpasses-leave p f.state
      go false = position-leaves p f.state 0

  ending-between : (q : Pile) → Throughout (Between p q) p (cond (passed p) unpasses (position 0 ∷ []))
  ending-between q = go (passed p)
    where
      go : (t : Bool) → Throughout (Between p q) p (cond t unpasses (position 0 ∷ []))
      go true = unpasses-between p q
      go false = position-between p q 0

  pub step-stores-leave : stored_all p (step_stores p) ≡ (step_of p).pile
  unfolding step_stores step_stores_at step_of step_at
  step-stores-leave = go (tested_at (position_of p)) (clear_at (layers_in p) (tested_at (position_of p))) (ltb (tested_at (position_of p)) 509)
    where
      go : (k : ℕ) (b d : Bool) → stored_all p (step_stores_by k b d) ≡ (stepped_by k b d).pile
      go k true true = position-leaves p f.state (k + 1)
      go k true false = passes-leave p f.state
      go k false d = ending-leaves

  pub at-each-moment-of-a-step : Throughout (Between p (step_of p).pile) p (step_stores p)
  unfolding step_stores step_stores_at step_of step_at
  at-each-moment-of-a-step =
      go (tested_at (position_of p)) (clear_at (layers_in p) (tested_at (position_of p))) (ltb (tested_at (position_of p)) 509)
    where
      go : (k : ℕ) (b d : Bool) → Throughout (Between p (stepped_by k b d).pile) p (step_stores_by k b d)
      go k true true = position-between p _ (k + 1)
      go k true false = passes-between p _ (passes-leave p f.state)
      go k false d = ending-between _

-- ---- after any calls from a fresh pile

pub moment-theorem : (ms : List Move) (c : PileCall)
    → Throughout (Between (pile_of ms) (answer_of (pile_of ms) c).pile) (pile_of ms) (stores_of (pile_of ms) c)
moment-theorem ms c = at-each-moment (pile_of ms) (pile-fits ms) c

pub step-moment-theorem : (ms : List Move)
    → Throughout (Between (pile_of ms) (step_of (pile_of ms)).pile) (pile_of ms) (step_stores (pile_of ms))
step-moment-theorem ms = at-each-moment-of-a-step (pile_of ms) (pile-fits ms)
