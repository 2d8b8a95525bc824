-- The arrays and the model stay in step: each layer has its outline's cells, and both know whether the last check passed.
use Rattle.std.specs.Prelude.{Result, Ok, Err}
use Prim.Native.Nat.{ℕ, zero, suc, ◌≤◌, ◌<◌}
use native.Mathlib.Nat.{zero-add}
use native.Mathlib.Decide.{dec_lt, ℕ_discrete}
use native.Mathlib.Omega.{arith}
use mathlib.Core.Path.{◌≡◌, refl, sym, ap, ◌∙◌}
use mathlib.Core.Bool.{Bool, true, false, true≢false, cond}
use mathlib.Core.Option.{Option, none, some}
use mathlib.Core.List.{List, [], ◌∷◌}
use lib.ListN.{length, get_or, set, replicate, length-replicate, get_or-replicate, get_or-eq_default}
use lib.Seq.{get_or-set_same, get_or-set_other}
use lib.Dec.{leb, ltb}
use borrow.Author.Tests.{lt-ltb, le-ltb, ltb-true}
use Rattle.base.proofs.PutLaws.{put-here, put-elsewhere}
use Rattle.base.proofs.BelowLaws.{and_right, not-held}
use Rattle.chart.specs.Limits.{side}
use Rattle.chart.specs.declared.Point.{Point}
use Rattle.chart.specs.declared.Refusal.{Refusal}
use Rattle.chart.specs.declared.Taken.{Taken}
use Rattle.chart.specs.Taken.{taken_with}
use Rattle.chart.specs.Outline.{Outline}
use Rattle.chart.specs.Fields.{verdict_fields}
use Rattle.chart.specs.declared.Refusal.TheVariants.{Cell, NothingAtWork, Section, Image}
use Rattle.chart.specs.declared.SectionKind.TheVariants.{Column, Row}
use Rattle.chart.proofs.TakenLaws.{verdict_number}
use Rattle.rows.specs.parts.Rows.{rows}
use Rattle.verdict.specs.Verdict.{verdict_of}
use Rattle.verdict.proofs.VerdictLaws.{TakenFacts, taken-facts}
use Rattle.verdict.proofs.Convex.{taken-iff-convex}
use Rattle.polygon.specs.Loose.{bad_cell}
use Rattle.images.specs.Image.{is_image, held_in}
use Rattle.spans.specs.declared.Spans.{Spans}
use Rattle.spans.specs.Spans.{no_spans, spans_of, in_spans}
use Rattle.spans.proofs.Exact.{spans-exact, past-le}
use Rattle.windows.specs.Windows.{slots_from}
use Rattle.windows.proofs.Slots.{slots_set}
use Rattle.span_list.specs.SpanList.{spans_at, rows_put, SpansPut}
use Rattle.span_list.proofs.SlotLaws.{Whole, outline-whole, none-whole, spans-put, zeros-none}
use Rattle.sections.specs.Sections.{layers, last_layer}
use Rattle.pile_sections.specs.Sections.{column_clear, row_clear, dented_column, dented_row}
use Rattle.pile_sections.proofs.RunLaws.{Decided}
use Rattle.pile_replies.specs.Replies.{PileReply}
use Rattle.pile_replies.specs.declared.PileAnswer.TheVariants.{Done, Inside, Outside}
use Rattle.pile_replies.specs.Replies.{set_reply}
use Rattle.pile_model.specs.Calls.{PileCall, Set, SetEmpty, Check, Query, Restore}
use Rattle.pile_sections.specs.Meaning.{AllConvex, CheckedBy, passes, column, row}
use Rattle.pile_sections.proofs.CheckLaws.{column-said, row-said, none_said}
use Rattle.pile_model.specs.Book.{Layers, PileBook, fresh, put_layer, marks, column_marks, row_marks, Checked, NoneDented}
use Rattle.pile_model.specs.Book.{located, queried, restored_reply, restored, Answers, set_book, restored_book, is_done, next}
use Rattle.pile_model.proofs.Sections.{KeptAs, AllKept, column-decided, row-decided}
use Rattle.live_sections.specs.Layers.{layer_bytes, layers_of}
use Rattle.live_sections.proofs.LayerLaws.{layer-read}
use Rattle.pile_calls.specs.declared.Pile.{Pile}
use Rattle.pile_calls.specs.declared.Piled.{Piled}
use Rattle.pile_calls.specs.Arrays.{says, layers_in, passed, with_state, layer_put, passing, failing}
use Rattle.pile_calls.specs.Arrays.{set_as, set_of, empty_of, check_of, query_of, restored_as, restore_of, answer_of, fresh_pile}

-- ---- how a layer is kept

zeros : (n r : ℕ) → ◌≡◌ {A = ℕ} (get_or (replicate n 0) r 0) 0
zeros n r =
    elim (dec_lt r n) [
      | yes l ↦ get_or-replicate {A = ℕ} n r 0 0 l
      | no l ↦ get_or-eq_default (replicate n 0) 0 (omega (arith, length-replicate {A = ℕ} n 0))
    ]

kept-nothing : (s : Spans) → ((r : ℕ) → rows s.past r ≡ 0) → KeptAs none s
unfolding marks in_spans
kept-nothing s h =
    record {
      exact = λ c r.
          not-held (in_spans s c r) (λ e.
          let k =
          ltb-true c (rows s.past r) (and_right (leb (rows s.first r) c) (ltb c (rows s.past r)) (and_right (ltb r side) _ e))
          in
          omega (arith, h r));
      whole = λ x m. true≢false (sym m.hull.p_marked);
      fits = λ r. omega (arith, h r);
    }

kept-none : KeptAs none no_spans
unfolding no_spans
kept-none = kept-nothing no_spans (λ r. zeros side r)

kept-some : (o : Outline) (n : ℕ) (a : Point) → verdict_of o ≡ taken_with n a → KeptAs (some o) (spans_of o)
unfolding marks
kept-some o n a e =
    let f : TakenFacts o n a = taken-facts o n a e in
    record {
      exact = spans-exact o f.reaches;
      whole = (taken-iff-convex o f.reaches.simple).0 (ap verdict_number e);
      fits = past-le o;
    }

-- ---- the layers in the rows

length-slots : {A : Type 0} (f : ℕ → A) (i n : ℕ) → length (slots_from f i n) ≡ n
unfolding slots_from
length-slots f i zero = refl
length-slots f i (suc n) = ap suc (length-slots f (suc i) n)

pub layers-size : (rows : List ℕ) → length (layers_of rows) ≡ layers
unfolding layers_of
layers-size rows = length-slots (spans_at rows) 0 layers

module _ (rows : List ℕ) (size : length rows ≡ layer_bytes) (l : ℕ) (h : l < layers) (x : Spans) (w : Whole x) where
  slot-put : SpansPut rows (rows_put rows l x) l x
  slot-put = spans-put rows l x (omega (arith, size)) w _ refl

  layers-put : layers_of (rows_put rows l x) ≡ set (layers_of rows) l x
  unfolding layers_of
  layers-put =
      slots_set (spans_at rows) (spans_at (rows_put rows l x)) 0 layers l x h
      (ap (spans_at (rows_put rows l x)) (zero-add l) ∙ slot-put.here) (λ j q. slot-put.elsewhere j (λ e. q (e ∙ sym (zero-add l))))

-- ---- in step

pub record InStep (b : PileBook) (p : Pile) : Type 0 where
  pub size : length p.rows ≡ layer_bytes
  pub kept : AllKept b.layers (layers_in p)
  pub same : passed p ≡ b.passed
  -- a pile that has passed has no dented section
  pub whole : b.passed ≡ true → NoneDented b.layers

pub step-fresh : InStep fresh fresh_pile
unfolding fresh fresh_pile
step-fresh =
    record {
      size = length-replicate {A = ℕ} layer_bytes 0;
      kept = λ l.
          elim (dec_lt l layers) [
            | yes h ↦ rw (layer-read (replicate layer_bytes 0) l h, zeros-none l layer_bytes (omega arith)) kept-none
            | no h ↦
                rw (get_or-eq_default (layers_of (replicate layer_bytes 0)) (record { first = []; past = [] }) {n = l}
                (omega (arith, layers-size (replicate layer_bytes 0)))) (kept-nothing (record { first = []; past = [] }) (λ r. refl))
          ];
      same = refl;
      whole = λ e. absurd (true≢false (sym e));
    }

-- What a check leaves: the rows, and the word if the reply is done
fail-state : (p : Pile) → ((failing p).rows ≡ p.rows) × (passed (failing p) ≡ false)
unfolding failing
fail-state p = go (passed p) refl
  where
    go : (t : Bool) → passed p ≡ t
        → ((cond t (with_state p 0 0) p).rows ≡ p.rows) × (passed (cond t (with_state p 0 0) p) ≡ false)
    go true e = (refl, refl)
    go false e = (refl, e)

pub check-keeps : (p : Pile) → ((check_of p).pile.rows ≡ p.rows) × (passed (check_of p).pile ≡ is_done (check_of p).reply)
unfolding check_of is_done
check-keeps p = go (ltb (dented_column (layers_in p)) side) (ltb (dented_row (layers_in p)) side)
  where
    replied : Bool → Bool → Piled
    replied b d =
        cond b (says (Err (Section Column (dented_column (layers_in p)))) (failing p))
        (cond d (says (Err (Section Row (dented_row (layers_in p)))) (failing p)) (says (Ok Done) (passing p)))

    go : (b d : Bool) → ((replied b d).pile.rows ≡ p.rows) × (passed (replied b d).pile ≡ is_done (replied b d).reply)
    go true d = fail-state p
    go false true = fail-state p
    go false false = (refl, refl)

check-said : (columns rows : ℕ → ℕ → ℕ → Bool) (p : Pile) → ((c : ℕ) → c < side → Decided (column_clear (layers_in p) c) (columns c))
    → ((r : ℕ) → r < side → Decided (row_clear (layers_in p) r) (rows r)) → CheckedBy columns rows (check_of p).reply
unfolding check_of
check-said columns rows p by-column by_Row =
    elim (dec_lt (dented_column ls) side) [
      | yes h ↦ rw (lt-ltb (dented_column ls) side h) (column-said columns rows ls by-column h)
      | no h ↦
          let clear : side ≤ dented_column ls = omega arith in
          elim (dec_lt (dented_row ls) side) [
            | yes k ↦
                rw (le-ltb (dented_column ls) side clear, lt-ltb (dented_row ls) side k)
                (row-said columns rows ls by-column clear (λ r i j. by_Row r i) k)
            | no k ↦
                let none : side ≤ dented_row ls = omega arith in
                rw (le-ltb (dented_column ls) side clear, le-ltb (dented_row ls) side none)
                (none_said columns rows ls by-column clear (λ r i j. by_Row r i) none)
          ]
    ]
  where
    ls : List Spans
    ls = layers_in p

pub checked-done : {columns rows : ℕ → ℕ → ℕ → Bool} (r : PileReply) → CheckedBy columns rows r → is_done r ≡ true → AllConvex columns rows
unfolding is_done
checked-done r (passes cs rs) e = record { at_columns = cs; at_rows = rs }
checked-done r (column c h d f) e = absurd (true≢false (sym e))
checked-done r (row i h cs d f) e = absurd (true≢false (sym e))

pub done-checked : {columns rows : ℕ → ℕ → ℕ → Bool} (r : PileReply) → CheckedBy columns rows r → AllConvex columns rows → r ≡ Ok Done
done-checked r (passes cs rs) a = refl
done-checked r (column c h (x, m) f) a = absurd (a.at_columns c h x m)
done-checked r (row i h cs (x, m) f) a = absurd (a.at_rows i h x m)

module _ (b : PileBook) (p : Pile) (t : InStep b p) where
  step-put : (l : ℕ) (v : Option Outline) (x : Spans) → l ≤ last_layer → Whole x → KeptAs v x → InStep (put_layer b l v) (layer_put p l x)
  unfolding put_layer
  step-put l v x h w k =
      let near : l < layers = omega arith in
      let size : length (layers_in p) ≡ layers = layers-size p.rows in
      record {
        size = (slot-put p.rows t.size l near x w).size ∙ t.size;
        kept = λ i.
            elim (ℕ_discrete i l) [
              | yes e ↦
                  rw (
                    e,
                    layers-put p.rows t.size l near x w,
                    put-here b.layers l v,
                    get_or-set_same (layers_in p) l x (record { first = []; past = [] }) (omega (arith, size)),
                  ) k
              | no e ↦
                  rw (
                    layers-put p.rows t.size l near x w,
                    put-elsewhere b.layers l v i e,
                    get_or-set_other (layers_in p) l i x (record { first = []; past = [] }) e,
                  ) (t.kept i)
            ];
        same = refl;
        whole = λ e. absurd (true≢false (sym e));
      }

  -- ---- the calls

  set-verdict : (l : ℕ) (o : Outline) → l ≤ last_layer → (v : Result Taken Refusal) → verdict_of o ≡ v
      → ((set_as p l o v).reply ≡ set_reply v) × InStep (set_book b l o v) (set_as p l o v).pile
  unfolding set_as set_book set_reply
  set-verdict l o h (Err f) e = (refl, t)
  set-verdict l o h (Ok t) e = (refl, step-put l (some o) (spans_of o) h (outline-whole o) (kept-some o t.edges t.anchor e))

  step_set : (l : ℕ) (o : Outline)
      → Answers b (Set l o) (set_of p l o).reply × InStep (next b (Set l o) (set_of p l o).reply) (set_of p l o).pile
  unfolding Answers next set_of
  step_set l o =
      elim (dec_lt last_layer l) [
        | yes h ↦ rw (lt-ltb last_layer l h) (refl, t)
        | no h ↦ rw (le-ltb last_layer l (omega arith)) (set-verdict l o (omega arith) (verdict_of o) refl)
      ]

  step-empty : (l : ℕ) → Answers b (SetEmpty l) (empty_of p l).reply × InStep (next b (SetEmpty l) (empty_of p l).reply) (empty_of p l).pile
  unfolding Answers next empty_of
  step-empty l =
      elim (dec_lt last_layer l) [
        | yes h ↦ rw (lt-ltb last_layer l h) (refl, t)
        | no h ↦ rw (le-ltb last_layer l (omega arith)) (refl, step-put l none no_spans (omega arith) none-whole kept-none)
      ]

  restore-letters : (l : ℕ) (o : Outline) → l ≤ last_layer → (w : List ℕ)
      → ((restored_as p l o w).reply ≡ restored_reply o w) × InStep (restored_book b l o w) (restored_as p l o w).pile
  unfolding restored_as restored_reply restored_book
  restore-letters l o h [] = (refl, step-put l none no_spans h none-whole kept-none)
  restore-letters l o h (a ∷ w) = set-verdict l o h (verdict_of o) refl

  step-restore : (l : ℕ) (bytes : List ℕ)
      → Answers b (Restore l bytes) (restore_of p l bytes).reply
      × InStep (next b (Restore l bytes) (restore_of p l bytes).reply) (restore_of p l bytes).pile
  unfolding Answers next restored restore_of
  step-restore l bytes =
      elim (dec_lt last_layer l) [
        | yes h ↦ rw (lt-ltb last_layer l h) (refl, t)
        | no h ↦ rw (le-ltb last_layer l (omega arith))
            (go (is_image bytes) (restore-letters l (held_in bytes) (omega arith) (held_in bytes).letters))
      ]
    where
      go : (i : Bool) {x : Piled} {r : PileReply} {c : PileBook} → (x.reply ≡ r) × InStep c x.pile
          → ((cond i x (says (Err Image) p)).reply ≡ cond i r (Err Image)) × InStep (cond i c b)
          (cond i x (says (Err Image) p)).pile
      go true s = s
      go false s = (refl, t)

  pub said : Checked b.layers (check_of p).reply
  said =
      check-said (column_marks b.layers) (row_marks b.layers) p
      (λ c h. column-decided b.layers (layers_in p) (layers-size p.rows) t.kept c)
      (row-decided b.layers (layers_in p) (layers-size p.rows) t.kept)

  pub step-check : Answers b Check (check_of p).reply × InStep (next b Check (check_of p).reply) (check_of p).pile
  unfolding Answers next
  step-check =
      let (same_rows, same_outcome) = check-keeps p in (
        said,
        record {
          size = ap length same_rows ∙ t.size;
          kept = rw same_rows t.kept;
          same = same_outcome;
          whole = checked-done (check_of p).reply said;
        },
      )

  pub step-query : (l : ℕ) (x : Point) → query_of p l x ≡ queried b l x
  unfolding query_of queried located
  step-query l x =
      elim (dec_lt last_layer l) [
        | yes h ↦ rw (lt-ltb last_layer l h)
        | no h ↦
            rw (t.same, le-ltb last_layer l (omega arith), ← layer-read p.rows l (omega arith))
            (ap (λ (v : Bool). cond b.passed (cond (bad_cell x) (Err Cell) (cond v (Ok Inside) (Ok Outside))) (Err NothingAtWork))
            ((t.kept l).exact x.col x.row))
      ]

-- Each call's reply is the model's, and the two stay in step
pub call-agrees : (b : PileBook) (p : Pile) → InStep b p → (c : PileCall)
    → Answers b c (answer_of p c).reply × InStep (next b c (answer_of p c).reply) (answer_of p c).pile
unfolding answer_of Answers next
call-agrees b p t (Set l o) = step_set b p t l o
call-agrees b p t (SetEmpty l) = step-empty b p t l
call-agrees b p t Check = step-check b p t
call-agrees b p t (Query l x) = (step-query b p t l x, t)
call-agrees b p t (Restore l bytes) = step-restore b p t l bytes
