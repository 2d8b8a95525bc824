-- The two halves of a slot are windows of the list, so a copy into both sets the slot and leaves every other slot unchanged.
use Prim.Native.Nat.{ℕ, ◌+◌, ◌-◌, ◌*◌, ◌≤◌, ◌<◌}
use native.Mathlib.Omega.{arith}
use mathlib.Core.Path.{◌≡◌, refl, sym, ap, ap₂, ◌∙◌}
use mathlib.Core.Bool.{◌&&◌}
use mathlib.Core.Logic.{⊎_elim}
use mathlib.Core.List.{List}
use lib.ListN.{length, drop, get_or, replicate, length-replicate}
use borrow.Rule.Slice.PartMut.{put_mid}
use Rattle.std.proofs.lemmas.Slice.{put_mid-paste}
use lib.Seq.{get_or-take, get_or-drop, paste, length-paste}
use lib.Dec.{leb, ltb}
use borrow.Author.Tests.{le-leb, lt-leb, lt-ltb}
use Rattle.chart.specs.Limits.{side}
use Rattle.chart.specs.Outline.{Outline}
use Rattle.rows.specs.parts.Rows.{rows as row_of}
use Rattle.spans.specs.declared.Spans.{Spans}
use Rattle.spans.specs.Spans.{no_spans, spans_of, in_spans, span_from, span_at}
use Rattle.spans.proofs.Tables.{length-table}
use Rattle.windows.specs.Windows.{window}
use Rattle.windows.proofs.Slots.{window-paste, window-paste-before, window-paste-after, order}
use Rattle.windows.proofs.Fills.{window-replicate}
use Rattle.span_list.specs.declared.Ends.{Ends}
use Rattle.span_list.specs.SpanList.{slot_bytes, spans_at, rows_put, SpansPut, ends_at}

-- ---- read

module _ (rows : List ℕ) (s : ℕ) where
  pub first-at : (r : ℕ) → r < side → row_of (spans_at rows s).first r ≡ get_or rows (slot_bytes * s + r) 0
  unfolding spans_at
  first-at r h = get_or-take side (drop (slot_bytes * s) rows) r 0 h ∙ get_or-drop (slot_bytes * s) rows r 0

  pub past-at : (r : ℕ) → r < side → row_of (spans_at rows s).past r ≡ get_or rows (slot_bytes * s + r + side) 0
  unfolding spans_at
  past-at r h = get_or-take side (drop (slot_bytes * s + side) rows) r 0 h ∙ get_or-drop (slot_bytes * s + side) rows r 0
      ∙ ap (λ (i : ℕ). get_or rows i 0) (omega arith)

  -- From the two bytes of a row
  module _ (r : ℕ) (h : r < side) (e : Ends) (is : e ≡ ends_at rows s r) where
    within-ends : (c : ℕ) → in_spans (spans_at rows s) c r ≡ (leb e.first c && ltb c e.past)
    unfolding in_spans ends_at
    within-ends c = rw (is, lt-ltb r side h, first-at r h, past-at r h)

    pub within-right : (c : ℕ) → e.first ≤ c → ltb c e.past ≡ in_spans (spans_at rows s) c r
    within-right c l = sym (within-ends c ∙ rw (le-leb e.first c l))

    pub within-left : (c : ℕ) → c < e.first → leb e.first c ≡ in_spans (spans_at rows s) c r
    within-left c l = sym (within-ends c ∙ rw (lt-leb e.first c l))

    pub span-ends : span_at (spans_at rows s) r ≡ span_from e.first e.past
    unfolding span_at ends_at
    span-ends = rw (is, lt-leb side r h, first-at r h, past-at r h)

-- ---- written

module _ (rows : List ℕ) (s : ℕ) (x : Spans) (room : slot_bytes * s + slot_bytes ≤ length rows) (left : length x.first ≡ side)
    (right : length x.past ≡ side) where
  abbrev rows₁ : List ℕ
  rows₁ = paste rows (slot_bytes * s) x.first side

  abbrev rows₂ : List ℕ
  rows₂ = paste rows₁ (slot_bytes * s + side) x.past side

  room₁ : slot_bytes * s + side ≤ length rows
  room₁ = omega arith

  size₁ : length rows₁ ≡ length rows
  size₁ = length-paste rows (slot_bytes * s) x.first side room₁ (omega arith)

  room₂ : slot_bytes * s + side + side ≤ length rows₁
  room₂ = omega (arith, size₁)

  before : (b : ℕ) → b + side ≤ slot_bytes * s → window b side rows₂ ≡ window b side rows
  before b k =
      window-paste-before rows₁ (slot_bytes * s + side) side x.past room₂ right b side (omega arith)
      ∙ window-paste-before rows (slot_bytes * s) side x.first room₁ left b side k

  after : (b : ℕ) → slot_bytes * s + slot_bytes ≤ b → window b side rows₂ ≡ window b side rows
  after b k =
      window-paste-after rows₁ (slot_bytes * s + side) side x.past room₂ right b side (omega arith)
      ∙ window-paste-after rows (slot_bytes * s) side x.first room₁ left b side (omega arith)

  halves-put : SpansPut rows rows₂ s x
  unfolding spans_at
  halves-put =
      record {
        here =
            ap₂ (λ (a b : List ℕ). record { first = a; past = b })
            (window-paste-before rows₁ (slot_bytes * s + side) side x.past room₂ right (slot_bytes * s) side (omega arith)
            ∙ window-paste rows (slot_bytes * s) side x.first room₁ left)
            (window-paste rows₁ (slot_bytes * s + side) side x.past room₂ right);
        elsewhere = λ j q.
            ⊎_elim (λ o. rw (before (slot_bytes * j) (omega arith), before (slot_bytes * j + side) (omega arith)))
            (λ o. rw (after (slot_bytes * j) (omega arith), after (slot_bytes * j + side) (omega arith))) (order j s q);
        size = length-paste rows₁ (slot_bytes * s + side) x.past side room₂ (omega arith) ∙ size₁;
      }

  -- From what each copy left
  pub copies-put : (r₁ : List ℕ) → r₁ ≡ paste rows (slot_bytes * s) x.first side → (r₂ : List ℕ)
      → r₂ ≡ paste r₁ (slot_bytes * s + side) x.past side → SpansPut rows r₂ s x
  copies-put r₁ e₁ r₂ e₂ = rw (e₂, e₁) halves-put

-- The list that two writes leave, one to each half of the slot
pub halves-written : (rows : List ℕ) (s : ℕ) (x : Spans) (a b : List ℕ) → a ≡ x.first → length x.first ≡ side → b ≡ x.past
    → length x.past ≡ side →
    let at = slot_bytes * s in
    put_mid (at + side) (at + slot_bytes - (at + side)) (put_mid at (at + side - at) rows a) b ≡ rows_put rows s x
halves-written rows s x a b e l f m =
    let at = slot_bytes * s in
    put_mid-paste (at + side) (at + slot_bytes - (at + side)) (put_mid at (at + side - at) rows a) b x.past side f (omega arith) (sym m)
    ∙ ap (λ (l : List ℕ). paste l (at + side) x.past side)
    (put_mid-paste at (at + side - at) rows a x.first side e (omega arith) (sym l))

-- Spans have a number for each row in both lists: those of an outline do, and those of no cell
pub record Whole (x : Spans) : Type 0 where
  pub first : length x.first ≡ side
  pub past : length x.past ≡ side

pub outline-whole : (o : Outline) → Whole (spans_of o)
unfolding spans_of
outline-whole o = record { first = length-table _ 0 side; past = length-table _ 0 side }

pub none-whole : Whole no_spans
unfolding no_spans
none-whole = record { first = length-replicate {A = ℕ} side 0; past = length-replicate {A = ℕ} side 0 }

pub spans-put : (rows : List ℕ) (s : ℕ) (x : Spans) → slot_bytes * s + slot_bytes ≤ length rows → Whole x → (rows' : List ℕ)
    → rows' ≡ rows_put rows s x → SpansPut rows rows' s x
spans-put rows s x room w rows' e = copies-put rows s x room w.first w.past _ refl rows' e

-- A list of zeros has no cell in any slot
pub zeros-none : (s n : ℕ) → slot_bytes * s + slot_bytes ≤ n → spans_at (replicate n 0) s ≡ no_spans
unfolding spans_at no_spans
zeros-none s n h =
    rw (
      window-replicate {A = ℕ} (slot_bytes * s) side n 0 (omega arith),
      window-replicate {A = ℕ} (slot_bytes * s + side) side n 0 (omega arith),
    )
