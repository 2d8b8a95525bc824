-- The outline in a slot: each case of the definitions, from the numbers in the arrays.
use Rattle.std.specs.Prelude.{Ok, Err}
use Prim.Native.Nat.{ℕ, ◌+◌, ◌*◌, ◌≤◌, ◌<◌, min}
use native.Mathlib.Omega.{arith}
use mathlib.Core.Path.{◌≡◌, refl, sym, ap, ap₂, ◌∙◌}
use mathlib.Core.Bool.{Bool, true, false, cond, ◌&&◌}
use mathlib.Core.List.{List}
use lib.ListN.{take, drop, get_or}
use lib.Seq.{take-take}
use lib.IntN.{ℤ}
use lib.Dec.{leb}
use borrow.Author.Tests.{le-leb, lt-leb, leb-false, lt-ltb, le-ltb}
use Rattle.chart.specs.Limits.{side, most_numbers}
use Rattle.chart.specs.Outline.{at}
use Rattle.chart.specs.declared.Point.{Point}
use Rattle.chart.specs.declared.Refusal.TheVariants.{Cell, NothingAtWork}
use Rattle.base.specs.Same.{sameℤs}
use Rattle.base.proofs.BelowLaws.{or-false-iff}
use Rattle.lattice.specs.Chart.{same_point}
use Rattle.polygon.specs.Loose.{bad_cell}
use Rattle.spans.specs.declared.Spans.{Spans}
use Rattle.spans.specs.Spans.{in_spans, span_at, span_reply}
use Rattle.readings.specs.Located.{located_of}
use Rattle.readings.specs.Replies.{located_reply}
use Rattle.drawing.specs.Drawing.{stroke_at}
use Rattle.drawing.specs.Points.{drawn_reply}
use Rattle.calls.specs.declared.Reading.{Reading}
use Rattle.calls.specs.declared.Answer.TheVariants.{Inside, Outside}
use Rattle.holder_records.specs.Work.{Work, listed, work_edges, has_edges, located, spanned, read_at, drawn_at}
use Rattle.windows.specs.Windows.{window}
use Rattle.span_list.specs.SpanList.{spans_at}
use Rattle.holder_memory.specs.Layout.{slots, slot_head, work_at}

cond_yes : {A : Type 0} {b : Bool} (x y : A) → b ≡ true → cond b x y ≡ x
cond_yes x y e = rw e

cond_no : {A : Type 0} {b : Bool} (x y : A) → b ≡ false → cond b x y ≡ y
cond_no x y e = rw e

-- ---- a slot below ten has an outline

module _ (rows : List ℕ) (numbers : List ℤ) (heads : List ℕ) (s : ℕ) where
  idle : slots ≤ s → (work_at rows numbers heads s).taken ≡ false
  unfolding work_at
  idle e = le-ltb s slots e

  busy : s < slots → (work_at rows numbers heads s).taken ≡ true
  unfolding work_at
  busy e = lt-ltb s slots e

-- ---- the definitions

module _ (w : Work) where
  located-none : (x : Point) → w.taken ≡ false → located w x ≡ Err NothingAtWork
  unfolding located
  located-none x e = cond_no _ _ e

  located-bad : (x : Point) → w.taken ≡ true → bad_cell x ≡ true → located w x ≡ Err Cell
  unfolding located
  located-bad x e b = cond_yes _ _ e ∙ cond_yes _ _ b

  located-in : (x : Point) → w.taken ≡ true → bad_cell x ≡ false → in_spans w.spans x.col x.row ≡ true → located w x ≡ Ok Inside
  unfolding located
  located-in x e b i = cond_yes _ _ e ∙ cond_no _ _ b ∙ cond_yes _ _ i

  located-out : (x : Point) → w.taken ≡ true → bad_cell x ≡ false → in_spans w.spans x.col x.row ≡ false → located w x ≡ Ok Outside
  unfolding located
  located-out x e b i = cond_yes _ _ e ∙ cond_no _ _ b ∙ cond_no _ _ i

pub row-on-chart : (x : Point) → bad_cell x ≡ false → x.row < side
unfolding bad_cell
row-on-chart x e = leb-false side x.row ((or-false-iff (leb side x.col) (leb side x.row)).0 e).1

-- ---- on the arrays

module _ (rows : List ℕ) (numbers : List ℤ) (heads : List ℕ) (s : ℕ) where
  spans-are : (work_at rows numbers heads s).spans ≡ spans_at rows s
  unfolding work_at
  spans-are = refl

  pub query-none : (x : Point) → slots ≤ s → Err NothingAtWork ≡ located (work_at rows numbers heads s) x
  query-none x e = sym (located-none _ x (idle rows numbers heads s e))

  module _ (x : Point) (e : s < slots) where
    pub query-bad : bad_cell x ≡ true → Err Cell ≡ located (work_at rows numbers heads s) x
    query-bad b = sym (located-bad _ x (busy rows numbers heads s e) b)

    module _ (b : bad_cell x ≡ false) where
      pub query-in : in_spans (spans_at rows s) x.col x.row ≡ true → Ok Inside ≡ located (work_at rows numbers heads s) x
      query-in i = sym (located-in _ x (busy rows numbers heads s e) b (rw spans-are i))

      pub query-out : in_spans (spans_at rows s) x.col x.row ≡ false → Ok Outside ≡ located (work_at rows numbers heads s) x
      query-out i = sym (located-out _ x (busy rows numbers heads s e) b (rw spans-are i))

  pub row-none : (r : ℕ) → slots ≤ s → Err NothingAtWork ≡ spanned (work_at rows numbers heads s) r
  unfolding spanned
  row-none r e = sym (cond_no _ _ (idle rows numbers heads s e))

  module _ (r : ℕ) (e : s < slots) where
    pub row-bad : side ≤ r → Err Cell ≡ spanned (work_at rows numbers heads s) r
    unfolding spanned
    row-bad h = sym (cond_yes _ _ (busy rows numbers heads s e) ∙ cond_yes _ _ (le-leb side r h))

    pub row-span : r < side → span_reply (span_at (spans_at rows s) r) ≡ spanned (work_at rows numbers heads s) r
    unfolding spanned
    row-span h =
        sym (cond_yes _ _ (busy rows numbers heads s e) ∙ cond_no _ _ (lt-leb side r h)
        ∙ ap (λ (x : Spans). span_reply (span_at x r)) spans-are)

  -- ---- the anchor and the edges

  abbrev work : Work
  work = work_at rows numbers heads s

  pub anchor-is : at (get_or heads (slot_head s) 0) (get_or heads (slot_head s + 1) 0) ≡ work.anchor
  unfolding work_at
  anchor-is = refl

  edges_are : listed (window (most_numbers * s) most_numbers numbers) (get_or heads (slot_head s + 2) 0) ≡ work_edges work
  unfolding work_edges work_at
  edges_are = refl

  pub reading-none : (x : Reading) → slots ≤ s → Err NothingAtWork ≡ read_at work x
  unfolding read_at
  reading-none x e = sym (cond_no _ _ (idle rows numbers heads s e))

  pub piece-none : (n : ℕ) → slots ≤ s → Err NothingAtWork ≡ drawn_at work n
  unfolding drawn_at
  piece-none n e = sym (cond_no _ _ (idle rows numbers heads s e))

  module _ (e : s < slots) (a : Point) (anchor : a ≡ work.anchor) (l : List ℤ) (edges : l ≡ work_edges work) where
    pub reading-here : (x : Reading) → located_reply (located_of a l x) ≡ read_at work x
    unfolding read_at
    reading-here x = rw (anchor, edges, busy rows numbers heads s e)

    pub piece-here : (n : ℕ) → drawn_reply (stroke_at a l n) ≡ drawn_at work n
    unfolding drawn_at
    piece-here n = rw (anchor, edges, busy rows numbers heads s e)

    -- ---- the same block

    pub has_here : (b : Point) (es : List ℤ) (t : Bool) → t ≡ (same_point a b && sameℤs l es) → t ≡ has_edges work b es
    unfolding has_edges
    has_here b es t q =
        q ∙ ap₂ (λ (x : Point) (m : List ℤ). same_point x b && sameℤs m es) anchor edges
        ∙ sym (ap (λ (u : Bool). u && (same_point work.anchor b && sameℤs (work_edges work) es)) (busy rows numbers heads s e))

  pub has-none : (b : Point) (es : List ℤ) → slots ≤ s → false ≡ has_edges work b es
  unfolding has_edges
  has-none b es e = rw (idle rows numbers heads s e)

-- The first numbers of a window are those of the list from the window's start
edges-window : (numbers : List ℤ) (s e n : ℕ) → n ≡ min (2 * e) most_numbers
    → take n (drop (most_numbers * s) numbers) ≡ listed (window (most_numbers * s) most_numbers numbers) e
unfolding listed
edges-window numbers s e n h = rw h (sym (take-take (min (2 * e) most_numbers) most_numbers (drop (most_numbers * s) numbers) (omega arith)))

pub edges-found : (rows : List ℕ) (numbers : List ℤ) (heads : List ℕ) (s w n : ℕ) → w ≡ get_or heads (slot_head s + 2) 0
    → n ≡ min (2 * w) most_numbers → take n (drop (most_numbers * s) numbers) ≡ work_edges (work_at rows numbers heads s)
edges-found rows numbers heads s w n e h =
    edges-window numbers s w n h ∙ ap (listed (window (most_numbers * s) most_numbers numbers)) e ∙ edges_are rows numbers heads s
