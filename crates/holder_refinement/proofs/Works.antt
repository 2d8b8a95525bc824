-- A work represents the model's: its flag says whether there is one, and its anchor, edges and rows are
-- those of the model's outline, which was taken. So edges and rows decide for the outline's cells, and two
-- taken outlines enclose the same cells exactly if they have the same anchor and edges.
use Rattle.std.specs.Prelude.{Result, Ok, Err}
use Prim.Native.Nat.{ℕ, ◌*◌, min}
use native.Mathlib.Omega.{arith}
use mathlib.Core.Path.{◌≡◌, refl, sym, ap, ◌∙◌}
use mathlib.Core.Bool.{Bool, true, false, cond, ◌&&◌, true≢false, and-eq-true_iff}
use mathlib.Core.Option.{Option, none, some}
use mathlib.Core.List.{List}
use lib.ListN.{length, drop, replicate}
use lib.Seq.{take_at}
use lib.IntN.{ℤ, pos}
use Rattle.base.specs.Same.{sameℤs}
use Rattle.base.proofs.BelowLaws.{same_test}
use Rattle.base.proofs.Same.{same-ℤs-iff}
use Rattle.chart.specs.Limits.{most_numbers}
use Rattle.chart.specs.Outline.{Outline}
use Rattle.chart.specs.declared.Point.{Point}
use Rattle.chart.specs.declared.Refusal.{Refusal}
use Rattle.chart.specs.declared.Taken.{Taken}
use Rattle.chart.specs.Taken.{taken_with}
use Rattle.lattice.specs.Chart.{same_point}
use Rattle.lattice.proofs.WalkLaws.{same_point-true, same-point-self}
use Rattle.convexity.specs.Clockwise.{border}
use Rattle.convexity.specs.Pieces.{edges, dent_piece, Reaches}
use Rattle.convexity.specs.SameBlock.{SameEdges}
use Rattle.convexity.proofs.Bounds.{edges-length}
use Rattle.convexity.proofs.SameBlock.{same-cells-iff}
use Rattle.spans.specs.Spans.{spans_of}
use Rattle.spans.proofs.Exact.{spans-search, spans-exact}
use Rattle.verdict.specs.Verdict.{verdict_of, buffer_after}
use Rattle.verdict.proofs.VerdictLaws.{TakenFacts, taken-facts, taken-fits}
use Rattle.calls.specs.declared.Question.{Question}
use Rattle.calls.specs.declared.Question.TheVariants.{Cell as OfCell, Row as OfRow, Reading as OfReading, Piece as OfPiece}
use Rattle.calls.specs.declared.Reading.{Reading}
use Rattle.calls.specs.declared.Answer.TheVariants.{Taken as WasTaken, Same}
use Rattle.holder_model.specs.Book.{same_block, equals_work, closed_reply as closed_in_book, asked, asked_row, asked_reading, asked_piece, asks}
use Rattle.holder_model.proofs.SameBlock.{same-block-iff}
use Rattle.holder_records.specs.Work.{Work, listed, work_edges, replaced, removed, has_edges, located, spanned, read_at, drawn_at, answered}
use Rattle.holder_records.specs.Acts.{closed_reply}

-- ---- the relation

-- A work with the anchor and the edges of this outline, which was taken
pub record Working (w : Work) (o : Outline) : Type 0 where
  pub taken : w.taken ≡ true
  pub anchor : w.anchor ≡ (border o).start
  pub edges : work_edges w ≡ edges (border o)
  pub spans : w.spans ≡ spans_of o
  pub reaches : Reaches o
  pub undented : dent_piece (border o) ≡ 4

abbrev pub IsWork : Work → Option Outline → Type 0
IsWork w none = w.taken ≡ false
IsWork w (some o) = Working w o

pub removed-stands : (w : Work) → IsWork (removed w) none
unfolding removed
removed-stands w = refl

-- ---- an outline that was taken

-- The numbers of an outline's edges, followed by zeros
abbrev pub numbers_of : Outline → Result Taken Refusal → List ℤ
numbers_of o v = buffer_after v (edges (border o)) (replicate most_numbers (pos 0))

module _ (o : Outline) (n : ℕ) (a : Point) (e : verdict_of o ≡ taken_with n a) where
  abbrev facts : TakenFacts o n a
  facts = taken-facts o n a e

  listed-edges : listed (numbers_of o (taken_with n a)) n ≡ edges (border o)
  unfolding listed buffer_after
  listed-edges =
      let all : min (2 * n) most_numbers ≡ 2 * n = omega (arith, taken-fits o n a e) in
      let es : List ℤ = edges (border o) in
      let size : length es ≡ 2 * n = edges-length (border o) ∙ ap (λ (j : ℕ). 2 * j) (sym facts.count) in
      rw all (take_at es (drop (length es) (replicate most_numbers (pos 0))) (2 * n) size)

  -- The work that it becomes
  pub taken-working : Working (replaced a (numbers_of o (taken_with n a)) n (spans_of o)) o
  unfolding replaced work_edges
  taken-working =
      record {
        taken = refl;
        anchor = facts.anchor;
        edges = listed-edges;
        spans = refl;
        reaches = facts.reaches;
        undented = facts.undented;
      }

-- ---- the same block

-- Comparing a taken outline's anchor and edges decides whether it is the block at work
module _ (w : Work) (v o : Outline) (k : Working w v) (n : ℕ) (a : Point) (e : verdict_of o ≡ taken_with n a) where
  abbrev es : List ℤ
  es = listed (numbers_of o (taken_with n a)) n

  compared : (same_point w.anchor a && sameℤs (work_edges w) es) ≡ same_block o v
  compared = same_test _ _ (cells, edged) (λ t. t, λ t. t)
    where
      f : TakenFacts o n a
      f = facts o n a e

      cells : (same_point w.anchor a && sameℤs (work_edges w) es) ≡ true → same_block o v ≡ true
      cells t =
          let both = (and-eq-true_iff (same_point w.anchor a) (sameℤs (work_edges w) es)).0 t in
          let p : (border o).start ≡ (border v).start = sym f.anchor ∙ sym (same_point-true w.anchor a both.0) ∙ k.anchor in
          let q : edges (border o) ≡ edges (border v) = sym (listed-edges o n a e) ∙ sym ((same-ℤs-iff (work_edges w) es).0 both.1)
          ∙ k.edges in
          (same-block-iff o v f.reaches.simple k.reaches.simple).1
          ((same-cells-iff o v f.reaches k.reaches f.undented k.undented).1 (p, q))

      edged : same_block o v ≡ true → (same_point w.anchor a && sameℤs (work_edges w) es) ≡ true
      edged t =
          let same : SameEdges o v =
          (same-cells-iff o v f.reaches k.reaches f.undented k.undented).0
          ((same-block-iff o v f.reaches.simple k.reaches.simple).0 t) in
          (and-eq-true_iff (same_point w.anchor a) (sameℤs (work_edges w) es)).1 (
            same-point-self w.anchor a (k.anchor ∙ sym same.0 ∙ sym f.anchor),
            (same-ℤs-iff (work_edges w) es).1 (k.edges ∙ sym same.1 ∙ sym (listed-edges o n a e)),
          )

flag_true : (t x : Bool) → t ≡ true → (t && x) ≡ x
flag_true true x e = refl
flag_true false x e = absurd (true≢false (sym e))

flag-false : (t x : Bool) → t ≡ false → (t && x) ≡ false
flag-false true x e = absurd (true≢false e)
flag-false false x e = refl

-- "Same" and "taken" depend on the edges in the holder and on the cells in the model
same-work : (w : Work) (o : Outline) (n : ℕ) (a : Point) → verdict_of o ≡ taken_with n a → (v : Option Outline) → IsWork w v
    → has_edges w a (listed (numbers_of o (taken_with n a)) n) ≡ equals_work o v
unfolding has_edges equals_work
same-work w o n a e none k = flag-false w.taken _ k
same-work w o n a e (some v) k = flag_true w.taken _ k.taken ∙ compared w v o k n a e

-- ---- close

-- The reply depends on the edges in the holder and on the cells in the model
pub closed-agrees : (w : Work) (v : Option Outline) → IsWork w v → (o : Outline) (t : Result Taken Refusal) → verdict_of o ≡ t
    → closed_reply w (numbers_of o t) t ≡ closed_in_book (equals_work o v) t
unfolding closed_reply closed_in_book
closed-agrees w v k o (Err f) e = refl
closed-agrees w v k o (Ok t) e =
    ap (λ (s : Bool). cond s (Ok (Same t.edges t.anchor)) (Ok (WasTaken t.edges t.anchor))) (same-work w o t.edges t.anchor e v k)

-- ---- query

-- The rows at work decide for the outline at work
located-asked : (w : Work) (x : Point) (o : Option Outline) → IsWork w o → located w x ≡ asked x o
unfolding located asked
located-asked w x none e = rw e
located-asked w x (some o) k = rw (k.taken, k.spans, spans-exact o k.reaches x.col x.row)

-- ---- row

-- The rows at work are those of the outline at work
spanned-asked : (w : Work) (r : ℕ) (o : Option Outline) → IsWork w o → spanned w r ≡ asked_row r o
unfolding spanned asked_row
spanned-asked w r none e = rw e
spanned-asked w r (some o) k = rw (k.taken, k.spans, spans-search o k.reaches r)

-- ---- reading and piece

-- The anchor and the edges at work are those of the outline at work
read_asked : (w : Work) (x : Reading) (o : Option Outline) → IsWork w o → read_at w x ≡ asked_reading x o
unfolding read_at asked_reading
read_asked w x none e = rw e
read_asked w x (some o) k = rw (k.edges, k.anchor, k.taken)

drawn-asked : (w : Work) (n : ℕ) (o : Option Outline) → IsWork w o → drawn_at w n ≡ asked_piece n o
unfolding drawn_at asked_piece
drawn-asked w n none e = rw e
drawn-asked w n (some o) k = rw (k.edges, k.anchor, k.taken)

-- ---- any question

pub answered-asked : (w : Work) (q : Question) (o : Option Outline) → IsWork w o → answered w q ≡ asks q o
unfolding answered asks
answered-asked w (OfCell x) o k = located-asked w x o k
answered-asked w (OfRow r) o k = spanned-asked w r o k
answered-asked w (OfReading x) o k = read_asked w x o k
answered-asked w (OfPiece n) o k = drawn-asked w n o k
