-- Some outline is taken with this anchor and these edges exactly if the letters of the edges
-- pass the code's test, because the border of every such outline is those letters.
use Rattle.std.specs.Prelude.{Result, Ok, Err}
use Prim.Native.Nat.{ℕ, ◌*◌, ◌≤◌}
use native.Mathlib.Omega.{arith}
use mathlib.Core.Path.{◌≡◌, sym, ap, ◌∙◌}
use mathlib.Core.Logic.{◌↔◌}
use mathlib.Core.Bool.{Bool, true, false, false≢true, and-eq-true_iff}
use mathlib.Core.List.{List, ◌++◌}
use lib.ListN.{length, drop}
use lib.IntN.{ℤ}
use Rattle.base.specs.Same.{sameℤs}
use Rattle.base.proofs.Same.{same-ℤs-iff}
use Rattle.chart.specs.declared.Point.{Point}
use Rattle.chart.specs.declared.Refusal.{Refusal}
use Rattle.chart.specs.declared.Taken.{Taken}
use Rattle.chart.specs.Taken.{taken_with}
use Rattle.chart.proofs.TakenLaws.{same-anchor}
use Rattle.chart.specs.Outline.{Outline, outline}
use Rattle.lattice.proofs.WalkLaws.{same_point-true, same-point-self}
use Rattle.convexity.specs.Clockwise.{border}
use Rattle.convexity.specs.Pieces.{edges, edge_count}
use Rattle.convexity.specs.FromEdges.{letters_from}
use Rattle.convexity.specs.Border.{HasEdges}
use Rattle.convexity.proofs.Bounds.{edges-length}
use Rattle.convexity.proofs.Border.{border-form, border-has}
use Rattle.verdict.specs.Verdict.{verdict_of, test_of, edges_after}
use Rattle.verdict.proofs.VerdictLaws.{taken-facts, verdict-taken, test-taken, edges-after}
use Rattle.border_model.specs.Outlined.{TakenAs, HasOutline, taken_at, taken_as, outlined}
use Rattle.border_model.specs.Named.{BorderOf}

-- ---- an outline taken with an anchor and edges

pub taken-has : {o : Outline} {a : Point} {es : List ℤ} → TakenAs o a es → HasEdges o a es
taken-has {o} {a} t =
    let f = taken-facts o t.edges_counted a t.taken in
    record { reaches = f.reaches; smooth = f.undented; anchor = sym f.anchor; edged = t.edged }

pub has-taken : {o : Outline} {a : Point} {es : List ℤ} → HasEdges o a es → TakenAs o a es
has-taken {o} h =
    record {
      edges_counted = edge_count (border o);
      taken = verdict-taken o h.reaches h.smooth ∙ ap (taken_with (edge_count (border o))) h.anchor;
      edged = h.edged;
    }

-- It has two numbers for each edge
pub taken-size : {o : Outline} {a : Point} {es : List ℤ} (t : TakenAs o a es) → length es ≡ 2 * t.edges_counted
taken-size {o} {a} t =
    ap length (sym t.edged) ∙ edges-length (border o) ∙ ap (λ (n : ℕ). 2 * n) (sym (taken-facts o t.edges_counted a t.taken).count)

-- Tested with a long enough buffer it gives the anchor and the edges again
pub record Again (o : Outline) (a : Point) (es buffer : List ℤ) : Type 0 where
  pub count : ℕ
  pub verdict : test_of o (length buffer) ≡ taken_with count a
  pub counted : length es ≡ 2 * count
  pub list : edges_after o buffer ≡ es ++ drop (length es) buffer

pub tested-again : {o : Outline} {a : Point} {es : List ℤ} → TakenAs o a es → (buffer : List ℤ) → length es ≤ length buffer
    → Again o a es buffer
tested-again {o} {a} {es} t buffer room =
    let n : length es ≡ 2 * t.edges_counted = taken-size t in
    let v = test-taken o (length buffer) t.edges_counted a t.taken (omega arith) in
    record { count = t.edges_counted; verdict = v; counted = n; list = rw t.edged at (edges-after o buffer t.edges_counted a v) }

-- ---- the test

taken_at-iff : (v : Result Taken Refusal) (a : Point) → (taken_at v a ≡ true) ↔ ((n : ℕ) × (v ≡ taken_with n a))
unfolding taken_at
taken_at-iff (Ok t) a =
    (λ e. (t.edges, ap (taken_with t.edges) (same_point-true t.anchor a e)), λ h. same-point-self t.anchor a (same-anchor h.1))
taken_at-iff (Err f) a = (λ e. absurd (false≢true e), λ h. absurd (false≢true (ap is_taken h.1)))
  where
    is_taken : Result Taken Refusal → Bool
    is_taken (Ok t) = true
    is_taken (Err g) = false

pub taken_as-iff : (o : Outline) (a : Point) (es : List ℤ) → (taken_as o a es ≡ true) ↔ TakenAs o a es
unfolding taken_as
taken_as-iff o a es =
    let both = and-eq-true_iff (taken_at (verdict_of o) a) (sameℤs (edges (border o)) es) in
    let at = taken_at-iff (verdict_of o) a in
    let same = same-ℤs-iff (edges (border o)) es in (
      λ e. let v = at.0 (both.0 e).0 in record { edges_counted = v.0; taken = v.1; edged = same.0 (both.0 e).1 },
      λ t. both.1 (at.1 (t.edges_counted, t.taken), same.1 t.edged),
    )

-- ---- some outline has this anchor and these edges

-- Refusal 17: the letters that the edges give are tested, and anchor and edges are compared
pub outlined-iff : (a : Point) (es : List ℤ) → (outlined a es ≡ true) ↔ HasOutline a es
unfolding outlined
outlined-iff a es =
    let o = outline a (letters_from es) in
    let test = taken_as-iff o a es in
    (λ e. (o, test.0 e), λ h. test.1 (has-taken (border-has (taken-has h.1))))

-- Then those letters are the border
pub outlined-border : (a : Point) (es : List ℤ) → outlined a es ≡ true → BorderOf a es (letters_from es)
unfolding outlined
outlined-border a es e = record { taken = (taken_as-iff (outline a (letters_from es)) a es).0 e; own = λ o t. border-form (taken-has t) }
