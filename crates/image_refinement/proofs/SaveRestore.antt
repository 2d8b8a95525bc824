-- What is restored from a save answers as what was saved: both are works of the border that the edges give.
use Prim.Native.Nat.{ℕ, ◌≤◌, ◌<◌}
use native.Mathlib.Omega.{arith}
use mathlib.Core.Path.{◌≡◌, refl, sym, subst, ◌∙◌}
use mathlib.Core.Bool.{Bool, true, false}
use mathlib.Core.Option.{Option, none, some}
use mathlib.Core.List.{List, []}
use lib.ListN.{length, take, drop}
use lib.Seq.{take_at}
use lib.Dec.{eqb}
use borrow.Author.Tests.{eqb-true, lt-leb, le-ltb}
use Rattle.chart.specs.Outline.{Outline}
use Rattle.lattice.proofs.WalkLaws.{walked}
use Rattle.border_model.proofs.Outlines.{taken-has}
use Rattle.calls.specs.Calls.{parties, places}
use Rattle.calls.specs.declared.Question.{Question}
use Rattle.images.specs.Image.{image_bytes, image_of, IsImage}
use Rattle.images.proofs.Images.{image-length}
use Rattle.holder_records.specs.Work.{Work, answered}
use Rattle.holder_memory.specs.Layout.{Holder, Fits, work_at}
use Rattle.holder_memory.specs.Words.{tag_of, slot_of}
use Rattle.holder_answers.specs.Arrays.{work_in}
use Rattle.holder_images.specs.Whole.{WorkOf, own_border, whole, word_in, whole_at, border_in}
use Rattle.holder_images.specs.Arrays.{save_of, restore_of}
use Rattle.holder_images.proofs.WholeLaws.{own-work, whole-iff}
use Rattle.holder_refinement.proofs.Works.{Working, IsWork, answered-asked}
use Rattle.image_refinement.proofs.Restored.{work-working, working-work, restored-taken, restored-empty}

-- A place whose word is 0 has nothing at work
pub nothing : (h : Holder) (p k : ℕ) → word_in h p k ≡ 0 → (work_in h p k).taken ≡ false
unfolding work_at slot_of tag_of
nothing h p k e = rw e refl

-- What is at work at a whole place, as a work of the book, and its image
pub record Stands (h : Holder) (p k : ℕ) : Type 0 where
  pub work : Option Outline
  pub is : IsWork (work_in h p k) work
  pub image : IsImage (image_of (border_in h p k)) (border_in h p k)
  pub none : work ≡ none → (border_in h p k).letters ≡ []
  pub some : (o : Outline) → work ≡ some o → border_in h p k ≡ o

pub stands : (h : Holder) (p k : ℕ) → whole_at h p k ≡ true → Stands h p k
unfolding whole_at border_in
stands h p k e = go (eqb (word_in h p k) 0) refl
  where
    go : (t : Bool) → eqb (word_in h p k) 0 ≡ t → Stands h p k
    go true z =
        record {
          work = none;
          is = nothing h p k (eqb-true (word_in h p k) 0 z);
          image = record { bytes = refl; short = rw z (omega arith) };
          none = λ q. rw z refl;
          some = λ o q. cc;
        }
    go false z =
        let w : Work = work_in h p k in
        let y : whole w ≡ true = rw z at e in
        let k₀ = (whole-iff w).0 y in
        let own : WorkOf w (own_border w) = own-work w k₀.1.0 k₀.1.1 in
        record {
          work = some (own_border w);
          is = work-working w (own_border w) k₀.0 own;
          image = record { bytes = refl; short = rw z (walked (own_border w) (taken-has own.taken).reaches.simple).short };
          none = λ q. cc;
          some = λ o q. rw z (let same : own_border w ≡ o = cc in same);
        }

-- ---- the bytes of a save

pub saved-image : (h : Holder) (p k : ℕ) → p < parties → k < places → whole_at h p k ≡ true → (buffer : List ℕ) → image_bytes ≤ length buffer
    → take image_bytes (save_of h p k buffer).buffer ≡ image_of (border_in h p k)
unfolding save_of
saved-image h p k there inside e buffer room =
    rw (lt-leb parties p there, lt-leb places k inside, e, le-ltb (length buffer) image_bytes room)
    (take_at (image_of (border_in h p k)) (drop image_bytes buffer) image_bytes
    (image-length (border_in h p k) (stands h p k e).image.short))

-- ---- restored

-- What a save of a whole place gave, restored to any place of any holder, answers every question as before (contract 13.8)
module _ (h : Holder) (p k : ℕ) (e : whole_at h p k ≡ true) (g : Holder) (fit : Fits g) (q : ℕ) (there : q < parties) (j : ℕ)
    (inside : j < places) where
  abbrev image : List ℕ
  image = image_of (border_in h p k)

  -- The same work of the book
  back : (v : Option Outline) → (stands h p k e).work ≡ v → IsWork (work_in (restore_of g q j image).holder q j) v
  back none s = restored-empty g fit q there j inside image (border_in h p k) (stands h p k e).image ((stands h p k e).none s)
  back (some o) s =
      let w : Working (work_in h p k) o = rw s at (stands h p k e).is in
      let t = (working-work (work_in h p k) o w).taken in
      let i : IsImage image o = subst (IsImage image) ((stands h p k e).some o s) (stands h p k e).image in
      restored-taken g fit q there j inside image o i t.edges_counted (work_in h p k).anchor t.taken

  pub restored-answers : (x : Question) → answered (work_in (restore_of g q j image).holder q j) x ≡ answered (work_in h p k) x
  restored-answers x =
      answered-asked _ x (stands h p k e).work (back (stands h p k e).work refl)
      ∙ sym (answered-asked (work_in h p k) x (stands h p k e).work (stands h p k e).is)
