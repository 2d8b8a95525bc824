-- Each layer's rows are what a set or a set empty left there, so a save gives the image of the book's outline, and a restore puts the
-- same rows back.
use Rattle.std.specs.Prelude.{Result, Ok, Err}
use Prim.Native.Nat.{ℕ, ◌+◌, ◌≤◌, ◌<◌}
use native.Mathlib.Decide.{ℕ_discrete, dec_lt}
use native.Mathlib.Omega.{arith}
use mathlib.Core.Path.{◌≡◌, refl, sym, ap, subst, ◌∙◌}
use mathlib.Core.Logic.{◌↔◌}
use mathlib.Core.Bool.{Bool, true, false, cond}
use mathlib.Core.Option.{Option, none, some}
use mathlib.Core.List.{List, [], ◌∷◌, ◌++◌}
use lib.ListN.{length, drop}
use lib.Dec.{ltb}
use borrow.Author.Tests.{lt-ltb, le-ltb}
use Rattle.base.specs.Put.{put}
use Rattle.base.proofs.PutLaws.{put-here, put-elsewhere}
use Rattle.chart.specs.Fields.{numbers_of}
use Rattle.chart.specs.Limits.{longest}
use Rattle.chart.specs.declared.Point.{Point}
use Rattle.chart.specs.Outline.{Outline, at, outline}
use Rattle.chart.specs.declared.Refusal.TheVariants.{LetterBuffer, Image, Damaged}
use Rattle.chart.specs.declared.Refusal.{Refusal}
use Rattle.chart.specs.declared.Taken.{Taken}
use Rattle.chart.specs.Taken.{taken_with}
use Rattle.lattice.proofs.WalkLaws.{walked}
use Rattle.convexity.specs.Clockwise.{border}
use Rattle.verdict.specs.Verdict.{verdict_of}
use Rattle.spans.specs.declared.Spans.{Spans}
use Rattle.spans.specs.Spans.{no_spans, spans_of}
use Rattle.span_list.specs.SpanList.{spans_at, rows_put}
use Rattle.span_list.proofs.SlotLaws.{Whole, outline-whole, none-whole, spans-put, zeros-none}
use Rattle.images.specs.Image.{image_bytes, image_of, IsImage, is_image, held_in}
use Rattle.images.proofs.Images.{image-iff, image-held}
use Rattle.sections.specs.Sections.{last_layer}
use Rattle.pile_replies.specs.Replies.{PileReply}
use Rattle.pile_replies.specs.declared.PileAnswer.TheVariants.{Done as Fine}
use Rattle.pile_replies.specs.Replies.{pile_fields}
use Rattle.pile_model.specs.Calls.{PileCall, Set, SetEmpty, Check, Query, Restore}
use Rattle.pile_model.specs.Book.{Layers, PileBook, fresh, put_layer, set_book, restored_book, next}
use Rattle.live_sections.specs.Layers.{layer_bytes}
use Rattle.pile_calls.specs.declared.Pile.{Pile}
use Rattle.pile_calls.specs.declared.Piled.{Piled}
use Rattle.std.specs.declared.option.Option.{Option as Optional}
use Rattle.std.specs.declared.option.Option.TheVariants.{None, Some}
use Rattle.pile_calls.specs.declared.Stepped.{Stepped}
use Rattle.pile_calls.specs.Arrays.{says, layer_put, set_as, set_of, empty_of, restored_as, restore_of, answer_of, position, fresh_pile}
use Rattle.pile_calls.specs.Steps.{steps_of}
use Rattle.pile_images.specs.Left.{SetTo, LeftBy}
use Rattle.pile_images.specs.Saved.{layer_image, Written, Saves}
use Rattle.pile_images.proofs.FindLaws.{set-simple, set-border}
use Rattle.pile_images.proofs.RestoreLaws.{with-letters}
use Rattle.pile_written.specs.Written.{SaveWritten}
use Rattle.pile_refinement.specs.Moves.{Move, renew, call, steps, whole, moved, moved_by, next_step, book_by}
use Rattle.pile_refinement.proofs.InStep.{InStep, step-fresh, call-agrees, check-keeps}
use Rattle.pile_refinement.proofs.Steps.{Under, under-fresh, under-move, anew, Do, ends, rests, steps-do}
use Rattle.pile_refinement.proofs.Theorem.{steps-agree, book_of, pile_of}

-- ---- what every layer's rows are

abbrev pub AllLeft : Layers → List ℕ → Type 0
AllLeft ls rows = (l : ℕ) → l ≤ last_layer → LeftBy (ls l) (spans_at rows l)

left-fresh : AllLeft fresh.layers fresh_pile.rows
unfolding fresh fresh_pile LeftBy
left-fresh l h = zeros-none l layer_bytes (omega arith)

left-put : (ls : Layers) (rows : List ℕ) → length rows ≡ layer_bytes → AllLeft ls rows → (l : ℕ) → l ≤ last_layer → (v : Option Outline)
    (x : Spans) → Whole x → LeftBy v x → AllLeft (put ls l v) (rows_put rows l x)
left-put ls rows size a l h v x w k i m =
    let s = spans-put rows l x (omega (arith, size)) w _ refl in
    elim (ℕ_discrete i l) [
      | yes e ↦ rw (e, put-here ls l v, s.here) k
      | no e ↦ rw (put-elsewhere ls l v i e, s.elsewhere i e) (a i m)
    ]

module _ (b : PileBook) (p : Pile) (size : length p.rows ≡ layer_bytes) (a : AllLeft b.layers p.rows) where
  abbrev Stays : PileBook → Pile → Type 0
  Stays c q = AllLeft c.layers q.rows

  left-set : (l : ℕ) (o : Outline) → l ≤ last_layer → (v : Result Taken Refusal) → verdict_of o ≡ v
      → Stays (set_book b l o v) (set_as p l o v).pile
  unfolding set_as set_book put_layer LeftBy
  left-set l o h (Err f) e = a
  left-set l o h (Ok t) e =
      left-put b.layers p.rows size a l h (some o) (spans_of o) (outline-whole o)
      (record { edges_counted = t.edges; anchor = t.anchor; taken = e; rows = refl })

  left-empty : (l : ℕ) → l ≤ last_layer → AllLeft (put b.layers l none) (rows_put p.rows l no_spans)
  unfolding LeftBy
  left-empty l h = left-put b.layers p.rows size a l h none no_spans none-whole refl

  left-restore : (l : ℕ) (o : Outline) → l ≤ last_layer → (w : List ℕ) → Stays (restored_book b l o w) (restored_as p l o w).pile
  unfolding restored_book restored_as put_layer
  left-restore l o h [] = left-empty l h
  left-restore l o h (c ∷ w) = left-set l o h (verdict_of o) refl

  left-call : (c : PileCall) → Stays (next b c (answer_of p c).reply) (answer_of p c).pile
  unfolding next answer_of set_of empty_of restore_of put_layer
  left-call (Set l o) =
      elim (dec_lt last_layer l) [
        | yes h ↦ rw (lt-ltb last_layer l h) a
        | no h ↦ rw (le-ltb last_layer l (omega arith)) (left-set l o (omega arith) (verdict_of o) refl)
      ]
  left-call (SetEmpty l) =
      elim (dec_lt last_layer l) [
        | yes h ↦ rw (lt-ltb last_layer l h) a
        | no h ↦ rw (le-ltb last_layer l (omega arith)) (left-empty l (omega arith))
      ]
  left-call Check = rw (check-keeps p).0 a
  left-call (Query l x) = a
  left-call (Restore l i) =
      elim (dec_lt last_layer l) [
        | yes h ↦ rw (lt-ltb last_layer l h) a
        | no h ↦
            rw (le-ltb last_layer l (omega arith)) (go (is_image i) _ _ (left-restore l (held_in i) (omega arith) (held_in i).letters))
      ]
    where
      go : (t : Bool) (c : PileBook) (x : Piled) → Stays c x.pile → Stays (cond t c b) (cond t x (says (Err Image) p)).pile
      go true c x s = s
      go false c x s = a

-- ---- some sections of a check

-- They leave the rows, and the model's layers
steps-rows : (n : ℕ) (p : Pile) → Under p → (steps_of n p).pile.rows ≡ p.rows
unfolding whole
steps-rows n p u = go (steps_of n p) (steps-do n p u)
  where
    go : (s : Stepped) → Do p (position p + n) s → s.pile.rows ≡ p.rows
    go s (ends e) = ap (λ (x : Stepped). x.pile.rows) e ∙ (check-keeps (anew p)).0
    go s (rests e near before) = ap (λ (x : Stepped). x.pile.rows) e

step-layers : (b : PileBook) (x : Optional PileReply) → (next_step b x).layers ≡ b.layers
unfolding next_step next
step-layers b None = refl
step-layers b (Some r) = refl

-- ---- after any calls from a fresh pile

stays-left : (ms : List Move) (b : PileBook) (p : Pile) → InStep b p → Under p → AllLeft b.layers p.rows
    → AllLeft (book_by b p ms).layers (moved_by p ms).rows
unfolding book_by moved_by moved
stays-left [] b p t u a = a
stays-left (renew ∷ ms) b p t u a = stays-left ms fresh fresh_pile step-fresh under-fresh left-fresh
stays-left (call c ∷ ms) b p t u a =
    stays-left ms _ _ (call-agrees b p t c).1 (under-move p u (call c)) (left-call b p t.size a c)
stays-left (steps n ∷ ms) b p t u a =
    stays-left ms _ _ (steps-agree n b p t u).1 (under-move p u (steps n))
    (rw (steps-rows n p u, step-layers b (steps_of n p).progress) a)

pub layers-left : (ms : List Move) → AllLeft (book_of ms).layers (pile_of ms).rows
layers-left ms = stays-left ms fresh fresh_pile step-fresh under-fresh left-fresh

-- A save gives the image of the border of the outline last set there, or of an empty layer: 0, or 18 if the buffer is short
pub record SavedAs (v : Option Outline) (before after numbers : List ℕ) : Type 0 where
  pub short : length before < image_bytes → (numbers ≡ numbers_of (pile_fields (Err LetterBuffer))) × (after ≡ before)
  pub room : image_bytes ≤ length before
      → (numbers ≡ numbers_of (pile_fields (Ok Fine))) × (after ≡ layer_image v ++ drop image_bytes before)

pub save-theorem : (ms : List Move) (l : ℕ) → l ≤ last_layer → (before after numbers : List ℕ)
    → SaveWritten (pile_of ms).rows l before after numbers → SavedAs ((book_of ms).layers l) before after numbers
save-theorem ms l h before after numbers w =
    let s = (w.saves.layer h).left ((book_of ms).layers l) (layers-left ms l h) in
    let n : (r : PileReply) → w.answer ≡ r → numbers ≡ numbers_of (pile_fields r) =
    λ r e. w.written ∙ ap (λ (x : PileReply). numbers_of (pile_fields x)) e in
    record {
      short = λ k. let (a, b) = s.short k in (n (Err LetterBuffer) a, b);
      room = λ k. let (a, b) = s.room k in (n (Ok Fine) a, b);
    }

-- ---- 27

short-other : ◌≡◌ {A = PileReply} (Err LetterBuffer) (Err Damaged) → ⊥
short-other e = cc

done-other : ◌≡◌ {A = PileReply} (Ok Fine) (Err Damaged) → ⊥
done-other e = cc

-- A save is refused by 27 exactly if the rows are what no set and no set empty leaves
pub damaged-iff : (s : Spans) (before after : List ℕ) (r : PileReply) → Saves s before after r
    → (r ≡ Err Damaged) ↔ ((v : Option Outline) → LeftBy v s → ⊥)
damaged-iff s before after r w = (
  λ d v k.
      elim (dec_lt (length before) image_bytes) [
        | yes l ↦ short-other (sym ((w.left v k).short l).0 ∙ d)
        | no l ↦ done-other (sym ((w.left v k).room (omega arith)).0 ∙ d)
      ],
  λ k. (w.damaged k).0,
)

-- ---- a restore of what a save gave

module _ (o : Outline) (short : length o.letters ≤ longest) where
  own-image : IsImage (image_of o) o
  own-image = record { bytes = refl; short = short }

  is-image : is_image (image_of o) ≡ true
  is-image = (image-iff (image_of o)).1 (subst (IsImage (image_of o)) (sym (image-held own-image)) own-image)

  as-restored : (p : Pile) (k : ℕ) → k ≤ last_layer → answer_of p (Restore k (image_of o)) ≡ restored_as p k o o.letters
  unfolding answer_of restore_of
  as-restored p k h = rw (le-ltb last_layer k h, is-image) (ap (λ (v : Outline). restored_as p k v v.letters) (image-held own-image))

taken-put : (p : Pile) (k : ℕ) (o : Outline) (v : Result Taken Refusal) (n : ℕ) (a : Point) → v ≡ taken_with n a
    → (set_as p k o v).pile ≡ layer_put p k
    (spans_of o)
unfolding set_as
taken-put p k o v n a e = rw e refl

-- To any layer of any pile, it puts the same rows back
pub restored-back : (v : Option Outline) (s : Spans) → LeftBy v s → (p : Pile) (k : ℕ) → k ≤ last_layer
    → (answer_of p (Restore k (layer_image v))).pile ≡ layer_put p k s
unfolding LeftBy layer_image restored_as
restored-back none s e p k h =
    ap (λ (x : Piled). x.pile) (as-restored (outline (at 0 0) []) (omega arith) p k h) ∙ ap (layer_put p k) (sym e)
restored-back (some o) s e p k h =
    let g : SetTo (border o) s = set-border e in
    let w = walked (border o) (set-simple g) in
    ap (λ (x : Piled). x.pile)
    (as-restored (border o) w.short p k h ∙ with-letters p k (border o) (border o).letters (omega (arith, w.long)))
    ∙ taken-put p k (border o) (verdict_of (border o)) g.edges_counted g.anchor g.taken ∙ ap (layer_put p k) (sym g.rows)
