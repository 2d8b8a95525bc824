-- The reply of a close is the verdict on its party's draft, so what is known of verdicts holds for closes in any list of calls. Its word
-- depends on the cells of the outline last taken at its place.
use Rattle.std.specs.Prelude.{Result, Ok, Err}
use Prim.Native.Nat.{ℕ, ◌<◌}
use mathlib.Core.Path.{◌≡◌, refl, sym, ap, ◌∙◌}
use mathlib.Core.Logic.{◌↔◌}
use mathlib.Core.Bool.{Bool, true, false}
use mathlib.Core.Option.{Option, some}
use mathlib.Core.List.{List}
use borrow.Author.Tests.{lt-leb}
use Rattle.chart.specs.Outline.{Outline}
use Rattle.chart.specs.Fields.{verdict_fields}
use Rattle.chart.specs.declared.Point.{Point}
use Rattle.chart.specs.declared.Refusal.TheVariants.{Dent}
use Rattle.chart.specs.declared.Refusal.{Refusal}
use Rattle.chart.specs.declared.Taken.{Taken}
use Rattle.chart.specs.Taken.{taken_with}
use Rattle.lattice.specs.Hull.{Missing, LowestMissing, Convex}
use Rattle.lattice.specs.Refusals.{Simple}
use Rattle.convexity.specs.Clockwise.{block}
use Rattle.convexity.specs.Pieces.{Reaches}
use Rattle.convexity.specs.SameBlock.{SameCells}
use Rattle.verdict.specs.Verdict.{verdict_of}
use Rattle.verdict.specs.Named.{CellNamed}
use Rattle.verdict.proofs.VerdictLaws.{taken-facts}
use Rattle.verdict.proofs.Cells.{nine-iff-missing, verdict-named}
use Rattle.verdict.proofs.Convex.{eight-missing, taken-iff-convex}
use Rattle.calls.specs.Calls.{parties, places, by}
use Rattle.calls.specs.Replies.{Reply, reply_fields}
use Rattle.calls.specs.declared.Call.{Call}
use Rattle.calls.specs.declared.Action.TheVariants.{Close}
use Rattle.calls.specs.declared.Answer.TheVariants.{Same}
use Rattle.holder_model.specs.Book.{Entry, drafted, at_work, fresh, equals_work, closed_reply, closes, acts, answer, book_after}
use Rattle.holder_model.specs.LastTaken.{last_taken}
use Rattle.holder_model.proofs.LastTaken.{work-last-taken}
use Rattle.holder_model.proofs.SameBlock.{same-block-iff}
use Rattle.book_replies.specs.After.{reply_to}
use Rattle.book_replies.proofs.Taken.{reply-after, last-working}

-- The reply of a close has the verdict's number and cell
closed-number : (t : Bool) (v : Result Taken Refusal) → (reply_fields (closed_reply t v)).number ≡ (verdict_fields v).number
unfolding closed_reply reply_fields
closed-number t (Err f) = refl
closed-number true (Ok t) = refl
closed-number false (Ok t) = refl

closed-named : (o : Outline) (t : Bool) (v : Result Taken Refusal) → CellNamed o (verdict_fields v)
    → CellNamed o (reply_fields (closed_reply t v))
unfolding closed_reply reply_fields
closed-named o t (Err f) c = c
closed-named o true (Ok t) c = record { anchor = c.anchor; missing = c.missing }
closed-named o false (Ok t) c = record { anchor = c.anchor; missing = c.missing }

-- The word is "same" if the draft is taken and has the block at work
closed_same : (t : Bool) (v : Result Taken Refusal) (n : ℕ) (a : Point)
    → (closed_reply t v ≡ Ok (Same n a)) ↔ ((v ≡ taken_with n a) × (t ≡ true))
unfolding closed_reply
closed_same t (Err f) n a = (λ e. (cc, cc), λ e. let z : ◌≡◌ {A = Reply} (Err f) (Ok (Same n a)) = cc e.0 in z)
closed_same true (Ok t) n a =
    (λ e. let x : t.edges ≡ n = cc in let y : t.anchor ≡ a = cc in (λ i. taken_with (x i) (y i), refl), λ e. let z = e.0 in cc)
closed_same false (Ok t) n a = (λ e. (cc, cc), λ e. let z = e.1 in cc)

-- A close by party p at place k after a list of calls, with the draft o
module _ (p k : ℕ) (there : p < parties) (inside : k < places) (cs : List Entry) (o : Outline)
    (draft : drafted (book_after fresh cs) p ≡ some o) where
  -- The reply of a close is the draft's verdict, and its word depends on the outline last taken
  pub close-reply : reply_to cs (by p (Close k)) ≡ closed_reply (equals_work o (last_taken p k cs)) (verdict_of o)
  unfolding answer acts closes
  close-reply =
      reply-after cs (by p (Close k))
      ∙ rw (
        lt-leb parties p there,
        lt-leb places k inside,
      ) (ap (λ (d : Option Outline). (closes d (at_work (book_after fresh cs) p k)).reply) draft)
      ∙ ap (λ (w : Option Outline). closed_reply (equals_work o w) (verdict_of o)) (work-last-taken p k cs)

  pub close-number : (reply_fields (reply_to cs (by p (Close k)))).number ≡ (verdict_fields (verdict_of o)).number
  close-number = rw close-reply (closed-number (equals_work o (last_taken p k cs)) (verdict_of o))

  -- "Same" exactly if the draft is taken and has the cells of the outline last taken (contract 7.7)
  pub close-same : (v : Outline) → last_taken p k cs ≡ some v → (n : ℕ) (a : Point)
      → (reply_to cs (by p (Close k)) ≡ Ok (Same n a)) ↔ ((verdict_of o ≡ taken_with n a) × SameCells o v)
  unfolding equals_work
  close-same v last n a = (
    λ e.
        let (t, s) = (closed_same (equals_work o (last_taken p k cs)) (verdict_of o) n a).0 (sym close-reply ∙ e) in
        (t, (same t).0 (sym (ap (equals_work o) last) ∙ s)),
    λ e. close-reply ∙ (closed_same (equals_work o (last_taken p k cs)) (verdict_of o) n a).1 (
      e.0,
      ap (equals_work o) last ∙ (same e.0).1 e.1,
    ),
  )
    where
      same : verdict_of o ≡ taken_with n a → (equals_work o (some v) ≡ true) ↔ SameCells o v
      same t = same-block-iff o v (taken-facts o n a t).reaches.simple (last-working p k cs v last).reaches.simple

  -- If the draft passes 1 to 8, the number is 9 exactly if some cell is missing (contract 8.4)
  pub close-nine-missing : Reaches o → ((reply_fields (reply_to cs (by p (Close k)))).number ≡ 9) ↔ ((x : Point) × Missing (block o) x)
  close-nine-missing r = rw close-number (nine-iff-missing o r)

  -- A draft refused by 8 has a missing cell too. A draft that passes 1 to 6 is taken exactly if no cell is missing (contract 8.5)
  pub close-eight-missing : (reply_fields (reply_to cs (by p (Close k)))).number ≡ 8 → (x : Point) × Missing (block o) x
  close-eight-missing e = eight-missing o (sym close-number ∙ e)

  pub close-taken-convex : Simple o → ((reply_fields (reply_to cs (by p (Close k)))).number ≡ 0) ↔ Convex (block o)
  close-taken-convex h = rw close-number (taken-iff-convex o h)

  -- The cell of the reply is the anchor of a taken draft, and with 9 the lowest missing cell, leftmost in its row
  pub close-named : CellNamed o (reply_fields (reply_to cs (by p (Close k))))
  close-named = rw close-reply (closed-named o (equals_work o (last_taken p k cs)) (verdict_of o) (verdict-named o))

  pub close-names-lowest : (i q l : ℕ) (x : Point) → reply_to cs (by p (Close k)) ≡ Err (Dent i q l x) → LowestMissing (block o) x
  unfolding reply_fields
  close-names-lowest i q l x e = let named : CellNamed o (reply_fields (Err (Dent i q l x))) = rw e at close-named in
      named.missing refl
