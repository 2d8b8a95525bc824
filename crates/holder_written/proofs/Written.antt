-- A call in place, and then its reply written, is a call as C makes it.
use Prim.Native.Nat.{ℕ, ◌^◌, ◌<◌}
use mathlib.Core.Path.{◌≡◌, ap, ◌∙◌, subst}
use mathlib.Core.List.{List}
use Rattle.chart.specs.Fields.{numbers_of, fields_of}
use Rattle.chart.specs.declared.Fields.{Fields}
use Rattle.chart.proofs.ReplyLaws.{read_back}
use Rattle.calls.specs.Calls.{by}
use Rattle.calls.specs.Replies.{Reply, piece_in, reply_fields}
use Rattle.std.specs.Prelude.{Option}
use Rattle.calls.specs.declared.Piece.{Piece}
use Rattle.drawing.specs.Points.{point_after}
use Rattle.drawing.specs.Named.{PieceNamed}
use lib.Ieee.{Float}
use Rattle.calls.specs.declared.Call.{Call}
use Rattle.calls.specs.declared.Action.TheVariants.{Ask}
use Rattle.calls.specs.declared.Question.TheVariants.{Reading as OfReading, Piece as OfPiece}
use Rattle.calls.specs.declared.Reading.{Reading}
use Rattle.readings.specs.Located.{Held}
use Rattle.holder_memory.specs.Layout.{Holder}
use Rattle.holder_answers.specs.Arrays.{Answered, Preparation, preparation, reply, prepare_of, answer_of}
use Rattle.holder_written.specs.Written.{Done as Finished, Prepared as IsPrepared, CloseTold, ReadingTold}
use Rattle.holder_answers.proofs.CloseLaws.{prepare-named}
use Rattle.holder_answers.proofs.AskLaws.{reading-named, piece-named}

pub done-by : (h n : Holder) (c : Call) (r : Reply) → reply r n ≡ answer_of h c → (l : List ℕ) → l ≡ numbers_of (reply_fields r)
    → Finished h n c l
done-by h n c r e l w =
    record { holder = ap (λ (x : Answered). x.holder) e; replied = w ∙ ap (λ (x : Answered). numbers_of (reply_fields x.reply)) e }

pub prepared-by : (h n : Holder) (p k : ℕ) (r : Reply) (w : ℕ) → preparation r w n ≡ prepare_of h p k → (l : List ℕ)
    → l ≡ numbers_of (reply_fields r) → IsPrepared h n p k w l
prepared-by h n p k r w e l q =
    record {
      holder = ap (λ (x : Preparation). x.holder) e;
      word = ap (λ (x : Preparation). x.word) e;
      replied = q ∙ ap (λ (x : Preparation). numbers_of (reply_fields x.reply)) e;
    }

-- What the reply says
pub prepared-told : (h n : Holder) (p k w : ℕ) (l : List ℕ) → IsPrepared h n p k w l → CloseTold h p l
prepared-told h n p k w l d = rw (d.replied, read_back (reply_fields (prepare_of h p k).reply)) (prepare-named h p k)

pub reading-told : (h n : Holder) (p k : ℕ) (x : Reading) → Held x → (l : List ℕ) → Finished h n (by p (Ask k (OfReading x))) l
    → ReadingTold h p k x l
reading-told h n p k x held l d =
    rw (d.replied, read_back (reply_fields (answer_of h (by p (Ask k (OfReading x)))).reply)) (reading-named h p k x held)

-- The point of the path command in the reply
pub point-by : (h n : Holder) (c : Call) (r : Reply) → reply r n ≡ answer_of h c → (x : Option Piece) → x ≡ piece_in r → (a b : List Float)
    → b ≡ point_after x a → b ≡ point_after (piece_in (answer_of h c).reply) a
point-by h n c r e x q a b w = w ∙ ap (λ (y : Option Piece). point_after y a) (q ∙ ap (λ (z : Answered). piece_in z.reply) e)

-- What the reply and the point say. The fields of a reply are numbers of 16 bits
pub piece-told : (h n : Holder) (p k i : ℕ) (r : Reply) → reply r n ≡ answer_of h (by p (Ask k (OfPiece i))) → (f : Fields)
    → f ≡ reply_fields r → f.col < 2 ^ 16 → f.row < 2 ^ 16 → (x : Option Piece) → x ≡ piece_in r → (a b : List Float) → b ≡ point_after x a
    → (l : List ℕ) → l ≡ numbers_of f → PieceNamed (fields_of l) a b
piece-told h n p k i r e f q col row x z a b w l v =
    let same : r ≡ (answer_of h (by p (Ask k (OfPiece i)))).reply = ap (λ (y : Answered). y.reply) e in
    let fields : f ≡ reply_fields (answer_of h (by p (Ask k (OfPiece i)))).reply = q ∙ ap reply_fields same in
    let named = piece-named h p k i a (subst (λ (g : Fields). g.col < 2 ^ 16) fields col) (subst (λ (g : Fields). g.row < 2 ^ 16) fields row) in
    rw (v, read_back f, fields, point-by h n (by p (Ask k (OfPiece i))) r e x z a b w) named
