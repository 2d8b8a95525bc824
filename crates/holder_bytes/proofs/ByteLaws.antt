-- Eleven bytes are the call of their first number, by the definition; other bytes are none.
use Prim.Native.Nat.{ℕ}
use mathlib.Core.Path.{◌≡◌, ap, ◌∙◌}
use mathlib.Core.Bool.{Bool, true, false}
use mathlib.Core.List.{List}
use lib.ListN.{length, get_or}
use borrow.Author.Tests.{eq-eqb, ne_eqb}
use Rattle.chart.specs.declared.Point.{Point}
use Rattle.chart.specs.Fields.{fields_of}
use Rattle.chart.proofs.ReplyLaws.{read_back}
use Rattle.calls.specs.Calls.{by}
use Rattle.calls.specs.Replies.{reply_fields}
use Rattle.calls.specs.declared.Call.{Call}
use Rattle.calls.specs.declared.Action.TheVariants.{Begin, Add, Drop, Clear, Close, Ask}
use Rattle.calls.specs.declared.Question.TheVariants.{Cell as OfCell, Row as OfRow, Reading as OfReading, Piece as OfPiece}
use Rattle.calls.specs.declared.Reading.{Reading}
use Rattle.readings.specs.Located.{reading_of}
use Rattle.wire.specs.Wire.{Decoded}
use Rattle.std.specs.Prelude.{Some, None}
use Rattle.wire.specs.Wire.{call_width, long, letter_of, short_of, point_of, call_of, decoded}
use Rattle.wire.proofs.CallLaws.{decoded-held}
use Rattle.holder_memory.specs.Layout.{Holder}
use Rattle.holder_answers.specs.Arrays.{with_heads, preparation, prepare_of, commit_of, answer_of}
use Rattle.holder_written.specs.Written.{Done, Prepared}
use Rattle.holder_answers.proofs.Cases.{close-made}
use Rattle.holder_answers.proofs.CloseLaws.{close-named}
use Rattle.holder_answers.proofs.AskLaws.{reading-named}
use Rattle.holder_written.proofs.Written.{done-by}
use Rattle.holder_bytes.specs.Responded.{is_call, next_holder, reply_by, Responded, BytesTold}

-- ---- what is done

-- Bytes that are this call
pub responded-done : (h n : Holder) (c : Call) (d : Decoded) → d ≡ Some c → (reply reply' : List ℕ) → Done h n c reply'
    → Responded h n d reply reply' true
unfolding is_call next_holder reply_by
responded-done h n c d e reply reply' m = record { done = rw e; holder = m.holder ∙ rw e; replied = m.replied ∙ rw e }

-- Bytes that are not a call
pub responded-none : (h : Holder) (d : Decoded) → d ≡ None → (reply : List ℕ) → Responded h h d reply reply false
unfolding is_call next_holder reply_by
responded-none h d e reply = record { done = rw e; holder = rw e; replied = rw e }

-- Bytes that are read as d
pub responded-as : (h n : Holder) (d e : Decoded) → d ≡ e → (reply reply' : List ℕ) (r : Bool) → Responded h n e reply reply' r
    → Responded h n d reply reply' r
responded-as h n d e q reply reply' r m = rw q m

-- The two halves of a close
pub halves-done : (h n : Holder) (p k w : ℕ) (reply : List ℕ) → Prepared h n p k w reply → (heads : List ℕ)
    → heads ≡ commit_of n.heads p k w → Done h (with_heads n heads) (by p (Close k)) reply
halves-done h n p k w reply m heads e =
    let same : preparation (prepare_of h p k).reply w n ≡ prepare_of h p k = rw (m.word, m.holder) in
    done-by h (with_heads n heads) (by p (Close k)) (prepare_of h p k).reply (close-made h n p k _ w same heads e) reply m.replied

-- ---- what the reply says

-- The fields of the reply to a call
replied-as : (h n : Holder) (d : Decoded) (c : Call) → d ≡ Some c → (reply reply' : List ℕ) (r : Bool) → Responded h n d reply reply' r
    → fields_of reply' ≡ reply_fields (answer_of h c).reply
unfolding reply_by
replied-as h n d c e reply reply' r m =
    ap fields_of (m.replied ∙ ap (λ (x : Decoded). reply_by h x reply) e) ∙ read_back (reply_fields (answer_of h c).reply)

pub responded-told : (h n : Holder) (s reply reply' : List ℕ) (r : Bool) → Responded h n (decoded s) reply reply' r
    → BytesTold h (decoded s) reply'
responded-told h n s reply reply' r m =
    record {
      close = λ p k e. rw (replied-as h n (decoded s) (by p (Close k)) e reply reply' r m) (close-named h p k);
      reading = λ p k x e.
          rw (replied-as h n (decoded s) (by p (Ask k (OfReading x))) e reply reply' r m) (reading-named h p k x (decoded-held p k x s e));
    }

-- ---- bytes as a call

pub decoded-other : (s : List ℕ) → (length s ≡ call_width → ⊥) → decoded s ≡ None
unfolding decoded
decoded-other s e = rw (ne_eqb (length s) call_width e)

pub decoded-call : (s : List ℕ) → length s ≡ call_width → (x y : ℕ) → x ≡ long (get_or s 3 0) (get_or s 4 0) (get_or s 5 0) (get_or s 6 0)
    → y ≡ long (get_or s 7 0) (get_or s 8 0) (get_or s 9 0) (get_or s 10 0) → decoded s ≡ call_of (get_or s 0 0) (get_or s 1 0) (get_or s 2 0) x y
unfolding decoded
decoded-call s e x y ex ey = rw (eq-eqb (length s) call_width e, ex, ey)

-- ---- the call of each number

module _ (n p k x y : ℕ) where
  pub is-begin : (s : Point) → n ≡ 0 → s ≡ point_of x y → call_of n p k x y ≡ Some (by p (Begin s))
  unfolding call_of
  is-begin s e f = rw (e, f)

  pub is-add : (a : ℕ) → n ≡ 1 → a ≡ letter_of x → call_of n p k x y ≡ Some (by p (Add a))
  unfolding call_of
  is-add a e f = rw (e, f)

  pub is-drop : n ≡ 2 → call_of n p k x y ≡ Some (by p Drop)
  unfolding call_of
  is-drop e = rw e

  pub is-clear : n ≡ 3 → call_of n p k x y ≡ Some (by p (Clear k))
  unfolding call_of
  is-clear e = rw e

  pub is-close : n ≡ 4 → call_of n p k x y ≡ Some (by p (Close k))
  unfolding call_of
  is-close e = rw e

  pub is-query : (s : Point) → n ≡ 5 → s ≡ point_of x y → call_of n p k x y ≡ Some (by p (Ask k (OfCell s)))
  unfolding call_of
  is-query s e f = rw (e, f)

  pub is_row : (a : ℕ) → n ≡ 6 → a ≡ short_of x → call_of n p k x y ≡ Some (by p (Ask k (OfRow a)))
  unfolding call_of
  is_row a e f = rw (e, f)

  pub is-reading : (v : Reading) → n ≡ 7 → v ≡ reading_of x y → call_of n p k x y ≡ Some (by p (Ask k (OfReading v)))
  unfolding call_of
  is-reading v e f = rw (e, f)

  pub is-piece : (a : ℕ) → n ≡ 8 → a ≡ short_of x → call_of n p k x y ≡ Some (by p (Ask k (OfPiece a)))
  unfolding call_of
  is-piece a e f = rw (e, f)
