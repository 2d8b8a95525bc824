-- The reply to one call in a session is the plain book's reply after the calls before it, because the whole list of events is the book's.
use Prim.Native.Nat.{ℕ}
use mathlib.Core.Path.{◌≡◌, refl, sym, ap, ◌∙◌}
use mathlib.Core.List.{List, [], ◌∷◌, ◌++◌}
use lib.Ieee.{Float}
use Rattle.chart.specs.Fields.{numbers_of, fields_of}
use Rattle.chart.specs.declared.Fields.{Fields}
use Rattle.calls.specs.Replies.{reply_fields, piece_in}
use Rattle.calls.specs.declared.Call.{Call}
use Rattle.drawing.specs.Points.{point_after}
use Rattle.holder_model.specs.Book.{Entry}
use Rattle.book_replies.specs.After.{reply_to}
use Rattle.holder_session.specs.Session.{Event, Fresh, Called, Drew, Sent, Drafted, Began, RestoreBegan, Ended, Cut}
use Rattle.holder_session.specs.Session.{piece_call}
use Rattle.holder_written.specs.Written.{draft_fields}
use Rattle.holder_session.specs.Booked.{State, After, seen, drafting, numbers_to, numbers_for, restored_to, booked, next, booked_from}
use Rattle.holder_session.specs.Booked.{after_all}
use Rattle.holder_session.specs.Replied.{Gets, by_arguments, by_piece, by_bytes, by_halves, Happened, Replied}
use Rattle.holder_session.proofs.Theorem.{session-theorem}

-- ---- one event of a list

head_of : {A : Type 0} (x y : A) (xs ys : List A) → x ∷ xs ≡ y ∷ ys → x ≡ y
head_of x y xs ys e = cc

tail_of : {A : Type 0} (x y : A) (xs ys : List A) → x ∷ xs ≡ y ∷ ys → xs ≡ ys
tail_of x y xs ys e = cc

one-booked : (t : State) (us : List Event) (x : Event) (vs : List Event) → us ++ (x ∷ vs) ≡ booked_from t (us ++ (x ∷ vs))
    → x ≡ booked (after_all t us) x
unfolding booked_from after_all
one-booked t [] x vs e = head_of _ _ _ _ e
one-booked t (u ∷ us) x vs e = one-booked (next t u) us x vs (tail_of _ _ _ _ e)

-- The event is the book's after the calls before it
pub happened-booked : (cs : List Entry) (x : Event) → (e : Happened cs x) → x ≡ booked (after_all (After []) e.earlier) x
happened-booked cs x e =
    one-booked (After []) e.earlier x e.later (session-theorem e.memory e.left (e.earlier ++ (x ∷ e.later)) e.session)

-- ---- its reply

-- The seven numbers of an event
numbers_in : Event → List ℕ
numbers_in Fresh = []
numbers_in (Called c reply) = reply
numbers_in (Drew p k i point point' reply) = reply
numbers_in (Sent bytes reply reply' r) = reply'
numbers_in (Drafted p reply) = reply
numbers_in (Began p k reply) = reply
numbers_in (RestoreBegan p k bytes reply) = reply
numbers_in (Ended p k) = []
numbers_in (Cut p k) = []

gets-numbers : (t : State) (x : Event) (c : Call) (reply : List ℕ) → Gets x c reply → x ≡ booked t x → reply ≡ numbers_to (seen t) c
unfolding booked numbers_for numbers_in
gets-numbers t x c reply by_arguments e = ap numbers_in e
gets-numbers t x c reply by_piece e = ap numbers_in e
gets-numbers t x c reply (by_bytes d) e = ap numbers_in e ∙ rw d
gets-numbers t x c reply by_halves e = ap numbers_in e

fields-of : (f : Fields) → fields_of (numbers_of f) ≡ f
unfolding fields_of numbers_of
fields-of f = refl

-- The fields of a reply are the book's
pub replied-by-book : (cs : List Entry) (c : Call) (g : Fields) → Replied cs c g → g ≡ reply_fields (reply_to cs c)
replied-by-book cs c g e =
    let s = e.happened in
    let t = after_all (After []) s.earlier in
    let same : e.numbers ≡ numbers_to (seen t) c = gets-numbers t e.event c e.numbers e.got (happened-booked cs e.event s) in
    sym e.fields ∙ ap fields_of same ∙ ap (λ (ds : List Entry). fields_of (numbers_to ds c)) s.calls
    ∙ fields-of (reply_fields (reply_to cs c))

-- ---- a point

point_in : Event → List Float
point_in (Drew p k i point point' reply) = point'
point_in Fresh = []
point_in (Called c reply) = []
point_in (Sent bytes reply reply' r) = []
point_in (Drafted p reply) = []
point_in (Began p k reply) = []
point_in (RestoreBegan p k bytes reply) = []
point_in (Ended p k) = []
point_in (Cut p k) = []

-- The point beside a piece's reply is the book's
pub point-by-book : (cs : List Entry) (p k i : ℕ) (point point' : List Float) (reply : List ℕ) → Happened cs (Drew p k i point point' reply)
    → point' ≡ point_after (piece_in (reply_to cs (piece_call p k i))) point
unfolding booked point_in
point-by-book cs p k i point point' reply e =
    ap point_in (happened-booked cs (Drew p k i point point' reply) e)
    ∙ ap (λ (ds : List Entry). point_after (piece_in (reply_to ds (piece_call p k i))) point) e.calls

-- ---- a draft

-- What is said of a draft is the book's. Between the halves of a close its party has none
pub draft-by-book : (cs : List Entry) (p : ℕ) (reply : List ℕ) → (e : Happened cs (Drafted p reply))
    → reply ≡ numbers_of (draft_fields (drafting (after_all (After []) e.earlier) p))
unfolding booked numbers_in
draft-by-book cs p reply e = ap numbers_in (happened-booked cs (Drafted p reply) e)

-- ---- a restore

-- Its reply is the book's after the calls and restores before it
pub restore-by-book : (cs : List Entry) (p k : ℕ) (bytes reply : List ℕ) → Happened cs (RestoreBegan p k bytes reply)
    → reply ≡ restored_to cs p k bytes
unfolding booked numbers_in
restore-by-book cs p k bytes reply e =
    ap numbers_in (happened-booked cs (RestoreBegan p k bytes reply) e) ∙ ap (λ (ds : List Entry). restored_to ds p k bytes) e.calls
