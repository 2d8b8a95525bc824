-- The model on some lists of calls: the checker computes the replies. A full draft is
-- too long to compute, so a law, by induction over n, says what n adds do.
use Prim.Native.Nat.{ℕ, zero, suc, ◌+◌, ◌≤◌}
use native.Mathlib.Omega.{arith}
use mathlib.Core.Path.{◌≡◌, refl, ap, ◌∙◌}
use mathlib.Core.Bool.{Bool, true, false}
use mathlib.Core.Option.{some}
use mathlib.Core.List.{List, [], ◌∷◌, ◌++◌, map, append_assoc, append-nil}
use lib.ListN.{length, replicate, length-append}
use lib.Dec.{leb, lit≤}
use borrow.Author.Tests.{lt-leb}
use Rattle.base.specs.Put.{put}
use Rattle.chart.specs.Limits.{side, longest}
use Rattle.chart.specs.Outline.{Outline, at}
use Rattle.chart.specs.declared.Point.{Point}
use Rattle.chart.specs.declared.Fields.{Fields}
use Rattle.chart.specs.Fields.{numbered, placed, worded, accepted, no_word, inside, outside, taken, same}
use Rattle.chart.specs.Taken.{taken_with}
use Rattle.lattice.specs.Refusals.{Simple}
use Rattle.verdict.proofs.Computes.{computes}
use Rattle.calls.specs.Calls.{by}
use Rattle.calls.specs.Replies.{reply_fields}
use Rattle.calls.specs.declared.Action.{Action}
use Rattle.calls.specs.declared.Action.TheVariants.{Begin, Add, Drop, Clear, Close, Ask}
use Rattle.calls.specs.declared.Question.TheVariants.{Cell as OfCell}
use Rattle.polygon.specs.Loose.{bad_cell}
use Rattle.holder_model.specs.Book
use Rattle.holder_model.specs.Parties.{acts_from}
use Rattle.holder_model.proofs.SameBlock.{same-border-iff}
use Rattle.holder_model.proofs.Parties.{alone}

-- A query at place k
unfoldable pub query : ℕ → Point → Action
query k x = Ask k (OfCell x)

-- Begin, add each letter, close at place k
unfoldable pub draw : ℕ → Point → List ℕ → List Action
draw k s w = Begin s ∷ (map (λ a. Add a) w ++ (Close k ∷ []))

-- The fields of the replies to calls of party 0
unfoldable pub replied : List Action → List Fields
replied cs = map reply_fields (Book.replies (map (by 0) cs))

-- The replies of n calls that succeed, with no word
unfoldable pub done : ℕ → List Fields
done n = replicate n (worded no_word)

unfoldable pub H3 : List ℕ
H3 = 1 ∷ 0 ∷ 1 ∷ 0 ∷ 3 ∷ 0 ∷ 3 ∷ 2 ∷ 3 ∷ 2 ∷ 1 ∷ 2 ∷ []

unfoldable pub H4 : List ℕ
H4 = 2 ∷ 1 ∷ 0 ∷ 1 ∷ 0 ∷ 3 ∷ 0 ∷ 3 ∷ 2 ∷ 3 ∷ 2 ∷ 1 ∷ []

unfoldable pub H3-back : List ℕ
H3-back = 0 ∷ 3 ∷ 0 ∷ 1 ∷ 0 ∷ 1 ∷ 2 ∷ 1 ∷ 2 ∷ 3 ∷ 2 ∷ 3 ∷ []

unfoldable pub H6 : List ℕ
H6 = 1 ∷ 1 ∷ 1 ∷ 0 ∷ 3 ∷ 3 ∷ 0 ∷ 0 ∷ 3 ∷ 2 ∷ 2 ∷ 2 ∷ []

-- Opens the model for the proofs that compute it
opened : Bool
unfolding query draw replied done H3 H4 H3-back H6 computes reply_fields bad_cell Book.fresh Book.equals_work Book.begins Book.adds Book.drops
    Book.closed_reply Book.work_after Book.closes Book.asked Book.asked_row Book.asks Book.acts Book.answer acts_from put Book.replies_from
    Book.replies
opened = true

-- The outlines of H3, of H4 and of H3 drawn backward pass 1 to 6 and have the same border
abbrev h3 : Outline
h3 = record { start = at 0 1; letters = H3 }

abbrev h4 : Outline
h4 = record { start = at 1 1; letters = H4 }

abbrev h3-back : Outline
h3-back = record { start = at 0 1; letters = H3-back }

simple-h3 : Simple h3
unfolding opened
simple-h3 = record { counted = refl; started = refl; lettered = refl; stays = refl; closed = refl; simple = refl }

simple-h4 : Simple h4
unfolding opened
simple-h4 = record { counted = refl; started = refl; lettered = refl; stays = refl; closed = refl; simple = refl }

simple-h3-back : Simple h3-back
unfolding opened
simple-h3-back = record { counted = refl; started = refl; lettered = refl; stays = refl; closed = refl; simple = refl }

same-h4 : Book.same_block h4 h3 ≡ true
unfolding opened
same-h4 = (same-border-iff h4 h3 simple-h4 simple-h3).1 refl

same-h3-back : Book.same_block h3-back h4 ≡ true
unfolding opened
same-h3-back = (same-border-iff h3-back h4 simple-h3-back simple-h4).1 refl

-- The replies to H3, then H4, then H3 drawn backward, and three queries, depending on whether the blocks are the same
by-words : Bool → Bool → List Fields
by-words t u =
    done 13 ++ (accepted taken 4 (at 0 1) ∷ (done 13 ++ (reply_fields (Book.closed_reply t (taken_with 4 (at 0 1))) ∷
    (done 13 ++ (reply_fields (Book.closed_reply u (taken_with 4 (at 0 1))) ∷ worded inside ∷ worded outside ∷ numbered 11 ∷ [])))))

-- H3, then H4, which is the same block from another start, then H3 drawn backward: "same" both times
pub taken-then-same : replied
    (draw 2 (at 0 1) H3 ++
    (draw 2 (at 1 1) H4 ++ (draw 2 (at 0 1) H3-back ++ (query 2 (at 1 2) ∷ query 2 (at 0 2) ∷ query 2 (at 0 side) ∷ []))))
    ≡ done 13 ++ (accepted taken 4 (at 0 1) ∷ (done 13 ++ (accepted same 4 (at 0 1) ∷
    (done 13 ++ (accepted same 4 (at 0 1) ∷ worded inside ∷ worded outside ∷ numbered 11 ∷ [])))))
unfolding opened by-words
taken-then-same = λ z. by-words (same-h4 z) (same-h3-back z)

-- With a clear between, nothing is at work, and H3 again is "taken". A refused close keeps what is at work and ends the draft
pub clear-between : replied
    (draw 2 (at 0 1) H3 ++ (Clear 2 ∷ query 2 (at 1 1) ∷ (draw 2 (at 0 1) H3 ++ (draw 2 (at 0 0) H6 ++ (Close 2 ∷ query 2 (at 1 1) ∷ [])))))
    ≡ done 13 ++ (accepted taken 4 (at 0 1) ∷ worded no_word ∷ numbered 12 ∷ (done 13 ++ (accepted taken 4 (at 0 1) ∷ (done 13 ++
    (record { number = 9; word = no_word; place = 4; piece = 2; length = 4; col = 1; row = 1 } ∷ numbered 13 ∷ worded inside ∷ [])))))
unfolding opened
clear-between = refl

-- A party's state with this draft and nothing at work
drawn : Point → List ℕ → Book.PartyModel
drawn s w = Book.put_draft (Book.fresh 0) (some (record { start = s; letters = w }))

-- n adds of a letter to a draft that has room for them
adding : (n : ℕ) (s : Point) (w : List ℕ) (acting : List Action) → length w + n ≤ longest →
    map reply_fields (acts_from (drawn s w) (replicate n (Add 1) ++ acting))
    ≡ done n ++ map reply_fields (acts_from (drawn s (w ++ replicate n 1)) acting)
unfolding drawn done reply_fields Book.fresh acts_from Book.acts Book.adds
adding zero s w acting fits = rw append-nil
adding (suc n) s w acting fits =
    let room : leb longest (length w) ≡ false = lt-leb longest (length w) (omega arith) in
    let rest = adding n s (w ++ (1 ∷ [])) acting (simp length-append (omega arith)) in
    rw room (ap (λ (r : List Fields). worded no_word ∷ r) (rest ∙ simp append_assoc))

-- Calls that the state refuses
pub out-of-place : List Action
out-of-place =
    query 2 (at 0 side) ∷ Add 9 ∷ Close 2 ∷ Drop ∷ Begin (at 0 (suc side)) ∷ Begin (at 0 0) ∷ Begin (at 0 (suc side)) ∷ Add 4 ∷
    (replicate longest (Add 1) ++ (Add 9 ∷ Drop ∷ Drop ∷ []))

replied-alone : (acting : List Action) → replied acting ≡ map reply_fields (acts_from (Book.fresh 0) acting)
unfolding replied Book.replies
replied-alone acting = ap (map reply_fields) (alone 0 refl Book.fresh acting)

from-page : map reply_fields (acts_from (Book.fresh 0) out-of-place)
    ≡ numbered 12 ∷ numbered 13 ∷ numbered 13 ∷ numbered 13 ∷ numbered 2 ∷ worded no_word ∷ numbered 14 ∷ placed 3 0 ∷
    (done longest ++ (numbered 15 ∷ worded no_word ∷ numbered 13 ∷ []))
unfolding opened drawn out-of-place
from-page =
    ap (λ (r : List Fields).
    numbered 12 ∷ numbered 13 ∷ numbered 13 ∷ numbered 13 ∷ numbered 2 ∷ worded no_word ∷ numbered 14 ∷ placed 3 0 ∷ r)
    (adding longest (at 0 0) [] (Add 9 ∷ Drop ∷ Drop ∷ []) (lit≤ tt))

-- Every refusal by the state: 12, 13 three times, 14, and 15 at 612 letters and not before; 2 and 3 where they belong
pub state-refusals : replied out-of-place
    ≡ numbered 12 ∷ numbered 13 ∷ numbered 13 ∷ numbered 13 ∷ numbered 2 ∷ worded no_word ∷ numbered 14 ∷ placed 3 0 ∷
    (done longest ++ (numbered 15 ∷ worded no_word ∷ numbered 13 ∷ []))
state-refusals = replied-alone out-of-place ∙ from-page

-- Knee and ankle mixed: each has its own draft and its own outlines. 19 comes
-- before 20, and both before all others. A close refused by 20 ends the draft
pub both-parties : map reply_fields (Book.replies (
    map (by 1) (Begin (at 0 0) ∷ []) ++ (map (by 0) (draw 1 (at 0 1) H3) ++ (
    by 2 (Close 4) ∷ by 1 (Clear 4) ∷ by 0 (Close 4) ∷ by 0 (query 1 (at 1 1)) ∷ by 1 (query 1 (at 1 1)) ∷ by 0 (query 3 (at 1 1)) ∷ by 1
    (Close 4) ∷ by 1 (Close 1) ∷ []))))
    ≡ done 14 ++ (accepted taken 4 (at 0 1)
    ∷ numbered 19 ∷ numbered 20 ∷ numbered 20 ∷ worded inside ∷ numbered 12 ∷ numbered 12 ∷ numbered 20 ∷ numbered 13 ∷ [])
unfolding opened
both-parties = refl
