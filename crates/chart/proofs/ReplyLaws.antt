-- A buffer with room for a reply has the seven numbers first and then its old content,
-- and a shorter one is unchanged: the test of the room decides.
use Prim.Native.Nat.{ℕ, ◌≤◌, ◌<◌}
use native.Mathlib.Omega.{arith}
use mathlib.Core.Path.{◌≡◌, refl, ap, ◌∙◌}
use mathlib.Core.List.{List, ◌++◌, append-nil}
use lib.ListN.{length, drop, drop_of_length-le}
use borrow.Author.Tests.{le-leb, lt-leb}
use Rattle.chart.specs.declared.Fields.{Fields}
use Rattle.chart.specs.Fields.{reply_width, numbers_of, fields_of, reply_after}

pub reply_after-room : (f : Fields) (l : List ℕ) → reply_width ≤ length l → reply_after f l ≡ numbers_of f ++ drop reply_width l
unfolding reply_after
reply_after-room f l room = rw (le-leb reply_width (length l) room)

pub reply_after-short : (f : Fields) (l : List ℕ) → length l < reply_width → reply_after f l ≡ l
unfolding reply_after
reply_after-short f l short = rw (lt-leb reply_width (length l) short)

-- Reading the buffer gives the reply back
pub fields-written : (f : Fields) (l : List ℕ) → reply_width ≤ length l → fields_of (reply_after f l) ≡ f
unfolding fields_of numbers_of
fields-written f l room = rw (reply_after-room f l room)

pub read_back : (f : Fields) → fields_of (numbers_of f) ≡ f
unfolding fields_of numbers_of
read_back f = refl

-- A buffer of seven numbers is the reply
pub seven-written : (f : Fields) (l : List ℕ) → length l ≡ reply_width → reply_after f l ≡ numbers_of f
seven-written f l e =
    let all : length l ≤ reply_width = omega (arith, e) in
    reply_after-room f l (omega (arith, e)) ∙ ap (λ (t : List ℕ). numbers_of f ++ t) (drop_of_length-le l all) ∙ append-nil (numbers_of f)
