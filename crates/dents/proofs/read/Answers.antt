-- No piece passed has a dent, their edges are in the list in order, and the search stops at the first dent.
use Prim.Native.Nat.{ℕ, ◌+◌, ◌<◌}
use borrow.Author.Rules.{rules}
use mathlib.Core.Path.{◌≡◌, refl, ◌∙◌}
use mathlib.Core.List.{List}
use lib.ListN.{length, get_or}
use lib.IntN.{ℤ}
use Rattle.std.specs.Prelude.{Result, ⊤}
use Rattle.std.proofs.lemmas.Result.{err_from_is_err_and}
use Rattle.dents.specs.declared.Dent.{Dent}
use Rattle.dents.specs.parts.Dents.{PieceRead}
use Rattle.dents.proofs.DentLaws.{Passed, Read, passed_start, passed-next, passed-dent, passed-end}
use Rattle.dents.proofs.read.Goals as goal

-- Piece k is read
here : {buffer at : List ℕ} {before list after : List ℤ} {count more k : ℕ} {r : Result ⊤ Dent} → Passed buffer at before list count k → k < 4
    → length after ≡ length list → PieceRead buffer (get_or at k 0) (get_or at (k + 1) 0) k count list after more r
    → Read buffer at before list count k (get_or at k 0) (get_or at (k + 1) 0) after more r
here p h l f = record { pieces = p; piece_lt = h; begins = refl; ends = refl; kept = l; found = f }

pub loop-k-init : goal.loop-k-init
loop-k-init c = record { same_reference = refl; passed = passed_start _ _ _ }

pub returns-in_err-read_piece : goal.returns-in_err-read_piece
returns-in_err-read_piece c =
    let p = err_from_is_err_and c.from_residual.result c.from_residual.ensures.1 in
    rw (p.1, p.2)
    (passed-dent (here c.loop-k.invariant.passed c.loop-k-test.true c.read_piece.ensures.kept c.in_err-read_piece.ensures.read))

pub loop-k-preserved : goal.loop-k-preserved
loop-k-preserved c =
    record {
      same_reference = c.read_piece.ensures.same_reference ∙ c.loop-k.invariant.same_reference;
      passed = passed-next (here c.loop-k.invariant.passed c.loop-k-test.true c.read_piece.ensures.kept c.in_ok-read_piece.ensures.read);
    }

pub returns : goal.returns
returns c o short h =
    let e = passed-end c.loop-k.invariant.passed c.loop-k-test.false o short h in
    search (rules, e)
