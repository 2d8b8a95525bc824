-- No piece passed has a back-step, and the search stops at the first that has one.
use Prim.Native.Nat.{ℕ, ◌+◌, ◌*◌, ◌≤◌, ◌<◌}
use native.Mathlib.Omega.{arith}
use mathlib.Core.Path.{◌≡◌, refl}
use mathlib.Core.List.{List}
use lib.ListN.{length, get_or}
use Rattle.chart.specs.Limits.{longest}
use Rattle.convexity.specs.Pieces.{rounds}
use Rattle.back_steps.specs.parts.BackSteps.{part, straight_for, Within}
use Rattle.pieces.proofs.LaidLaws.{length-rounds}
use Rattle.back_steps.proofs.BackStepLaws.{Searched, searched-start, InPiece, searched-next, searched-found, searched-end}
use Rattle.back_steps.proofs.BackStepLaws.{searched-off, part_length}
use Rattle.back_steps.proofs.first.Goals.{then-to-from-via-then-to-from, then-to-from-via-else-to-from+then-letters-to}
use Rattle.back_steps.proofs.first.Goals as goal

pub loop-k-init : goal.loop-k-init
loop-k-init c = searched-start _ _

pub returns-then-to-from : goal.returns-then-to-from
returns-then-to-from c =
    let n = length-rounds c.args.letters.now in
    searched-off (rounds c.args.letters.now) c.args.cuts.at c.loop-k.k c.loop-k-test.true
    (λ rises within.
    elim c.then-to-from.branch [
      | then-to-from-via-then-to-from w ↦ omega arith
      | then-to-from-via-else-to-from+then-letters-to w ↦ omega arith
    ])

-- After the tests the piece lies in the letters read cyclically
lies : {x y : ℕ} (letters : List ℕ) → length letters ≤ longest → x ≤ y → y ≤ 4 * length letters → Within x y letters
lies letters h l m = record { short = h; rises = l; round = m }

-- The search in one piece
here : {letters at : List ℕ} {k i : ℕ} → Searched (rounds letters) at k → k < 4 → Within (get_or at k 0) (get_or at (k + 1) 0) letters
    → i ≡ straight_for k (part (get_or at k 0) (get_or at (k + 1) 0) (rounds letters))
    → InPiece (rounds letters) at k (get_or at k 0) (get_or at (k + 1) 0) i
here {letters} s h l e =
    record {
      searched = s;
      piece_lt = h;
      begins = refl;
      ends = refl;
      rises = l.rises;
      within = omega (arith, l.round, length-rounds letters);
      stops = e;
    }

pub straight_for-i-requires : goal.straight_for-i-requires
straight_for-i-requires c = lies _ c.requires c.if-to-from.false c.if-letters-to.false

pub overflow_add-result : goal.overflow_add-result
overflow_add-result c = omega (arith, c.requires, c.if-letters-to.false, c.if-to-from.false, c.if-i-to.true)

pub returns-then-i-to : goal.returns-then-i-to
returns-then-i-to c =
    let l = lies c.args.letters.now c.requires c.if-to-from.false c.if-letters-to.false in
    searched-found (here c.loop-k.invariant c.loop-k-test.true l c.straight_for-i.ensures) (rw (part_length l) c.if-i-to.true)

pub loop-k-preserved : goal.loop-k-preserved
loop-k-preserved c =
    let l = lies c.args.letters.now c.requires c.if-to-from.false c.if-letters-to.false in
    searched-next (here c.loop-k.invariant c.loop-k-test.true l c.straight_for-i.ensures) (rw (part_length l) c.if-i-to.false)

pub returns : goal.returns
returns c = searched-end c.loop-k.invariant c.loop-k-test.false
