-- The letters are the first ones of the window of the party's draft.
use native.Mathlib.Nat.{add-sub_cancel_left}
use Rattle.std.proofs.Common.{◌≡◌, ℕ, ◌*◌, min, List, take, drop, sym, arith}
use lib.Seq.{take-take}
use Rattle.chart.specs.Limits.{longest}
use Rattle.windows.specs.Windows.{window}
use Rattle.holder_memory.proofs.letters.sent.Goals as goal

letters-window : (letters : List ℕ) (p count n : ℕ) → n ≡ min count longest
    → take n (drop (longest * p) letters) ≡ take (min count longest) (window (longest * p) longest letters)
letters-window letters p count n e = rw e (sym (take-take (min count longest) longest (drop (longest * p) letters) (omega arith)))

pub returns : goal.returns
returns c = rw add-sub_cancel_left (letters-window c.args.letters.now c.args.party _ _ c.min-n.ensures)
