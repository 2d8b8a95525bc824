-- The test does not depend on a record's position, so bytes further on have the same lines with larger numbers and positions.
use Prim.Native.Nat.{ℕ, zero, suc, ◌+◌}
use native.Mathlib.Nat.{add_assoc}
use mathlib.Core.Path.{◌≡◌, refl}
use mathlib.Core.Bool.{false}
use mathlib.Core.List.{List, map}
use lib.ListN.{length, drop}
use lib.Dec.{leb}
use Rattle.chart.specs.Limits.{most_numbers}
use Rattle.chart.specs.Outline.{Outline}
use Rattle.verdict.specs.Verdict.{test_fields}
use Rattle.verdict.proofs.Numbers.{tested-number}
use Rattle.std.specs.Prelude.{Option, Some, None, Result, Ok, Err}
use Rattle.fitting_records.specs.declared.Record.{Record}
use Rattle.fitting_records.specs.declared.Fault.{Fault}
use Rattle.fitting_records.specs.declared.Fault.TheVariants.{WrongMark, Truncated}
use Rattle.fitting_records.specs.Found.{found_in, width}
use Rattle.text_lines.specs.declared.Line.{Line}
use Rattle.fitting_listing.specs.Faults as faults
use Rattle.fitting_listing.specs.Lines.{tested_line, outline_in, listed, lines_from, lines_at}
use Rattle.fitting_listing.specs.Claims.{moved_line}

-- The test's number is never a fault's
no-fault : (o : Outline) → leb faults.wrong_mark (test_fields o most_numbers).number ≡ false
no-fault o = tested-number (λ a. leb faults.wrong_mark a ≡ false) o refl refl (λ e. refl) refl refl refl refl refl refl

module _ (n p : ℕ) where
  tested-moved : (i : ℕ) (o : Outline) → tested_line (n + i) o ≡ moved_line n p (tested_line i o)
  unfolding tested_line moved_line
  tested-moved i o = rw (no-fault o)

  listed-moved : (i at : ℕ) (w : List ℕ) (f : Result (Option Record) Fault) (ls : List Line)
      → listed (n + i) (p + at) w f (map (moved_line n p) ls) ≡ map (moved_line n p) (listed i at w f ls)
  unfolding listed moved_line
  listed-moved i at w (Ok None) ls = refl
  listed-moved i at w (Err WrongMark) ls = refl
  listed-moved i at w (Err Truncated) ls = refl
  listed-moved i at w (Ok (Some r)) ls = rw (tested-moved i (outline_in r.col r.row r.count w))

  lines-moved : (k i at : ℕ) (w : List ℕ) → lines_from k (n + i) (p + at) w ≡ map (moved_line n p) (lines_from k i at w)
  unfolding lines_from
  lines-moved zero i at w = refl
  lines-moved (suc k) i at w =
      let read = width (found_in w) in
      rw (add_assoc n i 1, add_assoc p at read, lines-moved k (i + 1) (at + read) (drop read w)) (listed-moved i at w (found_in w) _)

  pub lines-further : (i at : ℕ) (w : List ℕ) → lines_at (n + i) (p + at) w ≡ map (moved_line n p) (lines_at i at w)
  unfolding lines_at
  lines-further i at w = lines-moved (length w) i at w
