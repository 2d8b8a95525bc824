-- The theorems on listings follow from the numbers that a test can have, from the parts of a file, and from the lines of bytes further on.
use Prim.Native.Nat.{ℕ, suc, ◌≤◌}
use native.Mathlib.Nat.{zero-add, add-zero}
use native.Mathlib.Omega.{arith}
use mathlib.Core.Path.{◌≡◌, refl, sym, ◌∙◌}
use mathlib.Core.Bool.{true, false, true≢false}
use mathlib.Core.List.{List, ◌++◌, map, Memᴰ}
use lib.ListN.{length, length-append}
use lib.Dec.{eqb}
use borrow.Author.Tests.{eqb-true, eqb-false, eq-eqb, le-ltb}
use Rattle.base.specs.Each.{some_pass}
use Rattle.base.proofs.EachLaws.{any_found, any_at}
use Rattle.chart.specs.Limits.{side}
use Rattle.chart.specs.Outline.{Outline}
use Rattle.lattice.specs.Refusals.{bad_start}
use Rattle.verdict.proofs.Numbers.{tested-number}
use Rattle.fitting_records.proofs.RecordLaws.{record-stands}
use Rattle.text_lines.specs.declared.Line.{Line}
use Rattle.fitting_listing.specs.Faults as faults
use Rattle.fitting_listing.specs.Lines.{most, tested_line, outline_in, lines_of}
use Rattle.fitting_listing.specs.Bytes.{file_of}
use Rattle.fitting_listing.specs.Claims.{answers, AllBytes, Storable, Parts, moved_line}
use Rattle.fitting_listing.proofs.LinesLaws.{lines-read}
use Rattle.fitting_listing.proofs.Files.{records-listed, file-listed}
use Rattle.fitting_listing.proofs.EveryLine.{file-all}
use Rattle.fitting_listing.proofs.Parts.{bytes-further, record-storable, apart, one_way}
use Rattle.fitting_listing.proofs.Moved.{lines-further}

-- ---- the numbers of the lines (contract 11.2)

known : (a : ℕ) → some_pass (eqb a) answers ≡ true → Memᴰ a answers
known a e =
    let (b, m, same) = any_found (eqb a) answers e in
    mathlib.Core.List.Memᴰ.cast (eqb-true a b same) m

-- The second number of every line is 0, one of 1 to 6, 8 or 9, or a fault's
pub answers-known : (file : List ℕ) (l : Line) → Memᴰ l (lines_of file) → Memᴰ l.answer answers
unfolding some_pass tested_line
answers-known file =
    file-all (λ w. Unit {0}) (λ l. Memᴰ l.answer answers) (λ j w q. tt)
    (λ n c r m w q e.
    tested-number (λ a. Memᴰ a answers) (outline_in c r m w) (known 0 refl) (known 1 refl) (λ off. known 2 refl)
    (known 3 refl) (known 4 refl) (known 5 refl) (known 6 refl) (known 8 refl) (known 9 refl))
    (λ n at. known faults.wrong_mark refl)
    (λ n at. known faults.truncated refl)
    (known faults.too_long refl)
    file tt

-- 10 never occurs
pub ten-never : (file : List ℕ) (l : Line) → Memᴰ l (lines_of file) → l.answer ≡ 10 → ⊥
unfolding some_pass
ten-never file l m e =
    let ten : Memᴰ 10 answers = mathlib.Core.List.Memᴰ.cast (sym e) (answers-known file l m) in
    true≢false (sym (any_at (eqb 10) answers 10 ten (eq-eqb 10 10 refl)))

started : (o : Outline) → Storable o → bad_start o.start ≡ false
unfolding bad_start
started o s = rw (le-ltb side o.start.col (omega (arith, s.col)), le-ltb side o.start.row (omega (arith, s.row)))

other : (a : ℕ) → eqb a 2 ≡ false → a ≡ 2 → ⊥
other a = eqb-false a 2

-- 2 never occurs in a file of bytes, because every byte is a number of the chart's corners
pub two-never : (file : List ℕ) → AllBytes file → (l : Line) → Memᴰ l (lines_of file) → l.answer ≡ 2 → ⊥
unfolding tested_line
two-never file b =
    file-all AllBytes (λ l. l.answer ≡ 2 → ⊥) bytes-further
    (λ n c r m w q e.
    let o = outline_in c r m w in
    tested-number (λ a. a ≡ 2 → ⊥) o (other 0 refl) (other 1 refl)
    (λ off. absurd (true≢false (sym off ∙ started o (record-storable q (record-stands w e)))))
    (other 3 refl) (other 4 refl) (other 5 refl) (other 6 refl) (other 8 refl) (other 9 refl))
    (λ n at. other faults.wrong_mark refl)
    (λ n at. other faults.truncated refl)
    (other faults.too_long refl)
    file b

-- ---- the parts of a file (contract 11.1)

-- Every file of bytes is whole records, and then a rest that does not begin with one
pub parts-exist : (file : List ℕ) → AllBytes file → (os : List Outline) × (rest : List ℕ) × Parts file os rest
parts-exist file b = apart (suc (length file)) file (omega arith) b

-- No file has other parts
pub parts-unique : {file rest rest' : List ℕ} {os us : List Outline} → Parts file os rest → Parts file us rest'
    → (os ≡ us) × (rest ≡ rest')
parts-unique {os = os} {us = us} p q = one_way os us (sym p.joined ∙ q.joined) p.none_left q.none_left

-- ---- one file after another (contract 11.2 and 11.3)

-- Whole records before a file: their lines come first, and then the file's, whose record numbers and positions continue. This holds for at
-- most 65,536 bytes in all. For more bytes the only line is that of 25 (lines-long)
pub lines-appended : (os : List Outline) (file : List ℕ) → length (file_of os ++ file) ≤ most
    → lines_of (file_of os ++ file) ≡ lines_of (file_of os) ++ map (moved_line (length os) (length (file_of os))) (lines_of file)
lines-appended os file h =
    let both = length-append (file_of os) file in
    let n = length os in
    let p = length (file_of os) in
    lines-read (file_of os ++ file) h ∙ records-listed 0 0 os file ∙
    rw (
      file-listed os (omega arith),
      lines-read file (omega arith),
      zero-add n,
      zero-add p,
      ← (lines-further n p 0 0 file),
      add-zero n,
      add-zero p,
    )
