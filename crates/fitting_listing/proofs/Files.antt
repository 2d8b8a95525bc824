-- Each record is found whole at the front of the remaining file, so its outline has a line, and the lines of the rest follow.
use Prim.Native.Nat.{ℕ, ◌+◌, ◌/◌, ◌%◌, ◌≤◌}
use native.Mathlib.Nat.{add-zero, div-add-mod}
use native.Mathlib.Omega.{arith}
use mathlib.Core.Path.{◌≡◌, refl, sym, ap, ◌∙◌}
use mathlib.Core.List.{List, [], ◌∷◌, ◌++◌, append_assoc, append-nil}
use lib.ListN.{length, length-append}
use lib.Seq.{take-append_seam, drop_at}
use borrow.Author.Tests.{le-leb}
use Rattle.chart.specs.Outline.{Outline}
use Rattle.fitting_records.specs.Found.{header, wide, whole, marked, after_mark, found_in}
use Rattle.fitting_listing.specs.Lines.{most, tested_line, outline_in, lines_at, lines_of}
use Rattle.fitting_listing.specs.Bytes.{bytes_of, file_of, tested_from}
use Rattle.fitting_listing.proofs.LinesLaws.{lines-record, lines-found-end, lines-read}

counted : (n : ℕ) → wide (n % 256) (n / 256) ≡ n
counted n = omega (arith, div-add-mod n 256)

pub found-record : (o : Outline) (w : List ℕ) → found_in (bytes_of o ++ w) ≡ whole o.start.col o.start.row (length o.letters)
unfolding bytes_of found_in marked after_mark
found-record o w =
    let n = length o.letters in
    let fits : n ≤ length (o.letters ++ w) = rw (length-append o.letters w) (omega arith) in
    rw (counted n, le-leb n (length (o.letters ++ w)) fits) refl

pub same-outline : (o : Outline) (w : List ℕ) → outline_in o.start.col o.start.row (length o.letters) (bytes_of o ++ w) ≡ o
unfolding bytes_of outline_in
same-outline o w = rw (take-append_seam o.letters w) refl

bytes-long : (o : Outline) → length (bytes_of o) ≡ header + length o.letters
unfolding bytes_of
bytes-long o = omega arith

record-listed : (n at : ℕ) (o : Outline) (w : List ℕ)
    → lines_at n at (bytes_of o ++ w) ≡ tested_line n o ∷ lines_at (n + 1) (at + length (bytes_of o)) w
record-listed n at o w =
    let long = bytes-long o in
    lines-record n at o.start.col o.start.row (length o.letters) (bytes_of o ++ w) (found-record o w) ∙
    rw (same-outline o w, drop_at (bytes_of o) w (header + length o.letters) long, long) refl

-- Whole records, and then any bytes
pub records-listed : (n at : ℕ) (os : List Outline) (w : List ℕ)
    → lines_at n at (file_of os ++ w) ≡ tested_from n os ++ lines_at (n + length os) (at + length (file_of os)) w
unfolding file_of tested_from
records-listed n at [] w = rw (add-zero n, add-zero at) refl
records-listed n at (o ∷ os) w =
    let count : n + 1 + length os ≡ n + length (o ∷ os) = omega arith in
    let long : at + length (bytes_of o) + length (file_of os) ≡ at + length (bytes_of o ++ file_of os) =
    rw (length-append (bytes_of o) (file_of os)) (omega arith) in
    rw (
      append_assoc (bytes_of o) (file_of os) w,
      record-listed n at o (file_of os ++ w),
      records-listed (n + 1) (at + length (bytes_of o)) os w,
      count,
      long,
    )
    refl

nothing_left : (n at : ℕ) → lines_at n at [] ≡ []
unfolding found_in
nothing_left n at = lines-found-end n at [] refl

-- A file of records only
pub file-listed : (os : List Outline) → length (file_of os) ≤ most → lines_of (file_of os) ≡ tested_from 0 os
file-listed os h =
    lines-read (file_of os) h ∙ ap (lines_at 0 0) (sym (append-nil (file_of os))) ∙ records-listed 0 0 os [] ∙
    rw (nothing_left (0 + length os) (0 + length (file_of os))) (append-nil (tested_from 0 os))
