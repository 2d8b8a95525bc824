-- The checker computes small files and the text of their lines. What follows H3 begins at position 18.
use Prim.Native.Nat.{ℕ}
use mathlib.Core.Path.{◌≡◌, refl}
use mathlib.Core.List.{List, [], ◌∷◌, ◌++◌}
use Rattle.chart.specs.Outline.{outline}
use Rattle.verdict.proofs.Computes.{computes}
use Rattle.fitting_records.specs.Found as Found
use Rattle.text_lines.specs.Text as Text
use Rattle.fitting_listing.specs.Lines as Lines
use Rattle.fitting_listing.specs.Bytes.{bytes_of}

-- Opens every definition of a listing at once
unfoldable listing : List ℕ → List ℕ
unfolding Found.marked Found.after_mark Found.found_in Found.width Text.digits Text.decimal Text.field_text Text.line_text Text.text_of
    Lines.tested_line Lines.outline_in Lines.listed Lines.lines_from Lines.lines_at Lines.lines_of bytes_of computes
listing file = Text.text_of (Lines.lines_of file)

H3 : List ℕ
H3 = bytes_of (outline (record { col = 0; row = 1 }) (1 ∷ 0 ∷ 1 ∷ 0 ∷ 3 ∷ 0 ∷ 3 ∷ 2 ∷ 3 ∷ 2 ∷ 1 ∷ 2 ∷ []))

-- "0 0 4", and a line feed
abbrev taken : List ℕ
taken = 48 ∷ 32 ∷ 48 ∷ 32 ∷ 52 ∷ 10 ∷ []

-- "1 2", the fault's last digit, " 18", and a line feed
abbrev faulty : ℕ → List ℕ
faulty d = 49 ∷ 32 ∷ 50 ∷ d ∷ 32 ∷ 49 ∷ 56 ∷ 10 ∷ []

empty-file : listing [] ≡ []
unfolding listing
empty-file = refl

H3-alone : listing H3 ≡ taken
unfolding listing H3
H3-alone = refl

-- 23: a wrong mark, half a mark, and a single byte that does not begin a mark
wrong_mark : listing (H3 ++ (75 ∷ 48 ∷ 0 ∷ 1 ∷ 0 ∷ 0 ∷ [])) ≡ taken ++ faulty 51
unfolding listing H3
wrong_mark = refl

cut-mark : listing (H3 ++ (75 ∷ [])) ≡ taken ++ faulty 51
unfolding listing H3
cut-mark = refl

lone-byte : listing (H3 ++ (0 ∷ [])) ≡ taken ++ faulty 51
unfolding listing H3
lone-byte = refl

-- 24: a record truncated after its mark, in its header, and in its letters
cut-after-mark : listing (H3 ++ (75 ∷ 79 ∷ [])) ≡ taken ++ faulty 52
unfolding listing H3
cut-after-mark = refl

cut-in-header : listing (H3 ++ (75 ∷ 79 ∷ 0 ∷ 1 ∷ 4 ∷ [])) ≡ taken ++ faulty 52
unfolding listing H3
cut-in-header = refl

cut-in-letters : listing (H3 ++ (75 ∷ 79 ∷ 0 ∷ 1 ∷ 4 ∷ 0 ∷ 1 ∷ 0 ∷ 3 ∷ [])) ≡ taken ++ faulty 52
unfolding listing H3
cut-in-letters = refl
