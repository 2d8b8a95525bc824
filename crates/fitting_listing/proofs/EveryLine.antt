-- A line is a record's, a fault's, or that of a file that is too long. So what holds for each of these holds for every line of a listing.
use Prim.Native.Nat.{ℕ, zero, suc, ◌+◌}
use native.Mathlib.Decide.{dec_le}
use native.Mathlib.Omega.{arith}
use mathlib.Core.Path.{◌≡◌, refl}
use mathlib.Core.Logic.{⊎_elim}
use mathlib.Core.List.Memᴰ
use mathlib.Core.List.{List, Memᴰ}
use lib.ListN.{length, drop}
use Rattle.std.specs.Prelude.{Option, Some, None, Result, Ok, Err}
use Rattle.fitting_records.specs.declared.Record.{Record}
use Rattle.fitting_records.specs.declared.Fault.{Fault}
use Rattle.fitting_records.specs.declared.Fault.TheVariants.{WrongMark, Truncated}
use Rattle.fitting_records.specs.Found.{whole, found_in, width}
use Rattle.text_lines.specs.declared.Line.{Line}
use Rattle.fitting_listing.specs.Faults as faults
use Rattle.fitting_listing.specs.Lines.{most, line, tested_line, outline_in, listed, lines_from, lines_at, lines_of}
use Rattle.fitting_listing.proofs.LinesLaws.{lines_long, lines-read}

-- P is the property of the lines, and Q a property of the remaining bytes
module _ (Q : List ℕ → Type 0) (P : Line → Type 0) (further : (j : ℕ) (w : List ℕ) → Q w → Q (drop j w))
    (tested : (n c r m : ℕ) (w : List ℕ) → Q w → found_in w ≡ whole c r m → P (tested_line n (outline_in c r m w)))
    (wrong : (n at : ℕ) → P (line n faults.wrong_mark at)) (cut : (n at : ℕ)
    → P (line n faults.truncated at)) (long : P (line 0 faults.too_long most)) where
  listed-all : (n at : ℕ) (w : List ℕ) (f : Result (Option Record) Fault) (rest : List Line) → Q w → found_in w ≡ f → ((l : Line) → Memᴰ l rest → P l)
      → (l : Line) → Memᴰ l (listed n at w f rest) → P l
  unfolding listed
  listed-all n at w (Ok None) rest q e all l m = absurd (Memᴰ.not-nil m)
  listed-all n at w (Err WrongMark) rest q e all l m = rw (Memᴰ.eq_of_singleton m) (wrong n at)
  listed-all n at w (Err Truncated) rest q e all l m = rw (Memᴰ.eq_of_singleton m) (cut n at)
  listed-all n at w (Ok (Some r)) rest q e all l m =
      ⊎_elim (λ same. rw same (tested n r.col r.row r.count w q e)) (λ later. all l later) (Memᴰ.cases_cons m)

  lines-all : (k n at : ℕ) (w : List ℕ) → Q w → (l : Line) → Memᴰ l (lines_from k n at w) → P l
  unfolding lines_from
  lines-all zero n at w q l m = absurd (Memᴰ.not-nil m)
  lines-all (suc k) n at w q l m =
      let read = width (found_in w) in
      listed-all n at w (found_in w) _ q refl (λ x i. lines-all k (n + 1) (at + read) (drop read w) (further read w q) x i) l m

  pub file-all : (file : List ℕ) → Q file → (l : Line) → Memᴰ l (lines_of file) → P l
  unfolding lines_at
  file-all file q l m =
      elim (dec_le (length file) most) [
        | yes h ↦ lines-all (length file) 0 0 file q l (rw (lines-read file h) at m)
        | no h ↦ rw (Memᴰ.eq_of_singleton (rw (lines_long file (omega arith)) at m)) long
      ]
