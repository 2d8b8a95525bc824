-- While a listing is written, what is written so far and the remaining lines together are the whole listing.
use Prim.Native.Nat.{ℕ, ◌+◌, ◌*◌, ◌-◌, ◌≤◌, ◌<◌, min}
use native.Mathlib.Omega.{arith}
use mathlib.Core.Path.{◌≡◌, refl, sym, ap, ◌∙◌}
use mathlib.Core.List.{List, [], ◌∷◌}
use lib.ListN.{length, take, drop, length-append}
use lib.Seq.{drop-drop}
use lib.Dec.{lit<, lit≤}
use Rattle.text_lines.specs.declared.Line.{Line}
use Rattle.text_lines.specs.Text.{line_text, text_of}
use Rattle.text_lines.specs.Written.{over, written_at, end_at, Wrote}
use Rattle.text_lines.proofs.WrittenLaws.{length-written, written_behind, written_none}
use Rattle.text_lines.proofs.TextLaws.{line-short}
use Rattle.chart.specs.Outline.{Outline, outline}
use Rattle.std.specs.Prelude.{None, Ok, Err}
use Rattle.fitting_records.specs.declared.Fault.{Fault}
use Rattle.fitting_records.specs.declared.Fault.TheVariants.{WrongMark, Truncated}
use Rattle.fitting_records.specs.Found.{header, found_at}
use Rattle.fitting_records.proofs.RecordLaws.{Passed}
use Rattle.fitting_listing.specs.Faults as faults
use Rattle.fitting_listing.specs.Faults.{fault_number}
use Rattle.fitting_listing.specs.Lines.{most, line, tested_line, outline_in, lines_at}
use Rattle.fitting_listing.specs.Listed.{room, Small, Listed}
use Rattle.fitting_listing.proofs.LinesLaws.{lines-found-end, lines-wrong-mark, lines_cut, lines-record}

-- All lines and the remaining ones, how many are written, the buffer before and now, and where the next line goes
pub record Making (all left : List Line) (n : ℕ) (buffer text : List ℕ) (at : ℕ) : Type 0 where
  pub finished : written_at at (text_of left) text ≡ over (text_of all) buffer
  pub end : end_at at (length (text_of left)) (length text) ≡ min (length (text_of all)) (length buffer)
  pub short : length (text_of all) ≤ 18 * n + length (text_of left)

pub making-begins : (all : List Line) (buffer : List ℕ) → Making all all 0 buffer buffer 0
unfolding written_at
making-begins all buffer = record { finished = refl; end = omega arith; short = omega arith }

pub making-line : {all left : List Line} {l : Line} {n : ℕ} {buffer text text' : List ℕ} {at end : ℕ}
    → Making all (l ∷ left) n buffer text at
    → Wrote (line_text l) at text text' end → length (line_text l) ≤ 18 → Making all left (n + 1) buffer text' end
unfolding text_of
making-line {all} {left} {l} {n} {buffer} {text} {text'} {at} {end} p q h =
    let joined = length-append (line_text l) (text_of left) in
    let same : length text' ≡ length text = ap length q.text ∙ length-written at (line_text l) text in
    let first = p.end in
    let second = q.end in
    record {
      finished = rw q.text (written_behind at end (line_text l) (text_of left) text q.end ∙ p.finished);
      end = omega arith;
      short = omega (arith, p.short);
    }

pub making-ends : {all : List Line} {n : ℕ} {buffer text : List ℕ} {at : ℕ} → Making all [] n buffer text at → 18 * n ≤ room
    → Listed all buffer text at
unfolding text_of
making-ends {all} {n} {buffer} {text} {at} p h =
    let last = p.end in
    record { text = sym (written_none at text) ∙ p.finished; end = omega arith; short = omega (arith, p.short) }

-- A listing half written, by how far the file is read and how many records it had
pub record Going (file buffer text : List ℕ) (at n end : ℕ) : Type 0 where
  pub making : Making (lines_at 0 0 file) (lines_at n at (drop at file)) n buffer text end
  pub within : at ≤ length file
  pub records : header * n ≤ at
  pub same : length text ≡ length buffer

pub going-begins : (file buffer : List ℕ) → Going file buffer buffer 0 0 0
going-begins file buffer =
    record { making = making-begins (lines_at 0 0 file) buffer; within = omega arith; records = omega arith; same = refl }

module _ {file buffer text : List ℕ} {at n end : ℕ} (g : Going file buffer text at n end) (small : length file ≤ most) where
  going-stops : lines_at n at (drop at file) ≡ [] → Listed (lines_at 0 0 file) buffer text end
  going-stops e = making-ends (rw e at g.making) (omega (arith, g.within, g.records))

  pub going_end : found_at file at ≡ Ok None → Listed (lines_at 0 0 file) buffer text end
  going_end e = going-stops (lines-found-end n at (drop at file) e)

  going-last : {l : Line} {text' : List ℕ} {r : ℕ} → lines_at n at (drop at file) ≡ l ∷ [] → length (line_text l) ≤ 18
      → Wrote (line_text l) end text text' r → Listed (lines_at 0 0 file) buffer text' r
  going-last e h w = making-ends (making-line (rw e at g.making) w h) (omega (arith, g.within, g.records))

  fault-short : (a : ℕ) → a < 100000 → length (line_text (line n a at)) ≤ 18
  fault-short a h = line-short (line n a at) (omega (arith, g.within, g.records)) h (omega (arith, g.within))

  going-wrong-mark : {text' : List ℕ} {r : ℕ} → found_at file at ≡ Err WrongMark
      → Wrote (line_text (line n faults.wrong_mark at)) end text text' r
      → Listed (lines_at 0 0 file) buffer text' r
  going-wrong-mark e = going-last (lines-wrong-mark n at (drop at file) e) (fault-short faults.wrong_mark (lit< tt))

  going-cut : {text' : List ℕ} {r : ℕ} → found_at file at ≡ Err Truncated → Wrote (line_text (line n faults.truncated at)) end text text' r
      → Listed (lines_at 0 0 file) buffer text' r
  going-cut e = going-last (lines_cut n at (drop at file) e) (fault-short faults.truncated (lit< tt))

  pub going-fault : (f : Fault) → {text' : List ℕ} {r : ℕ} → found_at file at ≡ Err f
      → Wrote (line_text (line n (fault_number f) at)) end text text' r
      → Listed (lines_at 0 0 file) buffer text' r
  unfolding fault_number
  going-fault WrongMark e w = going-wrong-mark e w
  going-fault Truncated e w = going-cut e w

  record-short : {l : Line} (o : Outline) → l ≡ tested_line n o → Small l → length (line_text l) ≤ 18
  unfolding tested_line
  record-short {l} o e s =
      line-short l (rw e (omega (arith, g.within, g.records))) (omega (arith, s.answer)) (omega (arith, s.place))

  pub going-record : {l : Line} {text' : List ℕ} {c r m next end' : ℕ} → Passed file at c r m next
      → l ≡ tested_line n (outline_in c r m (drop at file)) → Small l → Wrote (line_text l) end text text' end'
      → Going file buffer text' next (n + 1) end'
  going-record {l} {text'} {c} {r} {m} {next} p same s w =
      let further : at + (header + m) ≡ next = omega (arith, p.behind) in
      let lines : lines_at n at (drop at file) ≡ l ∷ lines_at (n + 1) next (drop next file) =
      lines-record n at c r m (drop at file) p.found ∙ rw (drop-drop (header + m) at file, further, same) refl in
      record {
        making = making-line (rw lines at g.making) w (record-short (outline_in c r m (drop at file)) same s);
        within = p.within;
        records = omega (arith, g.records, p.behind);
        same = ap length w.text ∙ length-written end (line_text l) text ∙ g.same;
      }

-- The letters of a record are between its header and the next record
pub letters-between : {file : List ℕ} {at c r m next : ℕ} (n : ℕ) → Passed file at c r m next
    → tested_line n (outline (record { col = c; row = r }) (take (next - (at + header)) (drop (at + header) file)))
    ≡ tested_line n (outline_in c r m (drop at file))
unfolding outline_in
letters-between {file} {at} {c} {r} {m} {next} n p =
    let count : next - (at + header) ≡ m = omega (arith, p.behind) in
    rw (count, drop-drop header at file) refl

-- The only line of a file that is too long
pub long-listed : {buffer text : List ℕ} {r : ℕ} → Wrote (line_text (line 0 faults.too_long most)) 0 buffer text r
    → Listed (line 0 faults.too_long most ∷ []) buffer text r
long-listed {buffer} w =
    making-ends (making-line (making-begins (line 0 faults.too_long most ∷ []) buffer) w
    (line-short (line 0 faults.too_long most) (lit< tt) (lit< tt) (lit< tt))) (lit≤ tt)
