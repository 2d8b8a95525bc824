-- A whole record is the bytes of its outline, which determine the outline. So a file has its parts, record by record, and no others.
use Prim.Native.Nat.{ℕ, zero, suc, ◌+◌, ◌/◌, ◌%◌, ◌<◌}
use native.Mathlib.Nat.{div-add-mod, mod-lt}
use native.Mathlib.Omega.{arith}
use mathlib.Core.Path.{◌≡◌, refl, sym, ap, ◌∙◌}
use mathlib.Core.Logic.{⊎_elim}
use mathlib.Core.List.Memᴰ
use mathlib.Core.List.{List, [], ◌∷◌, ◌++◌, append_assoc, append_cancel_left}
use lib.ListN.{length, get_or, take, drop, take-append-drop, length-drop}
use lib.Seq.{length-take-le, get_or-drop, drop-drop}
use lib.Dec.{lit<}
use Rattle.chart.specs.Outline.{Outline}
use Rattle.std.specs.Prelude.{Option, Some, None, Result, Ok, Err}
use Rattle.fitting_records.specs.declared.Record.{Record}
use Rattle.fitting_records.specs.declared.Fault.{Fault}
use Rattle.fitting_records.specs.Found.{header, wide, found_in, width}
use Rattle.fitting_records.proofs.RecordLaws.{Stands, no_record, record-stands, record-within}
use Rattle.fitting_listing.specs.Lines.{outline_in}
use Rattle.fitting_listing.specs.Bytes.{bytes_of, file_of}
use Rattle.fitting_listing.specs.Claims.{AllBytes, Storable, NoRecord, Parts}
use Rattle.fitting_listing.proofs.Files.{found-record, same-outline}

pub bytes-further : (j : ℕ) (w : List ℕ) → AllBytes w → AllBytes (drop j w)
bytes-further j w b i = rw (get_or-drop j w i 0) (b (j + i))

-- A count of letters as two bytes
low_byte : (low high : ℕ) → low < 256 → wide low high % 256 ≡ low
low_byte low high h = omega (arith, div-add-mod (wide low high) 256, mod-lt (wide low high) {m = 256} (lit< tt))

high_byte : (low high : ℕ) → low < 256 → wide low high / 256 ≡ high
high_byte low high h = omega (arith, div-add-mod (wide low high) 256, mod-lt (wide low high) {m = 256} (lit< tt))

module _ {c r m : ℕ} {w : List ℕ} (b : AllBytes w) (s : Stands w c r m) where
  letters-long : length (take m (drop header w)) ≡ m
  letters-long = rw s.bytes (length-take-le m s.behind s.letters)

  byte : (i : ℕ) → get_or (75 ∷ 79 ∷ c ∷ r ∷ s.low ∷ s.high ∷ s.behind) i 0 < 256
  byte i = rw s.bytes at (b i)

  pub record-storable : Storable (outline_in c r m w)
  unfolding outline_in
  record-storable = record { col = byte 2; row = byte 3; letter_count = omega (arith, letters-long, s.count, byte 4, byte 5) }

  record-bytes : w ≡ bytes_of (outline_in c r m w) ++ drop (header + m) w
  unfolding outline_in bytes_of
  record-bytes =
      let low : m % 256 ≡ s.low = rw s.count (low_byte s.low s.high (byte 4)) in
      let high : m / 256 ≡ s.high = rw s.count (high_byte s.low s.high (byte 4)) in
      rw (letters-long, ← (drop-drop m header w), low, high, take-append-drop m (drop header w), s.bytes)

-- A record before the parts of a file
abbrev pub Apart : List ℕ → Type 0
Apart w = (os : List Outline) × (rest : List ℕ) × Parts w os rest

one_more : (o : Outline) {w v : List ℕ} → w ≡ bytes_of o ++ v → Storable o → Apart v → Apart w
unfolding file_of
one_more o {w} {v} e fits (os, rest, p) = (
  o ∷ os,
  rest,
  record {
    joined = e ∙ rw p.joined (sym (append_assoc (bytes_of o) (file_of os) rest));
    storable = λ x m. ⊎_elim (λ (same : x ≡ o). rw same fits) (λ later. p.storable x later) (Memᴰ.cases_cons m);
    none_left = p.none_left;
  },
)

nothing-whole : (w : List ℕ) → width (found_in w) ≡ 0 → Apart w
unfolding file_of
nothing-whole w e = ([], w, record { joined = refl; storable = λ x m. absurd (Memᴰ.not-nil m); none_left = λ c r m d. no_record d e })

pub apart : (k : ℕ) (w : List ℕ) → length w < k → AllBytes w → Apart w
unfolding width
apart zero w h b = absurd (omega arith)
apart (suc k) w h b = go (found_in w) refl (apart k)
  where
    go : (f : Result (Option Record) Fault) → found_in w ≡ f → ((v : List ℕ) → length v < k → AllBytes v → Apart v) → Apart w
    go (Ok None) e shorter = nothing-whole w (ap width e)
    go (Err f) e shorter = nothing-whole w (ap width e)
    go (Ok (Some r)) e shorter =
        let s = record-stands w e in
        let m = r.count in
        one_more (outline_in r.col r.row m w) (record-bytes b s) (record-storable b s)
        (shorter (drop (header + m) w) (simp length-drop (omega (arith, record-within w e))) (bytes-further (header + m) w b))

-- The bytes at the front of a file determine the first outline, and so what follows it
same-front : (o u : Outline) (v w : List ℕ) → bytes_of o ++ v ≡ bytes_of u ++ w → (o ≡ u) × (v ≡ w)
same-front o u v w e =
    let found = sym (found-record o v) ∙ ap found_in e ∙ found-record u w in
    let first : Record = record { col = o.start.col; row = o.start.row; count = length o.letters } in
    let second : Record = record { col = u.start.col; row = u.start.row; count = length u.letters } in
    let alike : first ≡ second = cc in
    let col : o.start.col ≡ u.start.col = ap (λ (x : Record). x.col) alike in
    let row : o.start.row ≡ u.start.row = ap (λ (x : Record). x.row) alike in
    let count : length o.letters ≡ length u.letters = ap (λ (x : Record). x.count) alike in
    let same : o ≡ u = sym (same-outline o v) ∙ rw (e, col, row, count) (same-outline u w) in
    (same, append_cancel_left (bytes_of u) v w (rw same at e))

begins : (o : Outline) (os : List Outline) (v : List ℕ) {rest : List ℕ} → rest ≡ file_of (o ∷ os) ++ v → NoRecord rest → ⊥
unfolding file_of
begins o os v e none = none _ _ _ (ap found_in (e ∙ append_assoc (bytes_of o) (file_of os) v) ∙ found-record o (file_of os ++ v))

pub one_way : (os us : List Outline) {v w : List ℕ} → file_of os ++ v ≡ file_of us ++ w → NoRecord v → NoRecord w → (os ≡ us) × (v ≡ w)
unfolding file_of
one_way [] [] e p q = (refl, e)
one_way [] (u ∷ us) {v} {w} e p q = absurd (begins u us w e p)
one_way (o ∷ os) [] {v} {w} e p q = absurd (begins o os v (sym e) q)
one_way (o ∷ os) (u ∷ us) {v} {w} e p q =
    let joined = sym (append_assoc (bytes_of o) (file_of os) v) ∙ e ∙ append_assoc (bytes_of u) (file_of us) w in
    let front = same-front o u (file_of os ++ v) (file_of us ++ w) joined in
    let later = one_way os us front.1 p q in
    (rw (front.0, later.0) refl, later.1)
