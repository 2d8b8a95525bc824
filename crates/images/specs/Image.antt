-- The image of an outline (contract 13.1): its record as in a fitting file, zeros up to 618 bytes, and their checksum, lowest byte first.
use Rattle.std.specs.Prelude.{ℕ, ◌+◌, ◌*◌, ◌-◌, ◌/◌, ◌%◌, ◌≤◌, ◌≡◌, Bool, true, false, ◌&&◌, List, [], ◌∷◌, ◌++◌, length, get_or, take, drop, replicate, eqb, leb, Option, Some, None}
use Rattle.chart.specs.Limits.{longest}
use Rattle.chart.specs.declared.Point.{Point}
use Rattle.chart.specs.Outline.{Outline, at, outline}
use Rattle.checksum.specs.Stored.{stored}
use Rattle.images.specs.declared.Record.{Record}

-- The bytes before the letters, those before the checksum, and all of them
abbrev pub header : ℕ
header = 6

abbrev pub body_bytes : ℕ
body_bytes = 618

abbrev pub image_bytes : ℕ
image_bytes = 622

-- A 16-bit number, low byte first
abbrev pub wide : ℕ → ℕ → ℕ
wide low high = low + 256 * high

-- The mark 4B 4F, the start, the count of letters and the letters; then zeros up to 612 letters
unfoldable pub padded : Outline → List ℕ
padded o =
    75 ∷ 79 ∷ o.start.col ∷ o.start.row ∷ length o.letters % 256 ∷ length o.letters / 256 ∷
    (o.letters ++ replicate (longest - length o.letters) 0)

unfoldable pub image_of : Outline → List ℕ
image_of o = stored (padded o)

-- The bytes are the image of this outline
pub record IsImage (b : List ℕ) (o : Outline) : Type 0 where
  pub bytes : b ≡ image_of o
  pub short : length o.letters ≤ longest

-- The only outline whose image the bytes can be (proofs/Images.antt: `image-held`)
abbrev pub count_in : List ℕ → ℕ
count_in b = wide (get_or b 4 0) (get_or b 5 0)

abbrev pub start_in : List ℕ → Point
start_in b = at (get_or b 2 0) (get_or b 3 0)

unfoldable pub held_in : List ℕ → Outline
held_in b = outline (start_in b) (take (count_in b) (drop header b))

-- Tests whether the bytes are the image of that outline, and so of any (proofs/Images.antt: `image-iff`)
unfoldable pub same_bytes : List ℕ → List ℕ → Bool
same_bytes [] [] = true
same_bytes [] (b ∷ v) = false
same_bytes (a ∷ w) [] = false
same_bytes (a ∷ w) (b ∷ v) = eqb a b && same_bytes w v

unfoldable pub is_image : List ℕ → Bool
is_image b = leb (count_in b) longest && same_bytes b (image_of (held_in b))

-- What bytes are read as
unfoldable pub Reads : List ℕ → Option Record → Type 0
Reads b None = (o : Outline) → IsImage b o → ⊥
Reads b (Some r) =
    (length b ≡ image_bytes) × (r.start ≡ start_in b) × (r.count ≡ count_in b) × (r.count ≤ longest) × IsImage b (held_in b)
