-- An image has 622 bytes and gives its outline back; 622 bytes that agree with a record and have their checksum are an image.
use Prim.Native.Nat.{ℕ, ◌+◌, ◌-◌, ◌/◌, ◌%◌, ◌≤◌, ◌<◌}
use native.Mathlib.Omega.{arith}
use mathlib.Core.Path.{◌≡◌, refl, sym, ap, ap₂, subst, ◌∙◌}
use mathlib.Core.Logic.{◌↔◌}
use mathlib.Core.Bool.{true, false≢true, and-eq-true_iff}
use mathlib.Core.List.{List, [], ◌∷◌, ◌++◌, append_assoc, append-nil}
use lib.ListN.{length, get_or, take, drop, replicate, length-append, length-take}
use lib.ListN.{length-replicate, length-drop, get_or-append}
use lib.Dec.{eqb, leb}
use borrow.Author.Tests.{eqb-true, eq-eqb, leb-true, le-leb}
use lib.Seq.{take-append-le, take_at, ext_get_or}
use Rattle.std.proofs.lemmas.List.{get_or-replicate, drop_at, drop_all, drop-take, take_all, take-take, take-append-drop}
use Rattle.std.proofs.lemmas.Slice.{take-put_mid}
use borrow.Rule.Slice.PartMut.{put_mid}
use Rattle.std.specs.Prelude.{Some, None}
use Rattle.chart.specs.Limits.{longest}
use Rattle.chart.specs.Outline.{Outline, at, outline}
use Rattle.checksum.specs.Checksum.{checksum}
use Rattle.checksum.specs.Stored.{little_endian, stored, Stored}
use Rattle.checksum.proofs.Residue.{stored-length}
use Rattle.images.specs.Image.{header, body_bytes, image_bytes, padded, image_of, IsImage, count_in, start_in, held_in, same_bytes, is_image}
use Rattle.images.specs.Image.{Reads}

-- ---- the record and the zeros

module _ (o : Outline) (short : length o.letters ≤ longest) where
  pub padded-length : length (padded o) ≡ body_bytes
  unfolding padded
  padded-length =
      omega (
        arith,
        length-append o.letters (replicate (longest - length o.letters) 0),
        length-replicate {A = ℕ} (longest - length o.letters) 0,
      )

  pub image-length : length (image_of o) ≡ image_bytes
  unfolding image_of
  image-length = omega (arith, stored-length (padded o), padded-length)

  -- A byte before the checksum is the record's
  pub image-byte : (k : ℕ) → k < body_bytes → get_or (image_of o) k 0 ≡ get_or (padded o) k 0
  unfolding image_of stored
  image-byte k l = get_or-append (padded o) (little_endian (checksum (padded o))) 0 k (omega (arith, padded-length))

  letters-back : take (length o.letters) (drop header (image_of o)) ≡ o.letters
  unfolding image_of stored padded
  letters-back =
      take-append-le (length o.letters) (o.letters ++ replicate (longest - length o.letters) 0) (little_endian (checksum (padded o)))
      (omega (arith, length-append o.letters (replicate (longest - length o.letters) 0)))
      ∙ take_at o.letters (replicate (longest - length o.letters) 0) (length o.letters) refl

  count-back : count_in (image_of o) ≡ length o.letters
  unfolding padded
  count-back = omega (arith, image-byte 4 (omega arith), image-byte 5 (omega arith))

  start_back : start_in (image_of o) ≡ o.start
  unfolding padded
  start_back = ap₂ at (image-byte 2 (omega arith)) (image-byte 3 (omega arith))

  image-back : held_in (image_of o) ≡ o
  unfolding held_in
  image-back =
      ap₂ outline start_back
      (ap (λ (n : ℕ). take n (drop header (image_of o))) count-back ∙ letters-back)

-- The bytes of an image are the image of one outline only
pub image-held : {b : List ℕ} {o : Outline} → IsImage b o → held_in b ≡ o
image-held {b} {o} i = ap held_in i.bytes ∙ image-back o i.short

pub image-sized : {b : List ℕ} {o : Outline} → IsImage b o → length b ≡ image_bytes
image-sized {b} {o} i = ap length i.bytes ∙ image-length o i.short

pub image-stored : {b : List ℕ} {o : Outline} → IsImage b o → Stored b
unfolding image_of
image-stored {b} {o} i = record { front = padded o; whole = i.bytes }

pub image-count : {b : List ℕ} {o : Outline} → IsImage b o → count_in b ≡ length o.letters
image-count {b} {o} i = ap count_in i.bytes ∙ count-back o i.short

-- ---- the test

pub same-bytes-iff : (w v : List ℕ) → (same_bytes w v ≡ true) ↔ (w ≡ v)
unfolding same_bytes
same-bytes-iff w v = (to w v, λ e. subst (λ (l : List ℕ). same_bytes w l ≡ true) e (self w))
  where
    to : (w v : List ℕ) → same_bytes w v ≡ true → w ≡ v
    to [] [] e = refl
    to [] (b ∷ v) e = absurd (false≢true e)
    to (a ∷ w) [] e = absurd (false≢true e)
    to (a ∷ w) (b ∷ v) e =
        let both = (and-eq-true_iff (eqb a b) (same_bytes w v)).0 e in
        ap₂ ◌∷◌ (eqb-true a b both.0) (to w v both.1)

    self : (w : List ℕ) → same_bytes w w ≡ true
    self [] = refl
    self (a ∷ w) = (and-eq-true_iff (eqb a a) (same_bytes w w)).1 (eq-eqb a a refl, self w)

pub image-iff : (b : List ℕ) → (is_image b ≡ true) ↔ IsImage b (held_in b)
unfolding is_image
image-iff b = (
  λ e.
      let both = test.0 e in
      record { bytes = (same-bytes-iff b (image_of (held_in b))).0 both.1; short = few (leb-true (count_in b) longest both.0) },
  λ i. test.1
      (le-leb (count_in b) longest (omega (arith, image-count i, i.short)), (same-bytes-iff b (image_of (held_in b))).1 i.bytes),
)
  where
    test : (is_image b ≡ true) ↔ ((leb (count_in b) longest ≡ true) × (same_bytes b (image_of (held_in b)) ≡ true))
    test = and-eq-true_iff (leb (count_in b) longest) (same_bytes b (image_of (held_in b)))

    few : count_in b ≤ longest → length (held_in b).letters ≤ longest
    few l = unfold held_in in omega (arith, length-take (count_in b) (drop header b))

-- Of this outline, or of none
pub image-of : (b : List ℕ) (o : Outline) → IsImage b o → is_image b ≡ true
image-of b o i = (image-iff b).1 (rw (image-held i) i)

-- ---- bytes that are the record and zeros, and then their checksum

-- The bytes behind n letters, up to the checksum
abbrev pub behind : List ℕ → ℕ → List ℕ
behind b n = take (longest - n) (drop n (take (length b - header) (drop header b)))

behind-is : (b : List ℕ) (n : ℕ) → behind b n ≡ take (longest - n) (drop n (drop header b))
behind-is b n =
    ap (λ (l : List ℕ). take (longest - n) (drop n l)) (take_all (length b - header) (drop header b) (omega (arith, length-drop header b)))

abbrev pub Zeros : List ℕ → Type 0
Zeros l = (k : ℕ) → k < length l → get_or l k 0 ≡ 0

zeros-length : (l : List ℕ) → Zeros l → l ≡ replicate (length l) 0
zeros-length l z =
    ext_get_or 0 l (replicate (length l) 0) (sym (length-replicate {A = ℕ} (length l) 0))
    (λ k h. z k h ∙ sym (get_or-replicate (length l) k 0 0 h))

pub image-behind : {b : List ℕ} {o : Outline} → IsImage b o → behind b (length o.letters) ≡ replicate (longest - length o.letters) 0
unfolding image_of stored padded
image-behind {b} {o} i =
    let n = length o.letters in
    let zeros : List ℕ = replicate (longest - n) 0 in
    let sum : List ℕ = little_endian (checksum (padded o)) in
    ap (λ (l : List ℕ). behind l n) i.bytes
    ∙ behind-is (image_of o) n
    ∙ ap (λ (l : List ℕ). take (longest - n) (drop n l)) (append_assoc o.letters zeros sum)
    ∙ ap (take (longest - n)) (drop_at o.letters (zeros ++ sum) n refl)
    ∙ take_at zeros sum (longest - n) (length-replicate {A = ℕ} (longest - n) 0)

-- A list begins with its first six
first-six : (b : List ℕ) → header ≤ length b
    → b ≡ get_or b 0 0 ∷ get_or b 1 0 ∷ get_or b 2 0 ∷ get_or b 3 0 ∷ get_or b 4 0 ∷ get_or b 5 0 ∷ drop header b
first-six [] l = absurd (omega arith)
first-six (p ∷ []) l = absurd (omega arith)
first-six (p ∷ q ∷ []) l = absurd (omega arith)
first-six (p ∷ q ∷ r ∷ []) l = absurd (omega arith)
first-six (p ∷ q ∷ r ∷ s ∷ []) l = absurd (omega arith)
first-six (p ∷ q ∷ r ∷ s ∷ t ∷ []) l = absurd (omega arith)
first-six (p ∷ q ∷ r ∷ s ∷ t ∷ u ∷ b) l = refl

-- The bytes of a record one by one
same-record : (a b low high : ℕ) (v : List ℕ) (o : Outline) → a ≡ 75 → b ≡ 79 → low ≡ length o.letters % 256 → high ≡ length o.letters / 256
    → v ≡ o.letters ++ replicate (longest - length o.letters) 0 → a ∷ b ∷ o.start.col ∷ o.start.row ∷ low ∷ high ∷ v ≡ padded o
unfolding padded
same-record a b low high v o first second l h e = rw (first, second, l, h, e) refl

parted : (n m : ℕ) (l : List ℕ) → n ≤ m → take m l ≡ take n l ++ take (m - n) (drop n l)
parted n m l h =
    let e : m ≡ n + (m - n) = omega arith in
    sym (take-append-drop n (take m l))
    ∙ ap₂ ◌++◌ (take-take n m l h) (ap (λ (k : ℕ). drop n (take k l)) e ∙ drop-take n (m - n) l)

-- Bytes that begin with a record and zeros, and carry their checksum, are an image
pub stored-image : (b : List ℕ) (o : Outline) → length b ≡ image_bytes → Stored b → length o.letters ≤ longest
    → take body_bytes b ≡ padded o → IsImage b o
unfolding image_of stored
stored-image b o size s short same =
    let long : length s.front ≡ body_bytes = omega (arith, size, ap length s.whole, stored-length s.front) in
    let front : s.front ≡ padded o =
    sym (take_at s.front (little_endian (checksum s.front)) body_bytes long) ∙ ap (take body_bytes) (sym s.whole) ∙ same in
    record { bytes = s.whole ∙ ap stored front; short = short }

-- ---- what bytes are read as

module _ (b : List ℕ) where
  pub read_length : (length b ≡ image_bytes → ⊥) → Reads b None
  unfolding Reads
  read_length e o i = e (image-sized i)

  pub read-stored : (Stored b → ⊥) → Reads b None
  unfolding Reads
  read-stored e o i = e (image-stored i)

  pub read-first : (get_or b 0 0 ≡ 75 → ⊥) → Reads b None
  unfolding Reads image_of stored padded
  read-first e o i = e (ap (λ (l : List ℕ). get_or l 0 0) i.bytes)

  pub read-second : (get_or b 1 0 ≡ 79 → ⊥) → Reads b None
  unfolding Reads image_of stored padded
  read-second e o i = e (ap (λ (l : List ℕ). get_or l 1 0) i.bytes)

  pub read_count : longest < count_in b → Reads b None
  unfolding Reads
  read_count e o i = omega (arith, image-count i, i.short)

  pub read-filled : (n : ℕ) → n ≡ count_in b → (Zeros (behind b n) → ⊥) → Reads b None
  unfolding Reads
  read-filled n e f o i =
      f
      (subst Zeros (sym (ap (behind b) (e ∙ image-count i) ∙ image-behind i))
      (λ k l. get_or-replicate (longest - length o.letters) k 0 0
      (omega (arith, length-replicate {A = ℕ} (longest - length o.letters) 0))))

  pub read_whole :
      (n : ℕ) → n ≡ count_in b → length b ≡ image_bytes → get_or b 4 0 < 256 → Stored b → get_or b 0 0 ≡ 75 → get_or b 1 0 ≡ 79
      → n ≤ longest → Zeros (behind b n) → Reads b (Some (record { start = start_in b; count = count_in b }))
  unfolding Reads held_in
  read_whole n e size byte s first second short zeros =
      let rest : List ℕ = drop header b in
      let w : List ℕ = take (count_in b) rest in
      let many : length rest ≡ longest + 4 = omega (arith, size, length-drop header b) in
      let long : length w ≡ n = omega (arith, e, many, short, length-take (count_in b) rest) in
      let filled : take (longest - n) (drop n rest) ≡ replicate (longest - length w) 0 =
      sym (behind-is b n) ∙ zeros-length (behind b n) zeros
      ∙ ap (λ (m : ℕ). replicate m 0)
      (ap length (behind-is b n) ∙ omega (arith, long, many, short, length-take (longest - n) (drop n rest), length-drop n rest)) in
      let last : take longest rest ≡ w ++ replicate (longest - length w) 0 =
      parted n longest rest short ∙ ap₂ (λ (m : ℕ) (z : List ℕ). take m rest ++ z) e filled in
      let low : get_or b 4 0 ≡ length w % 256 = omega (arith, long, e, byte) in
      let high : get_or b 5 0 ≡ length w / 256 = omega (arith, long, e, byte) in
      let whole : take body_bytes b ≡ padded (held_in b) =
      ap (take body_bytes) (first-six b (omega (arith, size)))
      ∙ same-record (get_or b 0 0) (get_or b 1 0) (get_or b 4 0) (get_or b 5 0) (take longest rest) (held_in b) first second low high
      last in
      (size, refl, refl, omega (arith, e, short), stored-image b (held_in b) size s (omega (arith, long, short)) whole)

-- ---- an image as it is written

nothing_left : (n : ℕ) (l : List ℕ) → drop (length l - n) (drop n l) ≡ []
nothing_left n l = drop_all (length l - n) (drop n l) (omega (arith, length-drop n l))

-- The header, the letters and the zeros are written one after the other
pub body-written : (h l z s x : List ℕ) (o : Outline) (n m : ℕ) → length s ≡ body_bytes → length o.letters ≤ longest
    → n ≡ header + length o.letters
    → h ≡ 75 ∷ 79 ∷ o.start.col ∷ o.start.row ∷ length o.letters % 256 ∷ length o.letters / 256 ∷ [] → l ≡ o.letters
    → x ≡ put_mid header (n - header) (h ++ drop header s) l → z ≡ replicate m 0 → m ≡ length (take (length x - n) (drop n x))
    → put_mid n (length x - n) x z ≡ padded o
unfolding padded
body-written h l z s x o n m size short e head letters is zeros count =
    let six : length h ≡ header = ap length head in
    let start : List ℕ = h ++ drop header s in
    let long : length x ≡ body_bytes =
    ap length is
    ∙ omega (
      arith,
      six,
      size,
      short,
      e,
      ap length letters,
      length-append h (drop header s),
      length-drop header s,
      length-append (take header start) (l ++ drop (n - header) (drop header start)),
      length-append l (drop (n - header) (drop header start)),
      length-take header start,
      length-drop (n - header) (drop header start),
      length-drop header start,
    ) in
    let front : take n x ≡ h ++ l =
    ap (take n) is
    ∙ take-put_mid header (n - header) start l n (omega (arith, e, ap length letters)) (omega (arith, six, length-append h (drop header s)))
    ∙ ap (λ (y : List ℕ). y ++ l) (take_at h (drop header s) header six) in
    let many : m ≡ longest - length o.letters =
    omega (arith, count, long, e, short, length-take (length x - n) (drop n x), length-drop n x) in
    let last : List ℕ = replicate (longest - length o.letters) 0 in
    let filled : z ≡ last = zeros ∙ ap (λ (i : ℕ). replicate i 0) many in
    rw (front, filled, nothing_left n x, append-nil last, head, letters) refl

-- The record and zeros, and their checksum
pub image-written : (o : Outline) (p s e : List ℕ) (n : ℕ) → length o.letters ≤ longest → p ≡ padded o
    → n ≡ checksum (take body_bytes (p ++ s)) → e ≡ little_endian n
    → put_mid body_bytes (length (p ++ s) - body_bytes) (p ++ s) e ≡ image_of o
unfolding image_of stored
image-written o p s e n short q sum w =
    let front : take body_bytes (p ++ s) ≡ padded o = take_at p s body_bytes (ap length q ∙ padded-length o short) ∙ q in
    let last : e ≡ little_endian (checksum (padded o)) = w ∙ ap little_endian (sum ∙ ap checksum front) in
    ap₂ ◌++◌ front (ap₂ ◌++◌ last (nothing_left body_bytes (p ++ s)) ∙ append-nil (little_endian (checksum (padded o))))
