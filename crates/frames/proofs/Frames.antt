-- A frame has eight bytes more than its body, and gives it back. Bytes with the mark, their own count and their checksum are a frame.
use Prim.Native.Nat.{ℕ, ◌+◌, ◌-◌, ◌*◌, ◌/◌, ◌%◌, ◌≤◌, ◌<◌}
use native.Mathlib.Nat.{zero-add}
use native.Mathlib.Omega.{arith}
use mathlib.Core.Path.{◌≡◌, refl, sym, ap, ap₂, ◌∙◌}
use mathlib.Core.Logic.{◌↔◌}
use mathlib.Core.Bool.{Bool, true, false, false≢true, and-eq-true_iff}
use mathlib.Core.List.{List, [], ◌∷◌, ◌++◌, append_assoc}
use lib.ListN.{length, get_or, take, drop, length-append, length-take}
use lib.Seq.{take_at, take_all, drop_at, drop-append-add, drop-drop, paste, length-paste, take-paste}
use lib.Dec.{leb}
use borrow.Rule.Slice.PartMut.{put_mid}
use borrow.Author.Tests.{leb-true, le-leb}
use Rattle.base.proofs.BelowLaws.{not-held}
use Rattle.checksum.specs.Checksum.{checksum}
use Rattle.checksum.specs.Stored.{little_endian, stored, Stored}
use Rattle.checksum.proofs.Residue.{stored-length}
use Rattle.images.specs.Image.{same_bytes}
use Rattle.images.proofs.Images.{same-bytes-iff}
use Rattle.frames.specs.Frame.{most_body, header_bytes, frame_bytes, head_of, frame_of, IsFrame, body_in, is_frame}

-- ---- two lists copied one behind the other

pub take-two : (u v before : List ℕ) → length u + length v ≤ length before
    → take (length u + length v) (paste (paste before 0 u (length u)) (length u) v (length v)) ≡ u ++ v
take-two u v before room =
    let d : List ℕ = paste before 0 u (length u) in
    let l : length d ≡ length before = length-paste before 0 u (length u) (omega arith) (omega arith) in
    let one : take (length u) d ≡ u =
    ap (λ (n : ℕ). take n d) (sym (zero-add (length u))) ∙ take-paste before 0 u (length u) (omega arith) (omega arith)
    ∙ take_all (length u) u (omega arith) in
    let two : take (length v) v ≡ v = take_all (length v) v (omega arith) in
    take-paste d (length u) v (length v) (omega arith) (omega arith) ∙ (λ z. one z ++ two z)

-- ---- a frame and its body

pub frame-length : (b : List ℕ) → length (frame_of b) ≡ length b + frame_bytes
unfolding frame_of
frame-length b = omega (arith, stored-length (head_of (length b) ++ b), length-append (head_of (length b)) b)

-- The body that n bytes from the header on would be
frame_back : (b : List ℕ) → take (length b) (drop header_bytes (frame_of b)) ≡ b
unfolding frame_of stored
frame_back b = take_at b (little_endian (checksum (head_of (length b) ++ b))) (length b) refl

-- The bytes of a frame are the frame of one body only
pub frame-body : (f b : List ℕ) → IsFrame f b → body_in f ≡ b
frame-body f b i =
    let n : length f - frame_bytes ≡ length b = omega (arith, ap length i.bytes, frame-length b) in
    ap₂ (λ (k : ℕ) (l : List ℕ). take k (drop header_bytes l)) n i.bytes ∙ frame_back b

pub frame-sized : (f b : List ℕ) → IsFrame f b → length f ≡ length b + frame_bytes
frame-sized f b i = ap length i.bytes ∙ frame-length b

pub frame-stored : (f b : List ℕ) → IsFrame f b → Stored f
unfolding frame_of
frame-stored f b i = record { front = head_of (length b) ++ b; whole = i.bytes }

-- ---- the test

pub frame-iff : (f : List ℕ) → (is_frame f ≡ true) ↔ IsFrame f (body_in f)
unfolding is_frame
frame-iff f = (
  λ e.
      let both = test.0 e in
      record { bytes = (same-bytes-iff f (frame_of (body_in f))).0 both.1; short = leb-true (length (body_in f)) most_body both.0 },
  λ i. test.1 (le-leb (length (body_in f)) most_body i.short, (same-bytes-iff f (frame_of (body_in f))).1 i.bytes),
)
  where
    test : (is_frame f ≡ true) ↔ ((leb (length (body_in f)) most_body ≡ true) × (same_bytes f (frame_of (body_in f)) ≡ true))
    test = and-eq-true_iff (leb (length (body_in f)) most_body) (same_bytes f (frame_of (body_in f)))

pub frame-of : (f b : List ℕ) → IsFrame f b → is_frame f ≡ true
frame-of f b i = (frame-iff f).1 (rw (frame-body f b i) i)

-- ---- the tests that the code makes

-- What a frame's first bytes and its count of bytes are
pub record Fits (f : List ℕ) : Type 0 where
  pub long : frame_bytes ≤ length f
  pub short : length f ≤ most_body + frame_bytes
  pub first : get_or f 0 0 ≡ 0x52
  pub second : get_or f 1 0 ≡ 0x51
  pub count : get_or f 2 0 + 256 * get_or f 3 0 ≡ length f - frame_bytes
  pub sum : Stored f

pub frame-fits : (f b : List ℕ) → IsFrame f b → Fits f
unfolding frame_of stored
frame-fits f b i =
    let size = frame-sized f b i in
    record {
      long = omega (arith, size);
      short = omega (arith, size, i.short);
      first = ap (λ (l : List ℕ). get_or l 0 0) i.bytes;
      second = ap (λ (l : List ℕ). get_or l 1 0) i.bytes;
      count =
          omega (
            arith,
            size,
            i.short,
            ap (λ (l : List ℕ). get_or l 2 0) i.bytes,
            ap (λ (l : List ℕ). get_or l 3 0) i.bytes,
          );
      sum = frame-stored f b i;
    }

-- The front of such a list is a head and a body
headed : (f front : List ℕ) → f ≡ stored front → frame_bytes ≤ length f → get_or f 0 0 ≡ 0x52
    → get_or f 1 0 ≡ 0x51 → get_or f 2 0 + 256 * get_or f 3 0 ≡ length f - frame_bytes → get_or f 2 0 < 256
    → front ≡ head_of (length (body_in f)) ++ body_in f
unfolding stored
headed f [] e l p q n s = absurd (omega (arith, ap length e, stored-length []))
headed f (x ∷ []) e l p q n s = absurd (omega (arith, ap length e, stored-length (x ∷ [])))
headed f (x ∷ y ∷ []) e l p q n s = absurd (omega (arith, ap length e, stored-length (x ∷ y ∷ [])))
headed f (x ∷ y ∷ z ∷ []) e l p q n s = absurd (omega (arith, ap length e, stored-length (x ∷ y ∷ z ∷ [])))
headed f (x ∷ y ∷ z ∷ w ∷ b) e l p q n s =
    let size : length f - frame_bytes ≡ length b = omega (arith, ap length e, stored-length (x ∷ y ∷ z ∷ w ∷ b)) in
    let body : body_in f ≡ b =
    ap₂ (λ (k : ℕ) (t : List ℕ). take k (drop header_bytes t)) size e
    ∙ take_at b (little_endian (checksum (x ∷ y ∷ z ∷ w ∷ b))) (length b) refl in
    let ex : x ≡ 0x52 = sym (ap (λ (t : List ℕ). get_or t 0 0) e) ∙ p in
    let ey : y ≡ 0x51 = sym (ap (λ (t : List ℕ). get_or t 1 0) e) ∙ q in
    let third : get_or f 2 0 ≡ z = ap (λ (t : List ℕ). get_or t 2 0) e in
    let fourth : get_or f 3 0 ≡ w = ap (λ (t : List ℕ). get_or t 3 0) e in
    let ez : z ≡ length b % 256 = omega (arith, size, n, s, third, fourth) in
    let ew : w ≡ length b / 256 = omega (arith, size, n, s, third, fourth) in
    rw (body, ex, ey) (ap₂ (λ (i j : ℕ). 0x52 ∷ 0x51 ∷ i ∷ j ∷ b) ez ew)

pub fits-frame : (f : List ℕ) → get_or f 2 0 < 256 → Fits f → IsFrame f (body_in f)
unfolding frame_of
fits-frame f s h =
    record {
      bytes = h.sum.whole ∙ ap stored (headed f h.sum.front h.sum.whole h.long h.first h.second h.count s);
      short = omega (arith, length-take (length f - frame_bytes) (drop header_bytes f), h.short);
    }

pub fits-true : (f : List ℕ) → get_or f 2 0 < 256 → Fits f → true ≡ is_frame f
fits-true f s h = sym ((frame-iff f).1 (fits-frame f s h))

pub fits-false : (f : List ℕ) → (Fits f → ⊥) → false ≡ is_frame f
fits-false f h = sym (not-held (is_frame f) (λ e. h (frame-fits f (body_in f) ((frame-iff f).0 e))))

-- A test that fails shows that the bytes are no frame
module _ (f : List ℕ) where
  pub not_second : (get_or f 1 0 ≡ 0x51 → ⊥) → false ≡ is_frame f
  not_second e = fits-false f (λ h. e h.second)

  pub not_counted : (n : ℕ) → (n ≡ length f - frame_bytes → ⊥) → n ≡ get_or f 2 0 + 256 * get_or f 3 0 → false ≡ is_frame f
  not_counted n e d = fits-false f (λ h. e (d ∙ h.count))

-- The last test decides, if the others have passed
pub fits_by :
    (f : List ℕ) (r : Bool) → (r ≡ true) ↔ Stored f → get_or f 2 0 < 256 → frame_bytes ≤ length f → length f ≤ most_body + frame_bytes
    → get_or f 0 0 ≡ 0x52 → get_or f 1 0 ≡ 0x51 → get_or f 2 0 + 256 * get_or f 3 0 ≡ length f - frame_bytes → r ≡ is_frame f
fits_by f true h s long short first second count =
    fits-true f s (record { long = long; short = short; first = first; second = second; count = count; sum = h.0 refl })
fits_by f false h s long short first second count = fits-false f (λ fits. false≢true (h.1 fits.sum))

-- The count that a frame's body has
pub body-count : (f : List ℕ) → is_frame f ≡ true → (length (body_in f) ≡ length f - frame_bytes) × (frame_bytes ≤ length f) × (length f ≤ most_body + frame_bytes)
body-count f e =
    let i = (frame-iff f).0 e in
    let size = frame-sized f (body_in f) i in
    (omega (arith, size), omega (arith, size), omega (arith, size, i.short))

-- ---- a frame as it is written

-- The checksum is stored behind the first n bytes
pub sealed-list : (l e : List ℕ) (n k : ℕ) → k ≡ checksum (take n l) → e ≡ little_endian k
    → put_mid n (n + 4 - n) l e ≡ stored (take n l) ++ drop (n + 4) l
unfolding stored
sealed-list l e n k sum is =
    let four : n + 4 - n ≡ 4 = omega arith in
    let last : List ℕ = little_endian (checksum (take n l)) in
    ap (λ (x : List ℕ). put_mid n (n + 4 - n) l x) (is ∙ ap little_endian sum)
    ∙ ap (λ (m : ℕ). take n l ++ (last ++ drop m (drop n l))) four
    ∙ ap (λ (x : List ℕ). take n l ++ (last ++ x)) (drop-drop 4 n l)
    ∙ sym (append_assoc (take n l) last (drop (n + 4) l))

-- A head of four bytes and a body are put at the front, one after the other
pub head-body : (l b h b₂ : List ℕ) (k : ℕ) → length h ≡ header_bytes → b₂ ≡ b → k ≡ length b
    → put_mid header_bytes k (h ++ drop header_bytes l) b₂ ≡ (h ++ b) ++ drop (header_bytes + length b) l
head-body l b h b₂ k s e n =
    rw (e, n)
    (ap₂ (λ (x y : List ℕ). x ++ (b ++ drop (length b) y)) (take_at h (drop header_bytes l) header_bytes s)
    (drop_at h (drop header_bytes l) header_bytes s)
    ∙ ap (λ (x : List ℕ). h ++ (b ++ x)) (drop-drop (length b) header_bytes l)
    ∙ sym (append_assoc h b (drop (header_bytes + length b) l)))

-- The head, the body and the checksum, one after the other, and what stood behind them
pub framed-list :
    (l b l₂ : List ℕ) → l₂ ≡ (head_of (length b) ++ b) ++ drop (header_bytes + length b) l
    → stored (take (length b + header_bytes) l₂) ++ drop (length b + header_bytes + 4) l₂ ≡ frame_of b ++ drop (length b + frame_bytes) l
unfolding frame_of
framed-list l b l₂ whole =
    ap₂ (λ (x y : List ℕ). stored x ++ y) front rest
  where
    n : ℕ
    n = length b

    head : List ℕ
    head = head_of n ++ b

    size : length head ≡ n + header_bytes
    size = omega (arith, length-append (head_of n) b)

    front : take (n + header_bytes) l₂ ≡ head
    front = ap (take (n + header_bytes)) whole ∙ take_at head (drop (header_bytes + n) l) (n + header_bytes) size

    rest : drop (n + header_bytes + 4) l₂ ≡ drop (n + frame_bytes) l
    rest =
        let same : header_bytes + n + 4 ≡ n + frame_bytes = omega arith in
        ap₂ (λ (k : ℕ) (x : List ℕ). drop (k + 4) x) (sym size) whole
        ∙ drop-append-add head (drop (header_bytes + n) l) 4
        ∙ drop-drop 4 (header_bytes + n) l
        ∙ ap (λ (k : ℕ). drop k l) same
