-- An image that is damaged, but not far, is not an image: both would carry their checksum, and both would have 622 bytes.
use Prim.Native.Nat.{ℕ, ◌%◌, ◌<◌}
use native.Mathlib.Omega.{arith}
use mathlib.Core.Path.{◌≡◌, sym, ◌∙◌}
use mathlib.Core.Logic.{⊎_elim}
use mathlib.Core.List.{List}
use Rattle.checksum.specs.Checksum.{message}
use Rattle.checksum.specs.Damage.{differences, total, Within, Far}
use Rattle.checksum.proofs.Residue.{detects-stored}
use Rattle.images.specs.Damage.{DamageRefused}
use Rattle.images.proofs.Images.{image-sized, image-stored}

pub damage-refused : DamageRefused
damage-refused b d h o i =
    ⊎_elim h.differs h.near
    (detects-stored b d h.whole h.bytes (image-sized h.image ∙ sym (image-sized i)) (omega (arith, image-sized h.image))
    (image-stored h.image) (image-stored i))

-- ---- the kinds of damage by themselves

module _ (b d : List ℕ) where
  abbrev flips : List ℕ
  flips = differences (message b) (message d)

  -- One, two or three bits
  pub few-near : total flips < 4 → Far flips → ⊥
  few-near l f = omega (arith, f.four)

  -- An odd number of bits
  pub odd-near : total flips % 2 ≡ 1 → Far flips → ⊥
  odd-near e f = omega (arith, f.even)

  -- Any number of bits within 32 consecutive places
  pub burst-near : (first : ℕ) → Within flips first → Far flips → ⊥
  burst-near first w f = f.wide first w
