-- Which damage to an image is refused (contract 13.3): any that is not far (crate checksum: `Far`), which is four bits or more, an even
-- number of them, over more than 32 places.
use Rattle.std.specs.Prelude.{ℕ, ◌≡◌, List}
use Rattle.chart.specs.Outline.{Outline}
use Rattle.checksum.specs.Checksum.{message}
use Rattle.checksum.specs.Damage.{Bytes, differences, Far}
use Rattle.images.specs.Image.{IsImage}

-- Bytes b are the image of an outline, and bytes d differ from them, as many or fewer or more, but not far
pub record Damaged (b d : List ℕ) : Type 0 where
  pub outline : Outline
  pub image : IsImage b outline
  pub whole : Bytes b
  pub bytes : Bytes d
  pub differs : b ≡ d → ⊥
  pub near : Far (differences (message b) (message d)) → ⊥

-- Then d is the image of no outline
abbrev pub DamageRefused : Type 0
DamageRefused = (b d : List ℕ) → Damaged b d → (o : Outline) → IsImage d o → ⊥
