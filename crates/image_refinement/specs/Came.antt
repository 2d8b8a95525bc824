-- What is at work at a place after a restore of any bytes to any content of the arrays (contract 13.9).
use Rattle.std.specs.Prelude.{ℕ, ◌≡◌, false, List, []}
use Rattle.chart.specs.Outline.{Outline}
use Rattle.images.specs.Image.{IsImage}
use Rattle.holder_memory.specs.Layout.{Holder}
use Rattle.holder_answers.specs.Arrays.{work_in}
use Rattle.holder_images.specs.Whole.{WorkOf}

-- Nothing changed; or nothing is at work, since the bytes are the image of an empty place; or the work of an outline whose image the bytes
-- are, and which the test takes
pub data Came (h n : Holder) (p k : ℕ) (bytes : List ℕ) : Type 0 where
  same : n ≡ h → Came h n p k bytes
  emptied : (o : Outline) → IsImage bytes o → o.letters ≡ [] → (work_in n p k).taken ≡ false → Came h n p k bytes
  taken : (o : Outline) → IsImage bytes o → WorkOf (work_in n p k) o → Came h n p k bytes
