-- The head and the body stand in front of what stood behind their place.
use Rattle.std.proofs.Common.{◌≡◌, ℕ, ◌/◌, ◌%◌, List, length, get_or, refl, ap, ◌∙◌, arith}
use Rattle.frames.specs.Frame.{head_of}
use Rattle.frames.proofs.Frames.{head-body}
use Rattle.frames.proofs.begin.Goals as goal

pub returns : goal.returns
returns c =
    let n = length c.args.body.now in
    let low : get_or c.to_le_bytes.result 0 0 ≡ n % 256 = ap (λ (l : List ℕ). get_or l 0 0) c.to_le_bytes.ensures in
    let high : get_or c.to_le_bytes.result 1 0 ≡ n / 256 = ap (λ (l : List ℕ). get_or l 1 0) c.to_le_bytes.ensures ∙ omega arith in
    rw (c.copy_from_slice.ensures.after, low, high)
    (head-body c.args.frame.now c.args.body.now (head_of n) _ _ refl c.copy_from_slice-2.ensures.after (omega arith))
