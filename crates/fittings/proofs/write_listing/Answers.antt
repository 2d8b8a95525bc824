-- What is written is the front of the buffer, and that is the listing's text, as far as the buffer has room.
use Rattle.std.proofs.Common.{◌≡◌, ℕ, zero, suc, List, [], ◌∷◌, length, take, min, refl, ap, arith}
use Rattle.text_lines.specs.Text.{text_of}
use Rattle.text_lines.specs.Written.{over}
use Rattle.fitting_listing.specs.Lines.{lines_of}
use Rattle.fittings.proofs.write_listing.Goals as goal

-- The front of a buffer with a text over it, up to the end of either
front : (t b : List ℕ) (r : ℕ) → r ≡ min (length t) (length b) → take r (over t b) ≡ take (length b) t
unfolding over
front [] [] r e = let z : r ≡ 0 = omega (arith, e) in rw z refl
front [] (x ∷ b) r e = let z : r ≡ 0 = omega (arith, e) in rw z refl
front (y ∷ t) [] r e = let z : r ≡ 0 = omega (arith, e) in rw z refl
front (y ∷ t) (x ∷ b) zero e = absurd (omega (arith, e))
front (y ∷ t) (x ∷ b) (suc r) e = ap (λ (l : List ℕ). y ∷ l) (front t b r (omega (arith, e)))

pub returns : goal.returns
returns g c =
    let t = text_of (lines_of c.args.file.now) in
    let e : take c.list-end.result c.list-end.new.text ≡ take (length c.args.text.now) t =
    rw c.list-end.ensures.text (front t c.args.text.now c.list-end.result c.list-end.ensures.end) in
    rw (← e) c.write_all.ensures.bytes
