-- Each test that fails shows that the bytes are no image; if all pass they are one.
use native.Mathlib.Omega.{arith}
use mathlib.Core.Path.{◌≡◌, sym, ◌∙◌}
use mathlib.Core.Bool.{true≢false}
use Rattle.images.specs.Image.{count_in}
use Rattle.images.proofs.Images.{read-stored, read-first, read-second, read_count, read-filled, read_whole}
use Rattle.images.proofs.read.Goals as goal

pub returns-then-not-intact : goal.returns-then-not-intact
returns-then-not-intact c = read-stored _ (λ s. true≢false (sym (c.intact.ensures.1 s) ∙ c.if-not-intact.true))

pub returns-in_default-2 : goal.returns-in_default-2
returns-in_default-2 c = read-second _ (λ e. omega (arith, e))

pub returns-in_default-3 : goal.returns-in_default-3
returns-in_default-3 c = read-first _ (λ e. omega (arith, e))

pub returns-then-count-gt-LONGEST : goal.returns-then-count-gt-LONGEST
returns-then-count-gt-LONGEST c =
    read_count _ (omega (arith, c.from_le_bytes.ensures, c.from-count.ensures, c.if-count-gt-LONGEST.true))

pub returns-then-not-are_zero : goal.returns-then-not-are_zero
returns-then-not-are_zero c =
    let count : c.from-count.result ≡ count_in c.args.image.now = omega (arith, c.from-count.ensures, c.from_le_bytes.ensures) in
    read-filled _ _ count (λ z. true≢false (sym (c.are_zero.ensures.1 z) ∙ c.if-not-are_zero.true))

pub returns : goal.returns
returns c =
    let count : c.from-count.result ≡ count_in c.args.image.now = omega (arith, c.from-count.ensures, c.from_le_bytes.ensures) in
    rw (c.from.ensures, c.from-2.ensures, count)
    (read_whole c.args.image.now _ count (omega arith) (omega (arith, c.type_inv.image 4))
    (c.intact.ensures.0 c.if-not-intact.false) (omega arith) (omega arith)
    (omega (arith, c.if-count-gt-LONGEST.false)) (c.are_zero.ensures.0 c.if-not-are_zero.false))
