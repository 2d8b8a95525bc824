-- If the remainder is below run, the next letter is the earlier one.
use Prim.Native.Nat.{ℕ, suc, ◌+◌, ◌-◌, ◌*◌, ◌%◌, ◌<◌}
use native.Mathlib.Nat.{zero-mul, zero-mod, mod-lt}
use native.Mathlib.Numerals.{add-one}
use native.Mathlib.Omega.{arith}
use lib.ListN.{length, take, drop, set, length-take, length-drop}
use lib.Seq.{take_all}
use mathlib.Core.Path.{◌≡◌, refl, sym, ap, ◌∙◌}
use Rattle.words.specs.Counted.{listed, counted_letter}
use Rattle.convexity.specs.Frame.{frame_of}
use Rattle.convexity.specs.parts.InFrame.{spell}
use Rattle.border.specs.parts.Rest.{letters}
use Rattle.border.proofs.Remainders.{multiple-next}
use Rattle.border.proofs.Writing.{wrote-put, length-letters, earlier-next, later-next}
use Rattle.border.proofs.writer.write_edge.Goals.{then-rem-run, else-rem-run}
use Rattle.border.proofs.writer.write_edge.Goals as goal

pub loop-letter-init : goal.loop-letter-init
unfolding listed spell
loop-letter-init c = (sym (ap (λ (n : ℕ). n % (c.args.run + c.args.rise)) (zero-mul c.args.rise) ∙ zero-mod _), refl)

pub next-rem-requires : goal.next-rem-requires
next-rem-requires c = (
  omega (arith, c.loop-letter.invariant.0, mod-lt (c.loop-letter.letter-index * c.args.rise) (let p : 0 < c.args.run + c.args.rise = omega arith in p)),
  omega arith,
)

pub loop-letter-preserved : goal.loop-letter-preserved
loop-letter-preserved c =
    let a = c.args in
    let i = c.loop-letter.letter-index in
    let rem = c.loop-letter.invariant.0 in
    let h = c.loop-letter.invariant.1 in
    let fits : i < length c.loop-letter.letter-items = omega (arith, c.loop-letter.auto.letter-items, c.loop-letter-test.true) in
    let longer : take (suc i) (set c.loop-letter.letter-items i c.if-rem-run.letter)
    ≡ spell (frame_of a.k) (listed (counted_letter a.rise (a.run + a.rise)) (suc i)) =
    elim c.if-rem-run.branch [
      | then-rem-run w ↦
          rw (w.letter-is, c.pair_at-pair.ensures.earlier)
          (earlier-next a.k a.run a.rise i c.requires.1 _ h fits (omega (arith, rem, w.if-rem-run.true)))
      | else-rem-run w ↦
          rw (w.letter-is, c.pair_at-pair.ensures.later)
          (later-next a.k a.run a.rise i c.requires.1 _ h fits (omega (arith, rem, w.if-rem-run.false)))
    ]
    in (
      c.next-rem.ensures ∙ ap (λ (r : ℕ). (r + a.rise) % (a.run + a.rise)) rem ∙ multiple-next i a.rise (a.run + a.rise)
          ∙ ap (λ (m : ℕ). m * a.rise % (a.run + a.rise)) (sym (add-one i)),
      rw (add-one i) longer,
    )

pub returns : goal.returns
unfolding letters
returns c =
    let a = c.args in
    let list = c.loop-letter.letter-items in
    let n = a.run + a.rise in
    let long : length list ≡ n =
    omega (
      arith,
      c.loop-letter.auto.letter-items,
      c.requires.0,
      length-take (a.at + n - a.at) (drop a.at a.letters.now),
      length-drop a.at a.letters.now,
    ) in
    let e : c.loop-letter.letter-index ≡ n = omega (arith, c.loop-letter.auto, c.loop-letter-test.false, c.loop-letter.auto.letter-items, long) in
    let all : list ≡ letters a.k a.run a.rise = sym (take_all n list (omega (arith, long))) ∙ rw e at c.loop-letter.invariant.1 in
    let m = length-letters a.k a.run a.rise in
    (omega arith, wrote-put all (omega (arith, m)) (omega (arith, m, c.requires.0)))
