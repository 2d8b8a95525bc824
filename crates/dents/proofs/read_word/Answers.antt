-- Each round of the loop passes one factor that is a Christoffel word and puts its edge behind the others.
use Prim.Native.Nat.{ℕ, ◌+◌, ◌*◌, ◌≤◌, ◌<◌}
use native.Mathlib.Omega.{arith}
use lib.ListN.{length, drop}
use lib.IntN.{ℤ}
use mathlib.Core.List.{List}
use mathlib.Core.Path.{◌≡◌, refl, sym, ◌∙◌}
use borrow.Author.Tests.{not-true, not-false}
use Rattle.std.specs.Prelude.{Some}
use Rattle.words.specs.Word.{word_of}
use Rattle.words.specs.Lyndon.{factors_of}
use Rattle.words.specs.parts.Search.{judged}
use Rattle.words.specs.declared.JudgedFactor.{JudgedFactor}
use Rattle.words.proofs.WalkLaws.{judged_end}
use Rattle.chart.specs.Limits.{longest}
use Rattle.convexity.specs.Frame.{frame_of}
use Rattle.dents.specs.parts.Dents.{factors_in}
use Rattle.dents.proofs.WordLaws.{Tracing, tracing-start, step, rise_le, tracing-dent, tracing-edge, tracing-end}
use Rattle.dents.proofs.read_word.Goals as goal

-- What is judged is the first factor of the rest in the frame of piece k
judged-rest : (k at : ℕ) (letters : List ℕ) {later : ℕ} {r : JudgedFactor} → later ≡ (frame_of k).later
    → Some r ≡ judged (factors_of (word_of later (drop at letters))) → Some r ≡ judged (factors_in k (drop at letters))
judged-rest k at letters e j = rw (sym e) j

-- How far the factor reaches, and how far up
record Reach (letters : List ℕ) (at : ℕ) (r : JudgedFactor) : Type 0 where
  ahead : 0 < r.times * r.length
  within : at + r.times * r.length ≤ length letters
  short : r.times * r.length ≤ longest
  rise : r.times * r.laters ≤ r.times * r.length

reach : {k later : ℕ} {letters : List ℕ} {from : ℕ} {before list : List ℤ} {count at : ℕ} {r : JudgedFactor}
    → Tracing k letters from before list count at → length letters ≤ longest → later ≡ (frame_of k).later
    → Some r ≡ judged (factors_of (word_of later (drop at letters))) → Reach letters at r
reach {k} {letters = letters} {at = at} t short e j =
    let judged = judged-rest k at letters e j in
    let s = step t short judged in
    record {
      ahead = omega (arith, s.ahead);
      within = omega (arith, s.within);
      short = omega (arith, s.within, short);
      rise = rise_le t short judged;
    }

pub loop-f-init : goal.loop-f-init
loop-f-init c = record { same_reference = refl; tracing = tracing-start _ _ _ _ }

pub returns-then-not-f : goal.returns-then-not-f
returns-then-not-f c =
    record {
      same_reference = c.loop-f.invariant.same_reference;
      kept = c.loop-f.invariant.tracing.same;
      read =
          tracing-dent c.loop-f.invariant.tracing c.requires
          (judged-rest _ c.loop-f.at c.args.letters.now c.pair_at-pair.ensures.later c.in-Some.ensures)
          (not-true _ c.if-not-f.true);
    }

pub overflow_mul-size : goal.overflow_mul-size
overflow_mul-size c =
    let s = reach c.loop-f.invariant.tracing c.requires c.pair_at-pair.ensures.later c.in-Some.ensures in
    omega (arith, s.short)

pub overflow_mul-rise : goal.overflow_mul-rise
overflow_mul-rise c =
    let s = reach c.loop-f.invariant.tracing c.requires c.pair_at-pair.ensures.later c.in-Some.ensures in
    omega (arith, s.short, s.rise)

pub overflow_sub-size : goal.overflow_sub-size
overflow_sub-size c =
    let s = reach c.loop-f.invariant.tracing c.requires c.pair_at-pair.ensures.later c.in-Some.ensures in
    s.rise

pub overflow_cast-size : goal.overflow_cast-size
overflow_cast-size c =
    let s = reach c.loop-f.invariant.tracing c.requires c.pair_at-pair.ensures.later c.in-Some.ensures in
    omega (arith, s.short, s.rise)

pub overflow_cast-rise : goal.overflow_cast-rise
overflow_cast-rise c =
    let s = reach c.loop-f.invariant.tracing c.requires c.pair_at-pair.ensures.later c.in-Some.ensures in
    omega (arith, s.short, s.rise)

pub edge_of-requires : goal.edge_of-requires
edge_of-requires c =
    let s = reach c.loop-f.invariant.tracing c.requires c.pair_at-pair.ensures.later c.in-Some.ensures in
    (omega (arith, s.short, s.rise), omega (arith, s.short, s.rise))

pub loop-f-smaller : goal.loop-f-smaller
loop-f-smaller c =
    let s = reach c.loop-f.invariant.tracing c.requires c.pair_at-pair.ensures.later c.in-Some.ensures in
    omega (arith, s.ahead, s.within)

pub loop-f-preserved : goal.loop-f-preserved
loop-f-preserved c =
    record {
      same_reference = c.put.ensures.same_reference ∙ c.loop-f.invariant.same_reference;
      tracing =
          tracing-edge c.loop-f.invariant.tracing c.requires
          (judged-rest _ c.loop-f.at c.args.letters.now c.pair_at-pair.ensures.later c.in-Some.ensures)
          (not-false _ c.if-not-f.false) c.edge_of.ensures c.put.ensures.put c.put.ensures.kept;
    }

pub returns : goal.returns
returns c =
    record {
      same_reference = c.loop-f.invariant.same_reference;
      kept = c.loop-f.invariant.tracing.same;
      read =
          tracing-end c.loop-f.invariant.tracing
          (judged_end c.args.letters.now c.loop-f.at c.pair_at-pair.result.later c.in_default.ensures);
    }
