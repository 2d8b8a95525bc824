-- The factors become edges in a list of zeros; the first dent is refused, and without one the edges are written to the buffer.
use Prim.Native.Nat.{ℕ, ◌*◌, ◌≤◌}
use native.Mathlib.Omega.{arith}
use mathlib.Core.Path.{◌≡◌, sym, subst}
use lib.ListN.{length, take}
use lib.Seq.{length-take-le}
use Rattle.judge.specs.parts.Outcome.{Written}
use Rattle.judge.proofs.PieceLaws.{short, dent-outcome, count-le, edges-outcome}
use Rattle.judge.proofs.Round.edges.Goals as goal

pub dent-requires : goal.dent-requires
dent-requires c =
    let d = c.in-Err.ensures in
    let small = short c.requires.round_of in
    record {
      round_of = c.requires.round_of;
      piece_bound = (d.piece_lt, omega (arith, d.at_le), omega (arith, d.size_le));
    }

pub overflow_mul-numbers : goal.overflow_mul-numbers
overflow_mul-numbers c = omega (arith, count-le c.requires.round_of c.requires.letters_value c.in-Ok.ensures)

pub slice_bounds-numbers-end : goal.slice_bounds-numbers-end
slice_bounds-numbers-end c = omega (arith, count-le c.requires.round_of c.requires.letters_value c.in-Ok.ensures, c.read.auto.list)

pub slice_bounds-write_edges-end : goal.slice_bounds-write_edges-end
slice_bounds-write_edges-end c =
    let room : 2 * c.in-Ok.edges ≤ length c.read.new.list =
    omega (arith, count-le c.requires.round_of c.requires.letters_value c.in-Ok.ensures, c.read.auto.list) in
    sym (length-take-le _ _ room)

pub overflow_cast-result : goal.overflow_cast-result
overflow_cast-result c = omega (arith, count-le c.requires.round_of c.requires.letters_value c.in-Ok.ensures)

pub returns-in-Err : goal.returns-in-Err
returns-in-Err c = dent-outcome c.requires.round_of c.requires.letters_value _ c.in-Err.ensures c.dent.ensures _

pub returns-in-Ok : goal.returns-in-Ok
returns-in-Ok c =
    let room : 2 * c.in-Ok.edges ≤ length c.read.new.list =
    omega (arith, count-le c.requires.round_of c.requires.letters_value c.in-Ok.ensures, c.read.auto.list) in
    let size : length (take (2 * c.in-Ok.edges) c.read.new.list) ≡ 2 * c.in-Ok.edges = length-take-le _ _ room in
    edges-outcome c.requires.round_of c.requires.letters_value c.in-Ok.ensures _
    (subst (λ (n : ℕ). Written (take (2 * c.in-Ok.edges) c.read.new.list) n c.args.buffer.now c.write_edges.new.buffer) size c.write_edges.ensures)
