-- 28 and 18 leave the buffer; otherwise the body is copied to its front.
use Prim.Native.Nat.{ℕ, ◌+◌, ◌-◌, ◌≤◌}
use native.Mathlib.Omega.{arith}
use mathlib.Core.Path.{◌≡◌, sym, ap, ap₂, ◌∙◌}
use mathlib.Core.List.{List, ◌++◌}
use lib.ListN.{length, take, drop}
use Rattle.chart.specs.Fields.{placed}
use Rattle.frames.specs.Frame.{header_bytes, frame_bytes, body_in}
use Rattle.frames.proofs.Frames.{body-count}
use Rattle.frames.proofs.Theorems.{unframed-none, kept-none, unframed-short, kept_small, unframed-done, read}
use Rattle.frames.proofs.unframed.Goals as goal

-- The part that is copied is the body
part : (f : List ℕ) → frame_bytes ≤ length f → take (length f - frame_bytes + header_bytes - header_bytes) (drop header_bytes f) ≡ body_in f
part f l =
    let e : length f - frame_bytes + header_bytes - header_bytes ≡ length f - frame_bytes = omega (arith, l) in
    ap (λ (k : ℕ). take k (drop header_bytes f)) e

pub returns-then-not-is_frame : goal.returns-then-not-is_frame
returns-then-not-is_frame c =
    let none = sym c.is_frame.ensures ∙ c.if-not-is_frame.true in
    record { reply = c.from.ensures ∙ sym (unframed-none _ none _); body = sym (kept-none _ none _) }

pub overflow_sub-n : goal.overflow_sub-n
overflow_sub-n c = omega (arith, body-count _ (sym c.is_frame.ensures ∙ c.if-not-is_frame.false))

pub returns-then-body-n : goal.returns-then-body-n
returns-then-body-n c =
    let e = sym c.is_frame.ensures ∙ c.if-not-is_frame.false in
    let k = body-count _ e in
    let short = c.if-body-n.true in
    record {
      reply = c.from-then-body-n.ensures ∙ sym (unframed-short _ e _ (omega (arith, k, short)));
      body = sym (kept_small _ e _ (omega (arith, k, short)));
    }

pub overflow_cast-n : goal.overflow_cast-n
overflow_cast-n c = omega (arith, body-count _ (sym c.is_frame.ensures ∙ c.if-not-is_frame.false))

pub slice_bounds-copy_from_slice-end-3 : goal.slice_bounds-copy_from_slice-end-3
slice_bounds-copy_from_slice-end-3 c = omega (arith, body-count _ (sym c.is_frame.ensures ∙ c.if-not-is_frame.false))

pub returns-clause-reply : goal.returns-clause-reply
returns-clause-reply c =
    let f = c.args.frame.now in
    let e = sym c.is_frame.ensures ∙ c.if-not-is_frame.false in
    let k = body-count f e in
    c.placed.ensures ∙ ap (placed 0) (sym k.0) ∙ sym (unframed-done f e (length c.args.body.now) (omega (arith, k, c.if-body-n.false)))

pub returns-clause-body : goal.returns-clause-body
returns-clause-body c =
    let f = c.args.frame.now in
    let l = c.args.body.now in
    let e = sym c.is_frame.ensures ∙ c.if-not-is_frame.false in
    let k = body-count f e in
    ap₂ (λ (b : List ℕ) (n : ℕ). b ++ drop n l) (c.copy_from_slice.ensures.after ∙ part f k.1) (sym k.0)
    ∙ sym (read f e l (omega (arith, k, c.if-body-n.false)))
