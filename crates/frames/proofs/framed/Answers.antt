-- 28 and 18 leave the buffer; otherwise the head, the body and the checksum are written, one after the other.
use native.Mathlib.Omega.{arith}
use mathlib.Core.Path.{sym, ◌∙◌}
use Rattle.frames.proofs.Frames.{framed-list}
use Rattle.frames.proofs.Theorems.{framed-long, kept-long, framed-short, kept-short, framed-done, written}
use Rattle.frames.proofs.framed.Goals as goal

pub returns-then-n-gt-BODY : goal.returns-then-n-gt-BODY
returns-then-n-gt-BODY c =
    let long = c.if-n-gt-BODY.true in
    record { reply = c.from.ensures ∙ sym (framed-long _ long _); frame = sym (kept-long _ long _) }

pub returns-then-frame-n : goal.returns-then-frame-n
returns-then-frame-n c =
    let short = c.if-frame-n.true in
    let fit = c.if-n-gt-BODY.false in
    record {
      reply = c.from-then-frame-n.ensures ∙ sym (framed-short _ (omega (arith, fit)) _ (omega (arith, short)));
      frame = sym (kept-short _ (omega (arith, fit)) _ (omega (arith, short)));
    }

pub returns : goal.returns
returns c =
    let fit = c.if-n-gt-BODY.false in
    let room = c.if-frame-n.false in
    record {
      reply = c.placed.ensures ∙ sym (framed-done _ (omega (arith, fit)) _ (omega (arith, room)));
      frame =
          c.seal.ensures ∙ framed-list _ _ _ c.begin.ensures
          ∙ sym (written _ (omega (arith, fit)) _ (omega (arith, room)));
    }
