-- The cell of a close's reply is the verdict's on the draft, for any content. A close without a verdict names no cell.
use Rattle.std.specs.Prelude.{Result, Ok, Err}
use Prim.Native.Nat.{ℕ}
use native.Mathlib.Omega.{arith}
use mathlib.Core.Path.{◌≡◌, sym, subst}
use mathlib.Core.Bool.{Bool, true, false, cond}
use Rattle.chart.specs.declared.Refusal.{Refusal}
use Rattle.chart.specs.declared.Taken.{Taken}
use Rattle.chart.specs.Outline.{Outline}
use Rattle.chart.specs.Fields.{verdict_fields}
use Rattle.verdict.specs.Named.{CellNamed}
use Rattle.verdict.proofs.Cells.{verdict-named}
use Rattle.judge.specs.declared.Judged.{Judged}
use Rattle.judge.specs.Judged.{judged_of}
use Rattle.judge.proofs.JudgedLaws.{judged-verdict}
use Rattle.calls.specs.Calls.{bad_party, bad_place, by}
use Rattle.calls.specs.Replies.{Reply, reply_fields}
use Rattle.calls.specs.declared.Action.TheVariants.{Close}
use Rattle.calls.specs.declared.Answer.TheVariants.{Taken as WasTaken, Same}
use Rattle.holder_records.specs.Work.{listed, has_edges}
use Rattle.holder_memory.specs.Layout.{Holder}
use Rattle.holder_answers.specs.Arrays.{Answered, reply, Preparation, begun, draft_in, work_in, outline_prepared_by, prepared_of}
use Rattle.holder_answers.specs.Arrays.{prepare_of, close_of, act_of, answer_of}

closed-named : (h : Holder) (p k : ℕ) (o : Outline) (j : Judged) (v : Result Taken Refusal) → CellNamed o (verdict_fields v)
    → CellNamed o (reply_fields (outline_prepared_by h p k o j v).reply)
unfolding outline_prepared_by reply_fields
closed-named h p k o j (Err f) c = c
closed-named h p k o j (Ok u) c = go (has_edges (work_in h p k) u.anchor (listed j.numbers u.edges))
  where
    go : (t : Bool) → CellNamed o (reply_fields (cond t (Ok (Same u.edges u.anchor)) (Ok (WasTaken u.edges u.anchor))))
    go true = record { anchor = c.anchor; missing = c.missing }
    go false = record { anchor = c.anchor; missing = c.missing }

either : (o : Outline) (t : Bool) (x y : Preparation) → CellNamed o (reply_fields x.reply) → CellNamed o (reply_fields y.reply)
    → CellNamed o (reply_fields (cond t x y).reply)
either o true x y c d = c
either o false x y c d = d

choose : (o : Outline) (t : Bool) (x y : Answered) → CellNamed o (reply_fields x.reply) → CellNamed o (reply_fields y.reply)
    → CellNamed o (reply_fields (cond t x y).reply)
choose o true x y c d = c
choose o false x y c d = d

pub close-named : (h : Holder) (p k : ℕ) → CellNamed (draft_in h p) (reply_fields (answer_of h (by p (Close k))).reply)
unfolding answer_of act_of close_of prepared_of reply_fields
close-named h p k =
    let o : Outline = draft_in h p in
    choose o (bad_party p) _ _ (record { anchor = λ z. absurd (omega (arith, z)); missing = λ z. absurd (omega (arith, z)) })
    (either o (bad_place k) _ _ (record { anchor = λ z. absurd (omega (arith, z)); missing = λ z. absurd (omega (arith, z)) })
    (either o (begun h p) _ _
    (closed-named h p k o (judged_of o) (judged_of o).verdict (rw (judged-verdict o) (verdict-named o)))
    (record { anchor = λ z. absurd (omega (arith, z)); missing = λ z. absurd (omega (arith, z)) })))

-- The first half of a close has the close's reply
pub prepare-named : (h : Holder) (p k : ℕ) → CellNamed (draft_in h p) (reply_fields (prepare_of h p k).reply)
unfolding prepare_of prepared_of reply_fields
prepare-named h p k =
    let o : Outline = draft_in h p in
    either o (bad_party p) _ _ (record { anchor = λ z. absurd (omega (arith, z)); missing = λ z. absurd (omega (arith, z)) })
    (either o (bad_place k) _ _ (record { anchor = λ z. absurd (omega (arith, z)); missing = λ z. absurd (omega (arith, z)) })
    (either o (begun h p) _ _
    (closed-named h p k o (judged_of o) (judged_of o).verdict (rw (judged-verdict o) (verdict-named o)))
    (record { anchor = λ z. absurd (omega (arith, z)); missing = λ z. absurd (omega (arith, z)) })))

pub named_by : (h n : Holder) (p k : ℕ) (r : Reply) → reply r n ≡ answer_of h (by p (Close k)) → CellNamed (draft_in h p) (reply_fields r)
named_by h n p k r e = subst (λ (x : Answered). CellNamed (draft_in h p) (reply_fields x.reply)) (sym e) (close-named h p k)
