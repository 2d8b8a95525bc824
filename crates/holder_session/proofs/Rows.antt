-- After every session the arrays keep the rows of the outline last taken at each place, also between the halves of a close or a restore.
use Prim.Native.Nat.{ℕ, ◌<◌}
use mathlib.Core.Path.{sym}
use mathlib.Core.Option.{Option, none, some}
use mathlib.Core.List.{List, [], ◌∷◌, ◌++◌}
use Rattle.chart.specs.Outline.{Outline}
use Rattle.spans.proofs.Exact.{spans-describe}
use Rattle.calls.specs.Calls.{parties, places}
use Rattle.holder_model.specs.Book.{at_work, fresh, book_after}
use Rattle.holder_model.specs.LastTaken.{last_taken}
use Rattle.holder_model.proofs.LastTaken.{work-last-taken}
use Rattle.holder_refinement.proofs.Works.{IsWork}
use Rattle.holder_memory.specs.Layout.{Holder}
use Rattle.holder_answers.specs.Arrays.{work_in}
use Rattle.holder_session.specs.Session.{Event, Fresh, Stage, Idle, Session}
use Rattle.holder_session.specs.Booked.{State, After, seen, after_all}
use Rattle.holder_session.specs.Rows.{KeepsRows}
use Rattle.holder_session.proofs.Theorem.{Holds, idle, closing, session-left}

keeps-rows : (h : Holder) (p k : ℕ) (o : Option Outline) → IsWork (work_in h p k) o → KeepsRows h p k o
keeps-rows h p k none w = w
keeps-rows h p k (some o) w = (w.taken, rw w.spans (spans-describe o w.reaches))

holds_rows : (u : Stage) (n : Holder) (t : State) → Holds u n t → (p k : ℕ) → p < parties → k < places
    → KeepsRows n p k (last_taken p k (seen t))
unfolding seen
holds_rows u n t (idle {h = _} {xs = xs} r) p k there place =
    rw (sym (work-last-taken p k xs)) (keeps-rows n p k (at_work (book_after fresh xs) p k) ((r.pages p there).works k place))
holds_rows u n t (closing {h = _} {xs = xs} {p = q} {k = j} {w = w} {done = done} {cut = cut} half) p k there place =
    rw (sym (work-last-taken p k xs), sym (half.works p))
    (keeps-rows n p k (at_work (book_after fresh (xs ++ cut)) p k) ((half.here.pages p there).works k place))

-- At each party and place the rows are those of the cells of the outline last taken there
pub session-rows : (h n : Holder) (es : List Event) → Session Idle h (Fresh ∷ es) n → (p k : ℕ) → p < parties → k < places
    → KeepsRows n p k (last_taken p k (seen (after_all (After []) es)))
session-rows h n es session p k there place =
    let (u, holds) = session-left h n es session in
    holds_rows u n (after_all (After []) es) holds p k there place
