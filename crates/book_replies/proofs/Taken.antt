-- The outline last taken at a place passed the test, because only a close and a restore put an outline to work, and only by its verdict.
use Rattle.std.specs.Prelude.{Result, Ok, Err}
use Prim.Native.Nat.{ℕ}
use native.Mathlib.Omega.{arith}
use mathlib.Core.Path.{◌≡◌, refl, sym, ◌∙◌}
use mathlib.Core.Bool.{Bool, true, false, cond}
use mathlib.Core.Option.{Option, none, some}
use mathlib.Core.List.{List, [], ◌∷◌}
use lib.Dec.{eqb}
use Rattle.base.specs.Put.{put}
use Rattle.chart.specs.Outline.{Outline}
use Rattle.chart.specs.declared.Point.{Point}
use Rattle.chart.specs.declared.Refusal.{Refusal}
use Rattle.chart.specs.declared.Taken.{Taken}
use Rattle.chart.specs.Taken.{taken_with}
use Rattle.convexity.specs.Clockwise.{border}
use Rattle.convexity.specs.Pieces.{Reaches, dent_piece}
use Rattle.verdict.specs.Verdict.{verdict_of}
use Rattle.verdict.proofs.VerdictLaws.{taken-facts}
use Rattle.calls.specs.Calls.{bad_party, bad_place}
use Rattle.calls.specs.declared.Call.{Call}
use Rattle.calls.specs.declared.Action.{Action}
use Rattle.calls.specs.declared.Action.TheVariants.{Begin, Add, Drop, Clear, Close, Ask}
use Rattle.images.specs.Image.{is_image, held_in}
use Rattle.holder_model.specs.Book.{Book, PartyModel, OnParty, Answer, Entry, Entered, Restored, fresh, work_after, closes, acts}
use Rattle.holder_model.specs.Book.{restores, puts_back, answer_by, answer, restored, entered, book_after}
use Rattle.holder_model.specs.LastTaken.{last_taken}
use Rattle.holder_model.proofs.LastTaken.{work-last-taken}
use Rattle.book_replies.specs.After.{reply_to}

-- The reply is that of the book after these calls
pub reply-after : (cs : List Entry) (c : Call) → reply_to cs c ≡ (answer (book_after fresh cs) c).reply
unfolding reply_to
reply-after cs c = refl

-- What is known of an outline at work
pub record WasTaken (o : Outline) : Type 0 where
  pub edges : ℕ
  pub anchor : Point
  pub verdict : verdict_of o ≡ taken_with edges anchor

-- None is no outline
nothing : {A : Type 0} {o : Outline} → none ≡ some o → A
nothing e = let z : ◌≡◌ {A = ℕ} 0 1 = cc in absurd (omega (arith, z))

abbrev Known : (ℕ → Option Outline) → Type 0
Known works = (k : ℕ) (o : Outline) → works k ≡ some o → WasTaken o

-- A place of the works is replaced
put-known : (works : ℕ → Option Outline) → Known works → (j : ℕ) (w : Option Outline) → ((o : Outline) → w ≡ some o → WasTaken o)
    → Known (put works j w)
unfolding put
put-known works was j w here k o = go (eqb k j)
  where
    go : (t : Bool) → cond t w (works k) ≡ some o → WasTaken o
    go true e = here o e
    go false e = was k o e

-- A close leaves what was at work, or the draft that it took
closed-known : (d w : Option Outline) → ((o : Outline) → w ≡ some o → WasTaken o) → (o : Outline) → (closes d w).work ≡ some o → WasTaken o
unfolding closes work_after
closed-known none w was o e = was o e
closed-known (some d) w was o e = go (verdict_of d) refl e
  where
    go : (v : Result Taken Refusal) → verdict_of d ≡ v → work_after w d v ≡ some o → WasTaken o
    go (Err f) q e = was o e
    go (Ok t) q e = let same : d ≡ o = cc in record { edges = t.edges; anchor = t.anchor; verdict = rw (sym same) q }

either : (t : Bool) (x y : OnParty) → Known x.page.works → Known y.page.works → Known (cond t x y).page.works
either true x y k l = k
either false x y k l = l

acted-known : (g : PartyModel) → Known g.works → (a : Action) → Known (acts g a).page.works
unfolding acts
acted-known g was (Begin s) = was
acted-known g was (Add a) = was
acted-known g was Drop = was
acted-known g was (Ask k q) = was
acted-known g was (Clear j) = either (bad_place j) _ _ was (put-known g.works was j none (λ o. nothing))
acted-known g was (Close j) =
    either (bad_place j) _ _ was (put-known g.works was j _ (closed-known g.draft (g.works j) (was j)))

-- A restore leaves what was at work, or nothing, or the outline that it took
brought-known : (o : Outline) (l : List ℕ) (w : Option Outline) → ((v : Outline) → w ≡ some v → WasTaken v) → (v : Outline)
    → (restores o l w).work ≡ some v → WasTaken v
unfolding restores
brought-known o [] w was v e = nothing e
brought-known o (a ∷ l) w was v e = closed-known (some o) w was v e

restored-known : (k : ℕ) (bytes : List ℕ) (g : PartyModel) → Known g.works → Known (puts_back k bytes g).page.works
unfolding puts_back
restored-known k bytes g was =
    either (bad_place k) _ _ was
    (either (is_image bytes) _ _
    (put-known g.works was k _ (brought-known (held_in bytes) (held_in bytes).letters (g.works k) (was k))) was)

abbrev AllKnown : Book → Type 0
AllKnown b = (p : ℕ) → Known (b p).works

next_known : (t : Bool) (x y : Answer) → AllKnown x.next → AllKnown y.next → AllKnown (cond t x y).next
next_known true x y k l = k
next_known false x y k l = l

turned-known : (b : Book) → AllKnown b → (p : ℕ) (g : PartyModel) → Known g.works → AllKnown (put b p g)
unfolding put
turned-known b was p g k q = go (eqb q p)
  where
    go : (t : Bool) → Known (cond t g (b q)).works
    go true = k
    go false = was q

by-known : (b : Book) → AllKnown b → (p : ℕ) (f : PartyModel → OnParty) → ((g : PartyModel) → Known g.works → Known (f g).page.works)
    → AllKnown (answer_by b p f).next
by-known b was p f keeps = next_known (bad_party p) _ _ was (turned-known b was p _ (keeps (b p) (was p)))

entered-known : (b : Book) → AllKnown b → (x : Entry) → AllKnown (entered b x).next
unfolding answer restored
entered-known b was (Entered c) = by-known b was c.party (λ g. acts g c.action) (λ g known. acted-known g known c.action)
entered-known b was (Restored p k bytes) = by-known b was p (puts_back k bytes) (restored-known k bytes)

after-known : (b : Book) → AllKnown b → (cs : List Entry) → AllKnown (book_after b cs)
unfolding book_after
after-known b was [] = was
after-known b was (x ∷ xs) = after-known (entered b x).next (entered-known b was x) xs

-- The outline last taken at a party's place was taken
pub last-was-taken : (p k : ℕ) (cs : List Entry) (o : Outline) → last_taken p k cs ≡ some o → WasTaken o
unfolding fresh
last-was-taken p k cs o last = after-known fresh (λ p k o. nothing) cs p k o (work-last-taken p k cs ∙ last)

-- So it passes 1 to 8, and has no dent
pub record Working (o : Outline) : Type 0 where
  pub reaches : Reaches o
  pub undented : dent_piece (border o) ≡ 4

pub last-working : (p k : ℕ) (cs : List Entry) (o : Outline) → last_taken p k cs ≡ some o → Working o
last-working p k cs o last =
    let t = last-was-taken p k cs o last in
    let f = taken-facts o t.edges t.anchor t.verdict in
    record { reaches = f.reaches; undented = f.undented }
