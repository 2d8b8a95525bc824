-- A party's replies come from its own state, which no other party's call changes. So they are the replies to its own calls alone.
use Rattle.std.specs.Prelude.{Err}
use Prim.Native.Nat.{ℕ}
use mathlib.Core.Path.{◌≡◌, refl, sym, ap, ap₂, ◌∙◌}
use mathlib.Core.Bool.{Bool, true, false, cond}
use mathlib.Core.List.{List, [], ◌∷◌, map}
use lib.Dec.{eqb}
use borrow.Author.Tests.{eqb-true, eq-eqb}
use Rattle.base.specs.Put.{put}
use Rattle.calls.specs.Calls.{bad_party, by}
use Rattle.calls.specs.declared.Call.{Call}
use Rattle.calls.specs.declared.Action.{Action}
use Rattle.calls.specs.Replies.{Reply}
use Rattle.chart.specs.declared.Refusal.TheVariants.{Party}
use Rattle.holder_model.specs.Book.{Book, PartyModel, fresh, acts, answer, replies_from, replies}
use Rattle.holder_model.specs.Parties.{calls_of, replies_to, acts_from}

module _ (p : ℕ) where
  -- The reply to a call of party p, and the state of p after any call, from the state of p before
  replied_to : PartyModel → Action → Reply
  replied_to g a = cond (bad_party p) (Err Party) (acts g a).reply

  turned : PartyModel → Call → PartyModel
  turned g c = cond (bad_party c.party) g (cond (eqb p c.party) (acts g c.action).page g)

  reply-own : (b : Book) (c : Call) → eqb p c.party ≡ true → (answer b c).reply ≡ replied_to (b p) c.action
  unfolding answer replied_to
  reply-own b c e = rw (sym (eqb-true p c.party e)) (go (bad_party p) refl)
    where
      go : (t : Bool) → bad_party p ≡ t → (answer b (by p c.action)).reply ≡ replied_to (b p) c.action
      go true h = rw h
      go false h = rw h

  next-page : (b : Book) (c : Call) → (answer b c).next p ≡ turned (b p) c
  unfolding answer turned put
  next-page b c = go (bad_party c.party) (eqb p c.party) refl refl
    where
      go : (t e : Bool) → bad_party c.party ≡ t → eqb p c.party ≡ e → (answer b c).next p ≡ turned (b p) c
      go true e h q = rw h
      go false false h q = rw (h, q)
      go false true h q = rw (h, q) (ap (λ n. (acts (b n) c.action).page) (sym (eqb-true p c.party q)))

  next-other : (g : PartyModel) (c : Call) → eqb p c.party ≡ false → turned g c ≡ g
  unfolding turned
  next-other g c e = rw e (go (bad_party c.party))
    where
      go : (t : Bool) → cond t g g ≡ g
      go true = refl
      go false = refl

  -- ---- the replies to a party

  own-page : (b d : Book) → b p ≡ d p → (cs : List Call) → replies_to p cs (replies_from b cs) ≡ replies_from d (calls_of p cs)
  unfolding replies_to replies_from calls_of
  own-page b d e [] = refl
  own-page b d e (c ∷ cs) = go (eqb p c.party) refl (λ f same. own-page (answer b c).next f same cs)
    where
      go : (t : Bool) → eqb p c.party ≡ t
          → ((f : Book) → (answer b c).next p ≡ f p → replies_to p cs (replies_from (answer b c).next cs) ≡ replies_from f (calls_of p cs))
          → replies_to p (c ∷ cs) (replies_from b (c ∷ cs)) ≡ replies_from d (calls_of p (c ∷ cs))
      go true q rest =
          rw q (ap₂ ◌∷◌ (reply-own b c q ∙ ap (λ (g : PartyModel). replied_to g c.action) e ∙ sym (reply-own d c q))
          (rest (answer d c).next (next-page b c ∙ ap (λ (g : PartyModel). turned g c) e ∙ sym (next-page d c))))
      go false q rest = rw q (rest d (next-page b c ∙ next-other (b p) c q ∙ e))

  -- The replies to a party's calls are those that its calls alone would get
  pub replies-to : (cs : List Call) → replies_to p cs (replies cs) ≡ replies (calls_of p cs)
  unfolding replies
  replies-to cs = own-page fresh fresh refl cs

  -- The replies to one party's calls, from its own state
  pub alone : bad_party p ≡ false → (b : Book) (acting : List Action) → replies_from b (map (by p) acting) ≡ acts_from (b p) acting
  unfolding replies_from acts_from
  alone h b [] = refl
  alone h b (a ∷ acting) =
      ap₂ ◌∷◌ (reply-own b (by p a) (eq-eqb p p refl) ∙ unfold replied_to in rw h)
      (alone h (answer b (by p a)).next acting
      ∙ ap (λ (g : PartyModel). acts_from g acting) (next-page b (by p a) ∙ unfold turned in rw (h, eq-eqb p p refl)))
