-- A whole call whose reply fits writes its reply first, and the rest of the script is replayed on the next
-- holder into the rest of the buffer. From a fresh holder the list theorem makes the replies the model's.
use Prim.Native.Nat.{ℕ, zero, suc, ◌+◌, ◌*◌, ◌-◌, ◌/◌, ◌≤◌, ◌<◌, min}
use native.Mathlib.Nat.{zero-add, add-zero}
use native.Mathlib.Omega.{arith}
use mathlib.Core.Path.{◌≡◌, refl, sym, ap, ◌∙◌}
use mathlib.Core.Bool.{Bool, true, false, not, true≢false}
use mathlib.Core.List.{List, [], ◌∷◌, ◌++◌, append_assoc}
use lib.ListN.{length, take, drop, get_or, take-append-drop}
use lib.Seq.{get_or-take, drop-drop, paste, length-paste, take-paste, drop-paste}
use borrow.Author.Tests.{not-true, not-false}
use Rattle.chart.specs.Fields.{numbers_of}
use Rattle.calls.specs.declared.Call.{Call}
use Rattle.calls.specs.Replies.{Reply, reply_fields}
use Rattle.wire.specs.Wire.{Decoded}
use Rattle.std.specs.Prelude.{Some, None}
use Rattle.std.specs.Simd.{first_chunks}
use Rattle.wire.specs.Wire.{call_width, reply_width, decoded}
use Rattle.holder_memory.specs.Layout.{Holder}
use Rattle.holder_answers.specs.Arrays.{answer_of}
use Rattle.holder_answers.specs.Run.{fresh_holder, handled, handled_from}
use Rattle.holder_refinement.proofs.ListTheorem.{list-theorem}
use Rattle.holder_bytes.specs.Responded.{is_call, next_holder, reply_by, Responded}
use Rattle.replay.specs.Script.{followed, calls_from, calls_read, written, replies_after}

-- ---- the buffer after a replay of n calls on a holder

unfoldable pub list_from : Holder → ℕ → List ℕ → List ℕ → List ℕ
list_from h n s l = written (handled_from h (calls_from n s)) ++ drop (reply_width * length (calls_from n s)) l

module _ (h : Holder) (n : ℕ) (s l : List ℕ) where
  list_from-none : calls_from n s ≡ [] → list_from h n s l ≡ l
  unfolding list_from written handled_from
  list_from-none e = rw e

  -- The first bytes are not a call
  calls-none : decoded (take call_width s) ≡ None → calls_from n s ≡ []
  unfolding calls_from followed
  calls-none e = go n
    where
      go : (m : ℕ) → calls_from m s ≡ []
      go zero = refl
      go (suc m) = rw e

  -- The first bytes are this call
  module _ (x : Call) (e : decoded (take call_width s) ≡ Some x) where
    calls-some : calls_from (suc n) s ≡ x ∷ calls_from n (drop call_width s)
    unfolding calls_from followed
    calls-some = rw e

    list_from-some : list_from h (suc n) s l
        ≡ numbers_of (reply_fields (answer_of h x).reply) ++ list_from (answer_of h x).holder n (drop call_width s) (drop reply_width l)
    unfolding list_from written handled_from
    list_from-some =
        let cs = calls_from n (drop call_width s) in
        let m : reply_width * suc (length cs) ≡ reply_width + reply_width * length cs = omega arith in
        rw (calls-some, m, sym (drop-drop (reply_width * length cs) reply_width l))
        (append_assoc (numbers_of (reply_fields (answer_of h x).reply)) (written (handled_from (answer_of h x).holder cs))
        (drop (reply_width * length cs) (drop reply_width l)))

-- From a fresh holder: the model's replies, by the list theorem
list_from-fresh : (script buffer : List ℕ)
    → list_from fresh_holder (min (length script / call_width) (length buffer / reply_width)) script buffer ≡ replies_after script buffer
unfolding list_from replies_after handled calls_read
list_from-fresh script buffer =
    let cs = calls_read script (length buffer) in
    ap (λ (t : List Reply). written t ++ drop (reply_width * length cs) buffer) (list-theorem cs)

-- There are at most n calls, so their replies have room
calls-few : (n : ℕ) (s : List ℕ) → length (calls_from n s) ≤ n
unfolding calls_from followed
calls-few zero s = omega arith
calls-few (suc n) s = go (decoded (take call_width s)) (calls-few n (drop call_width s))
  where
    go : (d : Decoded) → length (calls_from n (drop call_width s)) ≤ n → length (followed d (calls_from n (drop call_width s))) ≤ suc n
    go (Some x) few = omega arith
    go None few = omega arith

pub calls_read-room : (s : List ℕ) (m : ℕ) → reply_width * length (calls_read s m) ≤ m
unfolding calls_read
calls_read-room s m = omega (arith, calls-few (min (length s / call_width) (m / reply_width)) s)

pub calls_read-bytes : (s : List ℕ) (m : ℕ) → call_width * length (calls_read s m) ≤ length s
unfolding calls_read
calls_read-bytes s m = omega (arith, calls-few (min (length s / call_width) (m / reply_width)) s)

-- ---- the calls as chunks of the script

chunk_is : (m k : ℕ) (s : List ℕ) → k < m → get_or (first_chunks call_width m s) k [] ≡ take call_width (drop (call_width * k) s)
chunk_is zero k s h = absurd (omega arith)
chunk_is (suc m) zero s h = refl
chunk_is (suc m) (suc k) s h =
    let d : call_width + call_width * k ≡ call_width * suc k = omega arith in
    chunk_is m k (drop call_width s) (omega arith)
    ∙ ap (take call_width) (drop-drop (call_width * k) call_width s ∙ ap (λ (j : ℕ). drop j s) d)

-- The bytes of call k, of the calls that are run
pub call_at : (s : List ℕ) {cs : List (List ℕ)} {end : ℕ} (k : ℕ) → cs ≡ first_chunks call_width (length s / call_width) s
    → end ≤ length s / call_width → k < end → get_or (take end cs) k [] ≡ take call_width (drop (call_width * k) s)
call_at s {cs} {end} k e few h =
    get_or-take end cs k [] h ∙ ap (λ (l : List (List ℕ)). get_or l k []) e ∙ chunk_is (length s / call_width) k s (omega (arith, few, h))

-- ---- whether a call was answered

unanswered : (d : Decoded) → false ≡ is_call d → d ≡ None
unfolding is_call
unanswered None e = refl
unanswered (Some x) e = absurd (true≢false (sym e))

answered : (d : Decoded) → true ≡ is_call d → (x : Call) × (d ≡ Some x)
unfolding is_call
answered None e = absurd (true≢false e)
answered (Some x) e = (x, refl)

-- ---- the loop

-- After some calls: replaying the rest of the script on this holder into the rest of the buffer gives the final buffer
pub record Underway (script buffer : List ℕ) (end : ℕ) (h : Holder) (done : ℕ) (list : List ℕ) : Type 0 where
  pub bytes : call_width * end ≤ length script
  pub numbers : reply_width * end ≤ length list
  pub begun : done ≤ end
  pub same_length : length list ≡ length buffer
  pub count : length (calls_read script (length buffer)) ≡ done + length (calls_from (end - done) (drop (call_width * done) script))
  pub whole : replies_after script buffer
      ≡ take (reply_width * done) list ++ list_from h (end - done) (drop (call_width * done) script) (drop (reply_width * done) list)

pub underway-first : (script buffer : List ℕ) (end : ℕ) (h : Holder) → end ≡ min (length script / call_width) (length buffer / reply_width)
    → h ≡ fresh_holder → Underway script buffer end h 0 buffer
unfolding calls_read
underway-first script buffer end h most e =
    record {
      bytes = omega arith;
      numbers = omega arith;
      begun = omega arith;
      same_length = refl;
      count = let z : end - 0 ≡ end = omega arith in rw (z, sym most) (sym (zero-add _));
      whole = let z : end - 0 ≡ end = omega arith in rw (z, e) (rw most (sym (list_from-fresh script buffer)));
    }

module _ (script buffer : List ℕ) (end : ℕ) (h : Holder) (done : ℕ) (list : List ℕ) (st : Underway script buffer end h done list) where
  -- The rest of the script and of the buffer
  abbrev s : List ℕ
  s = drop (call_width * done) script

  abbrev l : List ℕ
  l = drop (reply_width * done) list

  -- Nothing is left to be read
  abbrev pub Stopped : Type 0
  Stopped = calls_from (end - done) s ≡ []

  pub stops-at-end : end ≤ done → Stopped
  unfolding calls_from
  stops-at-end i = let z : end - done ≡ 0 = omega arith in rw z

  pub underway-count : Stopped → done ≡ length (calls_read script (length buffer))
  underway-count z = sym (st.count ∙ ap (λ (t : List Call). done + length t) z ∙ add-zero done)

  pub underway-list : Stopped → list ≡ replies_after script buffer
  underway-list z =
      sym (st.whole ∙ ap (λ (t : List ℕ). take (reply_width * done) list ++ t) (list_from-none h (end - done) s l z)
      ∙ take-append-drop (reply_width * done) list)

  -- ---- one call

  module _ (i : done < end) where
    -- There is room for the reply
    room : reply_width * done + reply_width ≤ length list
    room = omega (arith, st.numbers)

    -- For bytes that are a call
    module _ (x : Call) (e : decoded (take call_width s) ≡ Some x) where
      abbrev n : List ℕ
      n = numbers_of (reply_fields (answer_of h x).reply)

      abbrev next : List ℕ
      next = paste list (reply_width * done) n reply_width

      underway-next : Underway script buffer end (answer_of h x).holder (done + 1) next
      unfolding numbers_of
      underway-next =
          let a = take (reply_width * done) list in
          let start : reply_width * done ≤ length list = omega (arith, room) in
          let more : reply_width * (done + 1) ≡ reply_width * done + reply_width = omega arith in
          let at = reply_width * done in
          let front : take (reply_width * (done + 1)) next ≡ a ++ n = rw more (take-paste list at n reply_width start (omega arith)) in
          let back : drop (reply_width * (done + 1)) next ≡ drop reply_width l =
          rw more (drop-paste list at n reply_width start (omega arith) ∙ sym (drop-drop reply_width at list)) in
          let size : length next ≡ length list = length-paste list (reply_width * done) n reply_width room (omega arith) in
          let further : call_width * done + call_width ≡ call_width * (done + 1) = omega arith in
          let left : drop call_width s ≡ drop (call_width * (done + 1)) script = drop-drop call_width (call_width * done) script
          ∙ ap (λ (t : ℕ). drop t script) further in
          let one : end - done ≡ suc (end - (done + 1)) = omega arith in
          record {
            bytes = st.bytes;
            numbers = omega (arith, st.numbers);
            begun = omega arith;
            same_length = size ∙ st.same_length;
            count = st.count ∙ rw (one, calls-some h (end - (done + 1)) s l x e, left) (omega arith);
            whole = st.whole ∙ rw (one, list_from-some h (end - (done + 1)) s l x e, front, back, left) (sym (append_assoc a n _));
          }

      carried : (g : Holder) (t : List ℕ) → g ≡ (answer_of h x).holder → t ≡ next → Underway script buffer end g (done + 1) t
      carried g t p q = rw (p, q) underway-next

    -- The holder and the reply after these bytes
    module _ (g : Holder) (b : Bool) (old reply : List ℕ) (t : Responded h g (decoded (take call_width s)) old reply b) where
      abbrev d : Decoded
      d = decoded (take call_width s)

      -- Not a call: the loop stops
      pub stops-at-none : not b ≡ true → Stopped
      stops-at-none off = calls-none h (end - done) s l (unanswered d (sym (not-true b off) ∙ t.done))

      -- A call: the loop continues with the next holder
      by_call : (x : Call) → d ≡ Some x → Underway script buffer end g (done + 1) (paste list (reply_width * done) reply reply_width)
      unfolding next_holder reply_by
      by_call x q =
          let r : reply ≡ numbers_of (reply_fields (answer_of h x).reply) = t.replied ∙ rw q in
          carried x q g _ (t.holder ∙ rw q) (rw r)

      pub underway-responded : not b ≡ false → (list' : List ℕ) → list' ≡ paste list (reply_width * done) reply reply_width
          → Underway script buffer end g (done + 1) list'
      underway-responded on list' put =
          let (x, q) = answered d (sym (not-false b on) ∙ t.done) in
          rw put (by_call x q)
