-- A loop over the edges in a list takes two numbers at a time, so at each place the rest of the list is one more edge or none.
use Prim.Native.Nat.{ℕ, zero, suc, ◌+◌, ◌*◌, ◌/◌, ◌<◌, ◌≤◌}
use native.Mathlib.Numerals.{add-one}
use native.Mathlib.Omega.{arith}
use mathlib.Core.Path.{◌≡◌, refl}
use mathlib.Core.List.{List, [], ◌∷◌}
use lib.ListN.{length, drop, get_or, length-drop}
use lib.Seq.{drop-cons}
use lib.IntN.{ℤ, pos}
use Rattle.std.specs.Simd.{first_chunks}
use Rattle.convexity.specs.Edges.{Edge, pairs}

-- The edge at place i
abbrev pub edge_at : List ℤ → ℕ → Edge
edge_at ns i = (get_or ns i (pos 0), get_or ns (i + 1) (pos 0))

-- One more edge
pub next_edge : (ns : List ℤ) (i : ℕ) → i + 1 < length ns → pairs (drop i ns) ≡ edge_at ns i ∷ pairs (drop (i + 2) ns)
unfolding pairs
next_edge ns i h =
    let e : i + 2 ≡ suc (suc i) = omega arith in
    rw (e, add-one i, drop-cons ns i (pos 0) (omega arith), drop-cons ns (suc i) (pos 0) (omega arith))

short : (ns : List ℤ) → length ns < 2 → pairs ns ≡ []
unfolding pairs
short [] h = refl
short (d ∷ []) h = refl
short (dx ∷ dy ∷ ns) h = absurd (omega arith)

-- No edge is left
pub no_edge : (ns : List ℤ) (i : ℕ) → length ns ≤ i + 1 → pairs (drop i ns) ≡ []
no_edge ns i h = short (drop i ns) (simp length-drop (omega arith))

-- ---- the list in chunks of two numbers

-- The numbers of chunk k
abbrev pub chunk_x : List (List ℤ) → ℕ → ℤ
chunk_x cs k = get_or (get_or cs k []) 0 (pos 0)

abbrev pub chunk_y : List (List ℤ) → ℕ → ℤ
chunk_y cs k = get_or (get_or cs k []) 1 (pos 0)

chunk-is : (ns : List ℤ) (m k : ℕ) → k < m → m * 2 ≤ length ns
    → (get_or ns (2 * k) (pos 0) ≡ chunk_x (first_chunks 2 m ns) k) × (get_or ns (suc (2 * k)) (pos 0) ≡ chunk_y (first_chunks 2 m ns) k)
chunk-is ns zero k h l = absurd (omega arith)
chunk-is [] (suc m) k h l = absurd (omega arith)
chunk-is (x ∷ []) (suc m) k h l = absurd (omega arith)
chunk-is (x ∷ y ∷ ns) (suc m) zero h l = (refl, refl)
chunk-is (x ∷ y ∷ ns) (suc m) (suc k) h l =
    let e : 2 * suc k ≡ suc (suc (2 * k)) = omega arith in
    rw e (chunk-is ns m k (omega arith) (omega arith))

-- The edge of chunk k stands at place 2 · k of the list
pub record Chunk (ns : List ℤ) (x y : ℤ) (i : ℕ) : Type 0 where
  pub inside : i + 1 < length ns
  pub across : get_or ns i (pos 0) ≡ x
  pub up : get_or ns (i + 1) (pos 0) ≡ y

pub chunk_at : {ns : List ℤ} {cs : List (List ℤ)} (k : ℕ) → cs ≡ first_chunks 2 (length ns / 2) ns → length cs ≡ length ns / 2 → k < length cs
    → Chunk ns (chunk_x cs k) (chunk_y cs k) (2 * k)
chunk_at {ns} k e n h =
    let here = chunk-is ns (length ns / 2) k (omega arith) (omega arith) in
    record { inside = omega arith; across = rw e here.0; up = rw (add-one (2 * k), e) here.1 }
