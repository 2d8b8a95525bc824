-- The rule holds on two specimens of contract 9 by computation.
-- H6 has its first dent in piece 2, where the word 3300 is one factor and not a Christoffel word. In H3 the word of each piece is one
-- factor, its earlier letter and then its later one, which is a Christoffel word.
use Prim.Native.Nat.{ℕ, zero, suc, ◌<◌}
use native.Mathlib.Omega.{arith}
use mathlib.Core.Path.{refl}
use mathlib.Core.Bool.{true, false}
use mathlib.Core.List.{List, [], ◌∷◌}
use Rattle.words.specs.Lyndon.{Factor, Factoring}
use Rattle.words.proofs.Factors.{factors-exist}
use Rattle.words.proofs.Christoffel.{christoffel-iff}
use Rattle.chart.specs.Outline.{Outline}
use Rattle.convexity.specs.Pieces.{Reaches}
use Rattle.verdict.specs.Rule.{piece_word, no_factors, more, Smooth, FirstDent}
use Rattle.verdict.proofs.Computes.{computes}
use Rattle.verdict.proofs.Rule.{nine-iff-first-dent}

abbrev pub h6 : Outline
h6 = record { start = record { col = 0; row = 0 }; letters = 1 ∷ 1 ∷ 1 ∷ 0 ∷ 3 ∷ 3 ∷ 0 ∷ 0 ∷ 3 ∷ 2 ∷ 2 ∷ 2 ∷ [] }

pub h6-reaches : Reaches h6
unfolding computes
h6-reaches =
    record {
      simple = record { counted = refl; started = refl; lettered = refl; stays = refl; closed = refl; simple = refl };
      straight = refl;
    }

pub h6-factors : Factoring (piece_word h6 1) (record { word = false ∷ false ∷ true ∷ true ∷ []; times = 1 } ∷ [])
unfolding computes
h6-factors = factors-exist (piece_word h6 1)

pub h6-first-dent : FirstDent h6 2 4 4 (record { col = 1; row = 1 })
unfolding computes
h6-first-dent = (nine-iff-first-dent h6 h6-reaches 2 4 4 (record { col = 1; row = 1 })).0 refl

abbrev pub h3 : Outline
h3 = record { start = record { col = 0; row = 1 }; letters = 1 ∷ 0 ∷ 1 ∷ 0 ∷ 3 ∷ 0 ∷ 3 ∷ 2 ∷ 3 ∷ 2 ∷ 1 ∷ 2 ∷ [] }

-- The factor of an earlier letter and then a later one
abbrev pub slanted : List Factor
slanted = record { word = false ∷ true ∷ []; times = 1 } ∷ []

pub h3-smooth : (k : ℕ) → k < 4 → Smooth h3 k
unfolding computes
h3-smooth zero h =
    record { factors = slanted; factoring = factors-exist (piece_word h3 0); christoffel = more ((christoffel-iff _).0 refl) no_factors }
h3-smooth (suc zero) h =
    record { factors = slanted; factoring = factors-exist (piece_word h3 1); christoffel = more ((christoffel-iff _).0 refl) no_factors }
h3-smooth (suc (suc zero)) h =
    record { factors = slanted; factoring = factors-exist (piece_word h3 2); christoffel = more ((christoffel-iff _).0 refl) no_factors }
h3-smooth (suc (suc (suc zero))) h =
    record { factors = slanted; factoring = factors-exist (piece_word h3 3); christoffel = more ((christoffel-iff _).0 refl) no_factors }
h3-smooth (suc (suc (suc (suc k)))) h = absurd (omega arith)
