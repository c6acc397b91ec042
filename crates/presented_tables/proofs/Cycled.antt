-- The exponents of a word that is cycled.
use Rattle.std.proofs.Common.{◌≡◌, ℕ, zero, suc, ◌<◌, ◌≤◌, List, [], ◌∷◌, length, refl, ap, arith}
use Rattle.std.specs.Prelude.{slice_index, slice_index_or}
use Rattle.presented_claims.specs.Claims.{cycled_exponent, cycled}

pub length-cycled : (cs : List (ℕ × ℕ)) (w : List ℕ) → length (cycled cs w) ≡ length w
length-cycled [] w = refl
length-cycled (c ∷ cs) [] = refl
length-cycled (c ∷ cs) (e ∷ w) = ap suc (length-cycled cs w)

pub cycled-at : (cs : List (ℕ × ℕ)) (w : List ℕ) (i : ℕ) (d : ℕ × ℕ) → i < length cs → i < length w
    → cycled_exponent (slice_index_or cs i d) (slice_index w i) ≡ slice_index (cycled cs w) i
cycled-at [] w i d lt l = absurd (omega (arith, lt))
cycled-at (c ∷ cs) [] i d lt l = absurd (omega (arith, l))
cycled-at (c ∷ cs) (e ∷ w) zero d lt l = refl
cycled-at (c ∷ cs) (e ∷ w) (suc i) d lt l = cycled-at cs w i d (omega (arith, lt)) (omega (arith, l))

pub cycled-past : (cs : List (ℕ × ℕ)) (w : List ℕ) (i : ℕ) → length cs ≤ i
    → slice_index w i ≡ slice_index (cycled cs w) i
cycled-past [] w i le = refl
cycled-past (c ∷ cs) [] i le = refl
cycled-past (c ∷ cs) (e ∷ w) zero le = absurd (omega (arith, le))
cycled-past (c ∷ cs) (e ∷ w) (suc i) le = cycled-past cs w i (omega (arith, le))
