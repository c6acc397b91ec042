-- A move in one heap of a position: which position it leads to. By induction on the position.
use Rattle.std.proofs.Common.{◌≡◌, ℕ, zero, suc, ◌<◌, List, [], ◌∷◌, ◌++◌, length, take, drop, slice_index, refl, ◌∙◌, ap, arith, IsPermutation}
use Rattle.misere_theory.specs.Games.{HeapOption, Move}
use Rattle.misere_theory.specs.Games.Move.{Here, There}
use Rattle.misere_theory.proofs.Shuffles.{from_permutation, to_permutation, behind, beside}
use Rattle.outcome_rule.specs.Looks.{replaced}

pub move_at : {code X Y : List ℕ} → Move code X Y
    → (k : ℕ) × (k < length X) × ((H : List ℕ) × HeapOption code (slice_index X k) H
    × (Y ≡ replaced X k H))
move_at (Here {n = n} {X = X} {H = H} o e) = (0, omega arith, (H, o, e))
move_at (There {n = n} {X = X} i e) =
    let (k, l, (H, o, f)) = move_at i in (suc k, omega arith, (H, o, e ∙ ap (λ Z. n ∷ Z) f))

pub at_move : (code X : List ℕ) (k : ℕ) (H : List ℕ) → k < length X
    → HeapOption code (slice_index X k) H → Move code X (replaced X k H)
at_move code [] k H l o = absurd (omega arith)
at_move code (n ∷ X) zero H l o = Here o refl
at_move code (n ∷ X) (suc k) H l o = There (at_move code X k H (omega arith) o) refl

-- the order of what is left of a heap is one of the order of all
pub permuted : (X : List ℕ) (k : ℕ) (H L : List ℕ) → IsPermutation H L
    → IsPermutation (replaced X k H) (replaced X k L)
permuted X k H L p =
    to_permutation (behind (take k X) _ _ (beside (from_permutation H L p) (drop (suc k) X)))
