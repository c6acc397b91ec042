-- The order of heaps doesn't matter to what triples say. This project's own.
use Rattle.std.proofs.Common.{◌≡◌, ℕ, List, ap, IsPermutation}
use Rattle.misere_theory.specs.Labels.{says_by}
use Rattle.misere_theory.proofs.Shuffles.{from_permutation}
use Rattle.dominance.specs.Triples.{Triple, is_p, claim_by}
use Rattle.dominance.proofs.Positions.{triple_shuffled}

pub in_any_order : (label : ℕ → Triple) (X Y : List ℕ) → IsPermutation X Y
    → says_by (claim_by label) X ≡ says_by (claim_by label) Y
in_any_order label X Y p = ap is_p (triple_shuffled label (from_permutation X Y p))
