-- Outcomes of sums, whatever the order of heaps, and positions whose triples differ.
use denote.Enum.Bare.{sameb}
use Rattle.std.proofs.Common.{◌≡◌, ◌≢◌, ℕ, false, List, All, IsPermutation, ap}
use Rattle.positions.specs.contracts.outcome.Outcome.{the_type}
use Rattle.std.proofs.lemmas.List.Elements.{recursion_from_All}
use Rattle.misere_theory.specs.Games.{IsHeap, IsPosition}
use Rattle.misere_theory.proofs.Shuffles.{back, from_permutation, p_shuffled, n_shuffled}
use Rattle.dominance.specs.Triples.{Triple}
use Rattle.label_players.specs.Values.{triple_told}
use Rattle.label_players.specs.declared.value.WholeValue.{WholeValue}
use Rattle.positions.specs.Outcomes.{HasOutcome}
use Rattle.positions.specs.Positions.{IsSize}
use Rattle.positions.specs.declared.outcome.Outcome.{Outcome}
use Rattle.positions.specs.declared.outcome.Outcome.TheVariants.{P, N}

-- sizes are heaps
pub sizes_are_heaps : (X : List ℕ) → All IsSize X → IsPosition IsHeap X
sizes_are_heaps X all = recursion_from_All IsHeap X (λ i d l. (all i d l).0)

-- the same heaps in another order have the same outcome
pub outcome_shuffled : (code X Y : List ℕ) (o : Outcome) → IsPermutation X Y → HasOutcome code Y o
    → HasOutcome code X o
outcome_shuffled code X Y P s h = p_shuffled h (back (from_permutation X Y s))
outcome_shuffled code X Y N s h = n_shuffled h (back (from_permutation X Y s))

-- outcomes that are seen to be other ones
pub differ_by : (a b : Outcome) → sameb the_type a b ≡ false → a ≢ b
differ_by P P h = λ e. cc
differ_by N N h = λ e. cc
differ_by P N h = λ e. cc
differ_by N P h = λ e. cc

-- equal triples are told by equal values
pub told_once : (x y : WholeValue) → triple_told x ≡ triple_told y → x ≡ y
told_once x y e =
    let back : Triple → WholeValue = λ t. record { odd = t.odd; weight = t.weight; lead = t.lead } in
    ap back e
