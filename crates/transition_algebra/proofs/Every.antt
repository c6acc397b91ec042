-- Heaps of any size have their pairs among the first.
-- By the theory's bound: a heap has the pair of one up to it.
use Rattle.std.proofs.Common.{◌≡◌, ℕ, ◌+◌, ◌-◌, ◌<◌, List, length, get_or, sym, ◌∙◌, subst, arith}
use Rattle.misere_theory.specs.Pairs.{SameHeapPair}
use Rattle.misere_theory.specs.Quotients.{Claim}
use Rattle.misere_theory.proofs.Counting.{shown_in}
use Rattle.monoid_table.specs.Grids.{Grid}
use Rattle.monoid_table.specs.Pretending.{Pretending, IsPretending, kind_of, HasElement}
use Rattle.monoid_table.specs.PretendingTables.{Agrees}
use Rattle.transition_algebra.specs.Heaps.{IsHeapPair, IsHeapPairs, bound_of}
use Rattle.transition_algebra.specs.OverSets.{Pair}
use Rattle.transition_algebra.proofs.Claims.{periodic}

same_pair : (code : List ℕ) (c : Claim) (n m : ℕ) (p : Pair) → SameHeapPair code c n m
    → IsHeapPair code c m p → IsHeapPair code c n p
same_pair code c n m p s h = record {
  value_is = h.value_is ∙ sym s.0;
  options_are =
      λ x. (λ o. (s.1 x).1 ((h.options_are x).0 o), λ o. (h.options_are x).1 ((s.1 x).0 o));
}

pub every_heap : (code : List ℕ) (c : Claim) (table : Grid) (phi : Pretending) (pairs : List Pair)
    → IsPretending phi
    → Agrees c table phi
    → IsHeapPairs code c (bound_of code phi) pairs
    → (n : ℕ) → HasElement phi n → (i : ℕ) × (i < length pairs)
    × ((d : Pair) → IsHeapPair code c n (get_or pairs i d))
every_heap code c table phi pairs pretending agrees are n counts =
    let (m, u, s) =
    shown_in (kind_of phi) code c (length code - 1) phi.start phi.period
    (periodic code c table phi pretending agrees) n counts in
    let l : m - 1 < length pairs = let e = are.length_is in let a = u.0 in let b = u.1 in
    omega arith in
    let e : m - 1 + 1 ≡ m = let a = u.0 in omega arith in (
      m - 1,
      l,
      λ d. same_pair code c n m (get_or pairs (m - 1) d) s
          (subst (λ v. IsHeapPair code c v (get_or pairs (m - 1) d)) e (are.each (m - 1) d l)),
    )
