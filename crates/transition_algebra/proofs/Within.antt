-- The pairs of heaps are pairs of elements.
-- Elements of heaps are elements of the table, and so are their products.
use Rattle.std.proofs.Common.{ℕ, ◌+◌, ◌<◌, ◌≤◌, false, List, refl, sym, ◌∙◌, subst, arith}
use Rattle.std.specs.List.{All}
use Rattle.std.specs.FinSet as set
use Rattle.std.proofs.lemmas.List.Elements.{All-from_get_or}
use Rattle.misere_theory.specs.Quotients.{Claim, Monoid}
use Rattle.monoid_table.specs.Grids.{Grid, times_in}
use Rattle.monoid_table.specs.Pretending.{Pretending, phi_at, kind_of, HasElement}
use Rattle.transition_algebra.specs.Pairs.{IsPair}
use Rattle.monoid_table.specs.PretendingTables.{Agrees, IsInto}
use Rattle.transition_algebra.specs.Heaps.{bound_of}
use Rattle.transition_algebra.specs.OverSets.{Pair}
use Rattle.misere_theory.proofs.Counting.{kept_in}
use Rattle.misere_theory.proofs.Sums.{value_in}
use Rattle.transition_algebra.proofs.Counted.{counted}
use Rattle.transition_algebra.proofs.Repeats.{phi_in}
use Rattle.transition_algebra.proofs.Claims.{claim_gives}
use Rattle.transition_algebra.proofs.Steps.{IsTheHeapPair, AreFirstHeapPairs}

-- the claim of the table and phi themselves
abbrev pub claim_by : Grid → Pretending → Claim
claim_by table phi =
    record { order = table.order; times = times_in table; phi = phi_at phi; portion = λ _. false }

pub agrees_itself : (table : Grid) (phi : Pretending) → Agrees (claim_by table phi) table phi
agrees_itself table phi =
    record { order_is = refl; times_is = λ x y i j. refl; phi_is = λ n l. refl }

module _ (table : Grid) (monoid : Monoid table.order (times_in table)) (phi : Pretending)
    (into : IsInto table phi) where
  pair_in : (code : List ℕ) (n : ℕ) (p : Pair) → HasElement phi n → IsTheHeapPair code table phi n p
      → IsPair table.order p
  pair_in code n p counts is =
      let c = claim_by table phi in
      let agrees = agrees_itself table phi in
      let here = is c agrees in
      record {
        value =
            subst (λ v. v < table.order) (sym (here.value_is ∙ agrees.phi_is n counts))
            (phi_in table monoid phi into n);
        options = λ x h.
            let (H, o, e) = (here.options_are x).0 h in
            subst (λ v. v < table.order) e
            (value_in (HasElement phi) c monoid (claim_gives table monoid phi into c agrees) H
            (kept_in (kind_of phi) code n H counts o));
      }

  pub all_in : (code : List ℕ) (B : ℕ) (pairs : List Pair) → B ≤ bound_of code phi
      → AreFirstHeapPairs code table phi B pairs → All (IsPair table.order) pairs
  all_in code B pairs short are =
      let len = (are (claim_by table phi) (agrees_itself table phi)).length_is in
      All-from_get_or (IsPair table.order) pairs blank
      (λ i l. pair_in code (i + 1) _ (counted code phi (i + 1) (omega arith) (omega arith))
      (λ c a. (are c a).each i blank l))
    where
      blank : Pair
      blank = record { value = 0; options = set.empty }
