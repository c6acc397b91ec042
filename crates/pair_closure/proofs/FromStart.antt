-- What every turn keeps holds after each number of turns.
-- By induction on the turns, of which the first keeps the pair of the empty position.
use Rattle.std.proofs.Common.{◌≡◌, ℕ, zero, suc, List, [], All, length, refl, sym, ap, subst, inl, inr, ◌⊎◌, arith, nat_lt, ltb-true}
use Rattle.std.proofs.lemmas.Bool.{cond_both, or_left}
use Rattle.std.proofs.lemmas.List.Elements.{All-nil}
use Rattle.monoid_table.specs.Grids.{Grid}
use Rattle.monoid_table.specs.Tables.{IsTableGrid}
use Rattle.transition_algebra.specs.OverSets.{Pair}
use Rattle.transition_algebra.specs.Pairs.{IsPair, one}
use Rattle.transition_algebra.specs.PairLaws.{pair_laws}
use Rattle.pair_closure.specs.OverSets.{Held}
use Rattle.pair_closure.specs.Chains.{blank}
use Rattle.pair_closure.specs.Turns.{State, start, empty_turn, turn, turns}
use Rattle.pair_closure.proofs.Lists.{All-one}
use Rattle.pair_closure.proofs.PairLaws.{covers_itself}
use Rattle.pair_closure.proofs.Invariant.{Made, IsGenerator, HasProducts, HasPlace, Settled, Holds}
use Rattle.pair_closure.proofs.Invariant.Made.{Empty}
use Rattle.pair_closure.proofs.EachTurn.{turn_inv}

module _ (table : Grid) (heaps : List Pair) (limit : ℕ) (lawful : IsTableGrid table)
    (heaps_in : All (IsPair table.order) heaps) where
  abbrev s : State
  s = empty_turn (start table heaps limit)

  abbrev m : Held
  m = record { pair = one; place = 0; by = length heaps }

  first_inv : Holds s
  first_inv = record {
    lawful = lawful;
    heaps_in = heaps_in;
    held_in = All-one (λ m. IsPair table.order m.pair) m (pair_laws table lawful).one_in;
    gens_are = All-nil (IsGenerator heaps);
    one_held = or_left _ _ (covers_itself one);
    gens_held = All-nil (λ g. Settled s g.pair);
    products = All-one (HasProducts table [] (Settled s)) m (inl refl);
    members_made = All-one (λ e. Made table [] e.pair) blank (Empty refl);
    members_held = All-one (λ e. Settled s e.pair) blank (or_left _ _ (covers_itself one));
    held_members = All-one (HasPlace s.members) m (omega arith, refl);
    heaps_made = λ i l. absurd (omega arith);
    first = (omega arith, refl);
    steps = λ i p l. absurd (omega arith);
    apart = λ i j d p q. absurd (omega arith);
    minimal = λ i j d p q. absurd (omega arith);
    within = omega arith;
  }

  -- after every number of turns, but for none, all is kept
  pub turns_inv : (n : ℕ) → let t = turns n (start table heaps limit) in
      (t ≡ start table heaps limit) ⊎ Holds t
  turns_inv zero = inl refl
  turns_inv (suc n) = inr (elim (turns_inv n) [
    | inl e ↦ subst (λ t. Holds (turn t)) (sym e)
        (cond_both (nat_lt limit 0) _ _ Holds
        (λ over. let no = ltb-true _ _ over in absurd (omega arith)) (λ _. first_inv))
    | inr v ↦ turn_inv _ v
  ])
