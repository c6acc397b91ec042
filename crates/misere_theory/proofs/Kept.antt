-- A closed list of kept pairs over the heaps 1 to B speaks for every position.
-- The theorem of Closures, with each heap shown by one up to B that has its pair.
use Rattle.std.proofs.Common.{◌≡◌, ℕ, ◌<◌, true, false, List, refl, sym, ◌∙◌, ap, inl, inr, Contains}
use Rattle.misere_theory.specs.Games.{IsHeapUpTo, IsPosition}
use Rattle.misere_theory.specs.Parts.{IsPart}
use Rattle.misere_theory.proofs.Sums.{heaps_up_to_kept}
use Rattle.misere_theory.specs.Quotients.{Claim, Monoid, HeapOptionValue, RuleHolds, GivesElements}
use Rattle.misere_theory.specs.Pairs.{Pair, Covers, IsClosed, KeptObey, ElementsObey, SameHeapPair}
use Rattle.misere_theory.specs.Kinds.{IsHeapIn, IsPeriodicIn, bound_in}
use Rattle.misere_theory.proofs.Counting.{kept_in, shown_in}
use Rattle.misere_theory.proofs.Closures as closures

-- each heap of the game has the pair of one of the heaps that the list is closed under
module _
    (heap shown : ℕ → Type 0) (code : List ℕ) (inside : IsPart heap code) (c : Claim)
    (m : Monoid c.order c.times)
    (phi_in : GivesElements heap c)
    (show : (n : ℕ) → heap n → (b : ℕ) × shown b × SameHeapPair code c n b)
    (kept : List Pair) (closed : IsClosed code c shown kept) where
  abbrev Member : Type 0
  Member = (p : Pair) × Contains kept p

  abbrev member_value : Member → ℕ
  member_value i = i.0.value

  abbrev MemberHas : Member → ℕ → Type 0
  MemberHas i x = Contains i.0.options x

  first : (i : Member) × (member_value i ≡ 0) × ((x : ℕ) → MemberHas i x → ⊥)
  first = let (p, h, w) = closed.start in
      ((p, h), w.same_value, λ x e. let (Y, q, _) = w.among x e in elim q [ ])

  next : (i : Member) (n : ℕ) → heap n
      → (j : Member) × closures.CoversProduct heap code inside c m phi_in Member member_value
      MemberHas j i n
  next i n l =
      let (b, u, same) = show n l in
      let (p, h, w) = closed.step i.0 i.1 b u in (
        (p, h),
        record {
          same_value = w.same_value ∙ ap (λ v. c.times v (i.0.value)) (sym same.0);
          among = λ x e. elim (w.among x e) [
            | inl (v, o, d) ↦ inl (v, (same.1 v).1 o, d)
            | inr (y, g, d) ↦ inr (y, g, d ∙ ap (λ v. c.times v y) (sym same.0))
          ];
          some_heap = λ v o. w.some _ (inl (v, (same.1 v).0 o, refl));
          some_rest = λ y g. w.some _ (inr (y, g, refl));
        },
      )

  -- each position has a kept pair that covers it
  pub covered_by_kept : (X : List ℕ) → IsPosition heap X → (p : Pair) × Contains kept p
      × Covers code c p X
  covered_by_kept X r =
      let (i, w) =
      closures.covered heap code inside c m phi_in Member member_value MemberHas first next X r
      in (
        i.0,
        i.1,
        record { same_value = w.stands; among = w.among; some = λ x o. w.some o.0 o.1 },
      )

  every_heap : ElementsObey code c shown → (n h y : ℕ) → heap n → HeapOptionValue code c n h
      → y < c.order
      → c.portion (c.times (c.phi n) y) ≡ true → c.portion (c.times h y) ≡ false
  every_heap obey n h y q o l t =
      let (b, u, same) = show n q in
      obey b h y u ((same.1 h).0 o) l (ap (λ v. c.portion (c.times v y)) (sym same.0) ∙ t)

  pub rule_by_kept : KeptObey c kept → ElementsObey code c shown → (X : List ℕ) → IsPosition heap X
      → RuleHolds code c X
  rule_by_kept members elements =
      closures.rule_from_members heap code inside c m phi_in Member member_value MemberHas first
      next
      (λ i f x e. members.outside i.0 i.1 f x e)
      (λ i t. members.inside i.0 i.1 t)
      (every_heap elements)

-- in a game of any kind the heaps 1 to B show all
module _
    (M : ℕ) (code : List ℕ) (c : Claim) (m : Monoid c.order c.times)
    (phi_in : GivesElements (IsHeapIn M) c) (k start period : ℕ)
    (ok : IsPeriodicIn M code c k start period) (kept : List Pair)
    (closed : IsClosed code c (IsHeapUpTo (bound_in M code k start period)) kept) where
  pub all_covered : (X : List ℕ) → IsPosition (IsHeapIn M) X → (p : Pair) × Contains kept p
      × Covers code c p X
  all_covered =
      covered_by_kept (IsHeapIn M) (IsHeapUpTo (bound_in M code k start period)) code (kept_in M code) c m
      phi_in (shown_in M code c k start period ok) kept closed

  pub rule_everywhere : KeptObey c kept
      → ElementsObey code c (IsHeapUpTo (bound_in M code k start period)) → (X : List ℕ)
      → IsPosition (IsHeapIn M) X
      → RuleHolds code c X
  rule_everywhere =
      rule_by_kept (IsHeapIn M) (IsHeapUpTo (bound_in M code k start period)) code (kept_in M code) c m
      phi_in (shown_in M code c k start period ok) kept closed

-- in the game of the heaps up to M each shows itself
module _
    (M : ℕ) (code : List ℕ) (c : Claim) (m : Monoid c.order c.times)
    (phi_in : GivesElements (IsHeapUpTo M) c) (kept : List Pair)
    (closed : IsClosed code c (IsHeapUpTo M) kept) where
  pub rule_up_to : KeptObey c kept → ElementsObey code c (IsHeapUpTo M) → (X : List ℕ)
      → IsPosition (IsHeapUpTo M) X → RuleHolds code c X
  rule_up_to = rule_by_kept (IsHeapUpTo M) (IsHeapUpTo M) code (heaps_up_to_kept M code) c m phi_in
      (λ n h. (n, h, (refl, λ x. (λ o. o, λ o. o)))) kept closed
