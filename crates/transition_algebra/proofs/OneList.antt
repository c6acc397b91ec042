-- The pairs of the heaps are one list.
-- Two pairs of one heap have the same value and the same options, and so are equal.
use Rattle.std.proofs.Common.{◌≡◌, ◌⊎◌, ℕ, ◌+◌, ◌-◌, Bool, true, false, ◌||◌, List, [], ◌∷◌, map, get_or, inl, inr, refl, sym, ◌∙◌, ap, subst, arith, nat_eq, eqb-true, eq-eqb}
use Rattle.std.specs.List.{Contains, list_any}
use Rattle.std.specs.FinSet as set
use Rattle.std.specs.FinSet.{contains-from_list_nat}
use Rattle.std.proofs.lemmas.List.{same_lists}
use Rattle.std.proofs.lemmas.List.Elements.{Contains-append_left, Contains-append_right, Contains-append_cases}
use Rattle.std.proofs.lemmas.List.FromFn.{length-map-range_with_len, get_or-map-range_with_len}
use Rattle.misere_theory.specs.Quotients.{Claim, Monoid, HeapOptionValue}
use Rattle.heap_options.specs.Options.{options_of}
use Rattle.heap_options.specs.Exact.{heaps_of}
use Rattle.heap_options.specs.declared.left.Left.{Left}
use Rattle.misere_theory.proofs.ListLaws.{nothing_in, only_in, itself_in}
use Rattle.heap_options.proofs.OptionLaws.{of_options, only, cut}
use Rattle.monoid_table.specs.Grids.{Grid, times_in}
use Rattle.monoid_table.specs.Pretending.{Pretending, IsPretending, HasElement}
use Rattle.monoid_table.specs.PretendingTables.{Agrees, IsInto}
use Rattle.transition_algebra.specs.Heaps.{IsHeapPair, IsHeapPairs, AreAllHeapPairs, bound_of, largest_part, left_value, heap_pair, all_heap_pairs}
use Rattle.transition_algebra.specs.PairLaws.{has, same_pair}
use Rattle.transition_algebra.specs.OverSets.{Pair}
use Rattle.transition_algebra.proofs.Counted.{counted}
use Rattle.transition_algebra.proofs.Claims.{tried_values, left_is, tried_heaps}
use Rattle.transition_algebra.specs.Work.{opening, turns, heap_cost}
use Rattle.transition_algebra.proofs.Within.{claim_by, agrees_itself}
use Rattle.transition_algebra.proofs.Steps.{AreFirstHeapPairs}
use Rattle.transition_algebra.proofs.Turning.{stands, left_some}
use Rattle.transition_algebra.proofs.Cost.{left_after}
use native.Mathlib.Decide.{dec_le}

or_true : (a b : Bool) → (a || b) ≡ true → (a ≡ true) ⊎ (b ≡ true)
or_true true b e = inl refl
or_true false b e = inr e

true_or : (a b : Bool) → (a ≡ true) ⊎ (b ≡ true) → (a || b) ≡ true
true_or true b e = refl
true_or false true e = refl
true_or false false e = absurd (elim e [ inl f ↦ (cc) | inr f ↦ (cc) ])

module _ (f : Left → ℕ) where
  any_value : (xs : List Left) (q : ℕ) → list_any (λ y. nat_eq y q) (map f xs) ≡ true
      → (x : Left) × Contains xs x × (f x ≡ q)
  any_value [] q h = absurd (cc)
  any_value (x ∷ xs) q h = elim (or_true _ _ h) [
    | inl e ↦ (x, Contains-append_left (x ∷ []) xs x (itself_in x), eqb-true (f x) q e)
    | inr e ↦ let (l, i, g) = any_value xs q e in (l, Contains-append_right (x ∷ []) xs l i, g)
  ]

  value_any : (xs : List Left) (x : Left) → Contains xs x
      → list_any (λ y. nat_eq y (f x)) (map f xs) ≡ true
  value_any [] x c = absurd (nothing_in x c)
  value_any (y ∷ ys) x c = true_or _ _ (elim (Contains-append_cases (y ∷ []) ys x c) [
    | inl h ↦ inl (eq-eqb (f y) (f x) (ap f (only_in y x h)))
    | inr h ↦ inr (value_any ys x h)
  ])

  has_value : (xs : List Left) (q : ℕ) → has (set.from_list (map f xs)) q
      → (x : Left) × Contains xs x × (f x ≡ q)
  has_value xs q h = any_value xs q (sym (contains-from_list_nat (map f xs) q) ∙ h)

  value_has : (xs : List Left) (x : Left) (q : ℕ) → Contains xs x → f x ≡ q
      → has (set.from_list (map f xs)) q
  value_has xs x q c e =
      subst (has (set.from_list (map f xs))) e (contains-from_list_nat (map f xs) (f x)
      ∙ value_any xs x c)

module _ (code : List ℕ) (table : Grid) (monoid : Monoid table.order (times_in table))
    (phi : Pretending) (pretending : IsPretending phi) (into : IsInto table phi) where
  module _ (c : Claim) (agrees : Agrees c table phi) where
    option_value : (n : ℕ) (left : Left) → HasElement phi n → Contains (options_of code n) left
        → HeapOptionValue code c n (left_value table phi left)
    option_value n left counts i =
        let (j, h) = of_options code n n left i in (
          heaps_of left,
          (only code n n left i).0,
          sym (left_is table monoid phi into c agrees left (tried_heaps phi code n j left counts h)),
        )

    -- it has the values of all options of the heap
    one_heap_pair : (n : ℕ) → HasElement phi n → IsHeapPair code c n (heap_pair code table phi n)
    one_heap_pair n counts = record {
      value_is = sym (agrees.phi_is n counts);
      options_are = λ x. (
        λ h. let (left, i, e) = has_value (left_value table phi) (options_of code n) x h in
            subst (HeapOptionValue code c n) e (option_value n left counts i),
        λ h.
            let (left, i, e) = (tried_values table monoid phi into c agrees code n counts pretending x).1 h
            in
            value_has (left_value table phi) (options_of code n) left x
            ((cut code n (largest_part phi) left).0 i).0 e,
      );
    }

  pub all_are_pairs : AreAllHeapPairs code table phi (all_heap_pairs code table phi)
  all_are_pairs c agrees =
      let B = bound_of code phi in
      let f = heap_pair code table phi in
      let long = length-map-range_with_len f 1 B in
      record {
        length_is = long;
        each =
            λ i d l. subst (IsHeapPair code c (i + 1))
            (sym (get_or-map-range_with_len f 1 B i (i + 1) d (omega arith) (omega arith)))
            (one_heap_pair c agrees (i + 1) (counted code phi (i + 1) (omega arith) (omega arith)));
      }

same_heap_pair : (code : List ℕ) (c : Claim) (n : ℕ) (p q : Pair) → IsHeapPair code c n p
    → IsHeapPair code c n q → p ≡ q
same_heap_pair code c n p q h k =
    same_pair p q (h.value_is ∙ sym k.value_is) (λ x a. (k.options_are x).1 ((h.options_are x).0 a))
    (λ x a. (h.options_are x).1 ((k.options_are x).0 a))

-- there is one list of pairs at most
same_heap_pairs : (code : List ℕ) (c : Claim) (B : ℕ) (ps qs : List Pair) → IsHeapPairs code c B ps
    → IsHeapPairs code c B qs → ps ≡ qs
same_heap_pairs code c B ps qs h k =
    let long = h.length_is in
    let too = k.length_is in
    same_lists ps qs (omega arith)
    (λ i d l. same_heap_pair code c (i + 1) (get_or ps i d) (get_or qs i d) (h.each i d l)
    (k.each i d (omega arith)))

-- and so it is this one
pub only_pairs : (code : List ℕ) (table : Grid) → Monoid table.order (times_in table)
    → (phi : Pretending) → IsPretending phi → IsInto table phi → (c : Claim) (pairs : List Pair)
    → Agrees c table phi → IsHeapPairs code c (bound_of code phi) pairs
    → pairs ≡ all_heap_pairs code table phi
only_pairs code table monoid phi pretending into c pairs agrees are =
    same_heap_pairs code c (bound_of code phi) pairs (all_heap_pairs code table phi) are
    (all_are_pairs code table monoid phi pretending into c agrees)

pub all_pairs : (code : List ℕ) (table : Grid) → Monoid table.order (times_in table)
    → (phi : Pretending) → IsPretending phi → IsInto table phi → (pairs : List Pair)
    → AreAllHeapPairs code table phi pairs → pairs ≡ all_heap_pairs code table phi
all_pairs code table monoid phi pretending into pairs are =
    only_pairs code table monoid phi pretending into (claim_by table phi) pairs
    (agrees_itself table phi) (are (claim_by table phi) (agrees_itself table phi))

-- all turns make it
pub turned_pairs : (code : List ℕ) (table : Grid) → Monoid table.order (times_in table)
    → (phi : Pretending) → IsPretending phi → IsInto table phi
    → (turns code table phi (heap_cost code phi) (opening code phi)).pairs
    ≡ all_heap_pairs code table phi
turned_pairs code table monoid phi pretending into =
    let s = turns code table phi (heap_cost code phi) (opening code phi) in
    let stand = stands code table monoid phi pretending into (heap_cost code phi) in
    let none = left_after code table phi (heap_cost code phi) in
    let most = stand.at_most in
    let past : s.heap - 1 ≡ bound_of code phi = elim (dec_le s.heap (bound_of code phi)) [
      | yes l ↦ absurd (let some = left_some code table phi s l in omega arith)
      | no l ↦ omega arith
    ] in
    all_pairs code table monoid phi pretending into s.pairs
    (subst (λ B. AreFirstHeapPairs code table phi B s.pairs) past stand.made)
