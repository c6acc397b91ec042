-- One more heap and value are looked at.
-- Where the contexts of a value and of its option share no element, no move leads from the portion
-- into it.
use Rattle.std.proofs.Common.{◌≡◌, ℕ, ◌+◌, ◌<◌, ◌≤◌, ◌⊎◌, Bool, true, false, List, [], ◌∷◌, ◌++◌, length, get_or, refl, sym, ◌∙◌, ap, subst, arith, rules}
use Rattle.std.specs.FinSet as set
use Rattle.std.specs.FinSet.{members}
use Rattle.std.specs.Ordering.{nat_cmp}
use Rattle.std.proofs.lemmas.List.{get_or_append_left, get_or_push}
use Rattle.std.proofs.lemmas.List.Elements.{All-get_or}
use native.Mathlib.Decide.{dec_lt}
use Rattle.misere_theory.specs.Games.{IsHeapUpTo}
use Rattle.misere_theory.specs.Quotients.{HeapOptionValue}
use Rattle.misere_theory.specs.Pairs.{ElementsObey}
use Rattle.misere_theory.specs.Certificates.{Certificate, InRanges, claim_of, times_of, phi_at}
use Rattle.misere_theory.proofs.Written.{phi_in}
use Rattle.transition_algebra.specs.OverSets.{Pair}
use Rattle.transition_algebra.specs.Pairs.{IsPair, one}
use Rattle.check_machine.specs.Closings.{ObeysAt, ElementsSoFar}
use Rattle.check_machine.specs.Bounds.{bound_of}

pub insert_has : (s : set.FinSet nat_cmp) (k q : ℕ) → set.contains (set.insert s k) q ≡ true
    → (q ≡ k) ⊎ (set.contains s q ≡ true)
insert_has s k q h = grind (members, rules)

pub insert_new : (s : set.FinSet nat_cmp) (k : ℕ) → set.contains (set.insert s k) k ≡ true
insert_new s k = grind (members, rules)

pub insert_old : (s : set.FinSet nat_cmp) (k q : ℕ) → set.contains s q ≡ true
    → set.contains (set.insert s k) q ≡ true
insert_old s k q h = grind (members, rules)

pub empty_has : (q : ℕ) → set.contains (set.empty {R = nat_cmp}) q ≡ true → ⊥
empty_has q h = grind (members, rules)

-- of sets put one behind another
pub each-push : (P : ℕ → set.FinSet nat_cmp → Type 0) (xs ys : List (set.FinSet nat_cmp))
    (s : set.FinSet nat_cmp) (n : ℕ) → length xs ≡ n → ys ≡ xs ++ s ∷ []
    → ((x : ℕ) → x < n → P x (get_or xs x set.empty)) → P n s
    → (x : ℕ) → x < n + 1 → P x (get_or ys x set.empty)
each-push P xs ys s n count put old new x l =
    subst (λ zs. P x (get_or zs x set.empty)) (sym put)
    (elim (dec_lt x n) [
      | yes b ↦
          (let w : x < length xs = omega (arith, count) in
          subst (P x) (sym (get_or_append_left xs (s ∷ []) set.empty x w)) (old x b))
      | no f ↦ (let e : n ≡ x = omega (arith, f) in
          subst (λ k. P k (get_or (xs ++ s ∷ []) k set.empty)) e
          (subst (P n) (sym (get_or_push xs s set.empty n count)) new))
    ])

module _ (c : Certificate) (r : InRanges c) (pairs : List Pair) (ctx : List (set.FinSet nat_cmp))
  where
    -- the value of the heap in hand has a context
    pub value_below : (i h : ℕ) (p : Pair) → ElementsSoFar c pairs ctx i h → i < length pairs
        → p ≡ get_or pairs i p → p.value < length ctx
    value_below i h p e l is =
        let v : p.value ≡ phi_at c (i + 1) =
        ap (λ q. q.value) is ∙ (e.exact.exact.each i p l).value_is in
        let b : phi_at c (i + 1) < c.order = phi_in c r (i + 1) in
        let n = e.sets.length_is in
        omega arith

    option_in : (i h x : ℕ) → ElementsSoFar c pairs ctx i h → i < length pairs
        → HeapOptionValue c.code (claim_of c) (i + 1) x
        → set.contains (get_or pairs i one).options x
        ≡ true
    option_in i h x e l o = ((e.exact.exact.each i one l).options_are x).1 o

    option_below : (i h x : ℕ) → ElementsSoFar c pairs ctx i h → i < length pairs
        → HeapOptionValue c.code (claim_of c) (i + 1) x → x < c.order
    option_below i h x e l o =
        (All-get_or (IsPair c.order) pairs i one l e.exact.within).options x (option_in i h x e l o)

    -- no common element
    pub obeys_at : (i h : ℕ) (p : Pair) → ElementsSoFar c pairs ctx i h → i < length pairs
        → p ≡ get_or pairs i p
        → (set.contains p.options h ≡ true → (y : ℕ) → y < c.order
        → set.contains (get_or ctx p.value set.empty) y ≡ true
        → set.contains (get_or ctx h set.empty) y ≡ false) → ObeysAt c (i + 1) h
    obeys_at i h p e l is none o y b t =
        let q = e.exact.exact.each i p l in
        let v : p.value ≡ phi_at c (i + 1) = ap (λ q. q.value) is ∙ q.value_is in
        let phi_below : phi_at c (i + 1) < c.order = phi_in c r (i + 1) in
        let has = subst (λ q. set.contains q.options h ≡ true) (sym is) ((q.options_are h).1 o) in
        let a =
        e.sets.all p.value y (subst (λ n. n < c.order) (sym v) phi_below) b
        (subst (λ n. (claim_of c).portion (times_of c n y) ≡ true) (sym v) t) in
        let n = none has y b a in
        either (claim_of c).portion (times_of c h y) (λ u. apart (e.sets.all h y e.value b u) n)
      where
        apart : {b : Bool} → b ≡ true → b ≡ false → ⊥
        apart {b = true} e f = cc
        apart {b = false} e f = cc

        either : (f : ℕ → Bool) (x : ℕ) → (f x ≡ true → ⊥) → f x ≡ false
        either f x n = split (f x) n
          where
            split : (b : Bool) → (b ≡ true → ⊥) → b ≡ false
            split true n = absurd (n refl)
            split false n = refl

    pub value_turn : (i h : ℕ) → ElementsSoFar c pairs ctx i h → ObeysAt c (i + 1) h
        → h + 1 < c.order
        → ElementsSoFar c pairs ctx i (h + 1)
    value_turn i h e o l = record {
      canonical = e.canonical;
      exact = e.exact;
      sets = e.sets;
      place = e.place;
      value = l;
      heaps = e.heaps;
      heap =
          λ g b.
          elim (dec_lt g h) [
            | yes s ↦ e.heap g s
            | no f ↦ (let d : h ≡ g = omega arith in
                subst (ObeysAt c (i + 1)) d o)
          ];
    }

    pub heap_turn : (i h : ℕ) → ElementsSoFar c pairs ctx i h → ObeysAt c (i + 1) h
        → h + 1 ≡ c.order
        → i < length pairs → ElementsSoFar c pairs ctx (i + 1) 0
    heap_turn i h e o w l = record {
      canonical = e.canonical;
      exact = e.exact;
      sets = e.sets;
      place = omega arith;
      value = omega arith;
      heaps = λ n g p b. elim (dec_lt i n) [
        | no f ↦ e.heaps n g p (omega arith)
        | yes s ↦
            let d : i + 1 ≡ n = omega arith in
            subst (λ m. ObeysAt c m g) d (λ x.
            let below = option_below i h g e l x in
            elim (dec_lt g h) [
              | yes s ↦ e.heap g s x
              | no f ↦ (let k : h ≡ g = omega arith in
                  subst (ObeysAt c (i + 1)) k o x)
            ])
      ];
      heap = λ g b. absurd (omega arith);
    }

    pub elements_end : (i h : ℕ) → ElementsSoFar c pairs ctx i h → length pairs ≤ i
        → ElementsObey c.code (claim_of c) (IsHeapUpTo (bound_of c))
    elements_end i h e l n g y b o k t =
        let w = e.exact.exact.length_is in
        e.heaps n g b.0 (let m = b.1 in omega arith) o y k t
