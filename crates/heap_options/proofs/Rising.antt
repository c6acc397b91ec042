-- The lists of options are in the order of moves.
use Rattle.std.proofs.Common.{◌≡◌, ℕ, ◌+◌, ◌-◌, ◌/◌, ◌<◌, ◌≤◌, inl, inr, Bool, true, false, min, List, [], ◌∷◌, ◌++◌, length, sum, refl, sym, subst, arith}
use Rattle.std.specs.List.{Contains, AllPairs}
use Rattle.std.proofs.lemmas.List.Elements.{Contains-append_cases}
use Rattle.misere_theory.specs.Plays.{LeftBefore}
use Rattle.octal_code.specs.Bits.{allows, takes_all, leaves_one}
use Rattle.octal_code.specs.declared.leaving.Leaving.TheVariants.{TwoHeaps, ThreeHeaps}
use Rattle.heap_options.specs.Options.{options_up_to, options_at, nothing_left, one_left, two_left, three_left, where_holds, splits, last_first, last_second, triples_at, triples}
use Rattle.heap_options.specs.Exact.{heaps_of, IsLeftAt}
use Rattle.heap_options.specs.declared.left.Left.{Left}
use Rattle.heap_options.specs.declared.left.Left.TheVariants.{Nothing, One, Two, Three}
use Rattle.misere_theory.proofs.ListLaws.{of_map, AllPairs-append, AllPairs-one, AllPairs-none, AllPairs-flat, AllPairs-range}
use Rattle.heap_options.proofs.OptionLaws.{of_at, of_nothing, of_one, of_two, of_three}

-- what the one leaves comes before what the other leaves
abbrev pub Before : Left → Left → Type 0
Before L M = LeftBefore (heaps_of L) (heaps_of M)

-- what is left and what is taken away are the heap
sum_left : (code : List ℕ) (n j : ℕ) (L : Left) → IsLeftAt code n j L → n ≡ j + sum (heaps_of L)
sum_left code n j Nothing h = let z : sum [] ≡ 0 = refl in let e = h.1 in omega arith
sum_left code n j (One a) h = let e = h.2 in omega arith
sum_left code n j (Two a b) h = let e = h.2 in omega arith
sum_left code n j (Three a b c) h = let e = h.3 in omega arith

across_js : (code : List ℕ) (n i j : ℕ) (L M : Left) → i < j → IsLeftAt code n i L
    → IsLeftAt code n j M → Before L M
across_js code n i j L M l p q = let a = sum_left code n i L p in let b = sum_left code n j M q in
    inl (omega arith)

AllPairs-where : (b : Bool) (xs : List Left) → AllPairs Before xs
    → AllPairs Before (where_holds b xs)
AllPairs-where true xs p = p
AllPairs-where false xs p = AllPairs-none Before

-- triples of m: in a row the second part rises, and from row to row the first
triples_rise : (m most : ℕ) → AllPairs Before (triples m most 1)
triples_rise m most =
    AllPairs-flat Before (triples_at m most) 1 (last_first m most + 1 - 1)
    (λ a l h. AllPairs-range Before (λ b. Three a b (m - a - b)) a (last_second m most a + 1 - a)
    (λ b c p q r. second_rises a b c q (omega arith)))
    (λ a d L M l h i c e.
    let (b, p, q, s) =
    of_map (λ v. Three a v (m - a - v)) a (last_second m most a + 1 - a) L c in
    let (f, t, u, v) =
    of_map (λ v. Three d v (m - d - v)) d (last_second m most d + 1 - d) M e in
    let P : Left → Type 0 = λ w. Before w M in
    subst P s
    (subst (Before (Three a b (m - a - b))) v
    (first_rises a b d f h (omega arith) (omega arith))))
  where
    second_rises : (a b c : ℕ) → b < c → a + c ≤ m
        → Before (Three a b (m - a - b)) (Three a c (m - a - c))
    second_rises a b c l h = inr (omega arith, inr (refl, inr (refl, l)))

    first_rises : (a b d f : ℕ) → a < d → a + b ≤ m → d + f ≤ m
        → Before (Three a b (m - a - b)) (Three d f (m - d - f))
    first_rises a b d f l h i = inr (omega arith, inr (refl, inl l))

module _ (code : List ℕ) (n most j : ℕ) where
  -- L takes j away and leaves so many heaps
  abbrev Leaves : ℕ → Left → Type 0
  Leaves count L = IsLeftAt code n j L × (length (heaps_of L) ≡ count)

  leaves_none : (L : Left) → Contains (nothing_left code n j) L → Leaves 0 L
  leaves_none L c = let (e, i) = of_nothing code n most j L c in subst (Leaves 0) (sym e) (i, refl)

  leaves_one_heap : (L : Left) → Contains (one_left code n j) L → Leaves 1 L
  leaves_one_heap L c = let (e, i) = of_one code n most j L c in subst (Leaves 1) (sym e) (i, refl)

  leaves_two_heaps : (L : Left) → Contains (two_left code n most j) L → Leaves 2 L
  leaves_two_heaps L c = let (a, e, i) = of_two code n most j L c in
      subst (Leaves 2) (sym e) (i.0, refl)

  leaves_three_heaps : (L : Left) → Contains (three_left code n most j) L → Leaves 3 L
  leaves_three_heaps L c = let (a, b, e, i) = of_three code n most j L c in
      subst (Leaves 3) (sym e) (i.0, refl)

  fewer_first : (p q : ℕ) (L M : Left) → p < q → Leaves p L → Leaves q M → Before L M
  fewer_first p q L M l (h, e) (i, f) =
      let a = sum_left code n j L h in let b = sum_left code n j M i in
      inr (omega arith, inl (omega arith))

  rising_at : AllPairs Before (options_at code n most j)
  rising_at =
      AllPairs-append Before (nothing_left code n j) (one_left code n j ++ many)
      (AllPairs-where (takes_all code n j) (Nothing ∷ []) (AllPairs-one Before Nothing))
      (AllPairs-append Before (one_left code n j) many
      (AllPairs-where (leaves_one code n j) (One (n - j) ∷ []) (AllPairs-one Before (One (n - j))))
      (AllPairs-append Before (two_left code n most j) (three_left code n most j)
      (AllPairs-where (allows code j TwoHeaps) (splits (n - j) 1 (min ((n - j) / 2) most))
      (AllPairs-range Before (λ b. Two b (n - j - b)) 1 (min ((n - j) / 2) most)
      (λ a b l m h. splits_rise a b m (omega arith))))
      (AllPairs-where (allows code j ThreeHeaps) (triples (n - j) most 1)
      (triples_rise (n - j) most))
      (λ L M c d.
      fewer_first 2 3 L M (omega arith) (leaves_two_heaps L c) (leaves_three_heaps M d)))
      (λ L M c d.
      elim (Contains-append_cases (two_left code n most j) (three_left code n most j) M d) [
        | inl h ↦ fewer_first 1 2 L M (omega arith) (leaves_one_heap L c) (leaves_two_heaps M h)
        | inr h ↦ fewer_first 1 3 L M (omega arith) (leaves_one_heap L c) (leaves_three_heaps M h)
      ]))
      (λ L M c d.
      elim (Contains-append_cases (one_left code n j) many M d) [
        | inl h ↦ fewer_first 0 1 L M (omega arith) (leaves_none L c) (leaves_one_heap M h)
        | inr k ↦ elim
            (Contains-append_cases (two_left code n most j) (three_left code n most j) M k) [
              | inl h ↦ fewer_first 0 2 L M (omega arith) (leaves_none L c) (leaves_two_heaps M h)
              | inr h ↦ fewer_first 0 3 L M (omega arith) (leaves_none L c) (leaves_three_heaps M h)
            ]
      ])
    where
      many : List Left
      many = two_left code n most j ++ three_left code n most j

      splits_rise : (a b : ℕ) → a < b → b ≤ (n - j) / 2
          → Before (Two a (n - j - a)) (Two b (n - j - b))
      splits_rise a b l h = inr (omega arith, inr (refl, inl l))

pub rising : (code : List ℕ) (n most : ℕ) → AllPairs Before (options_up_to code n most)
rising code n most =
    AllPairs-flat Before (options_at code n most) 0 (length code)
    (λ j l h. rising_at code n most j)
    (λ i j L M l m h c d. across_js code n i j L M m (of_at code n most i L c).0
    (of_at code n most j M d).0)
