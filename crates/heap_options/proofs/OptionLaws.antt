-- What the lists of options hold: each option of the heap, and nothing else.
use Rattle.std.proofs.Common.{◌≡◌, ◌↔◌, ℕ, ◌+◌, ◌-◌, ◌/◌, ◌<◌, ◌≤◌, inl, inr, Bool, true, false, List, [], ◌∷◌, ◌++◌, length, min, refl, sym, subst, arith}
use Rattle.std.specs.List.{Contains}
use Rattle.std.proofs.lemmas.List.Elements.{Contains-append_left, Contains-append_right, Contains-append_cases}
use Rattle.misere_theory.specs.Games.{digit, HeapOption}
use Rattle.misere_theory.specs.Games.HeapOption.{Nothing as TakesAll, One as LeavesOne, Two as LeavesTwo, Three as LeavesThree}
use Rattle.octal_code.specs.Bits.{allows, takes_all, leaves_one}
use Rattle.octal_code.specs.declared.leaving.Leaving.TheVariants.{NoHeap, OneHeap, TwoHeaps, ThreeHeaps}
use Rattle.octal_code.proofs.BitLaws.{bit_says, bit_is, all_says, one_says, all_is, one_is}
use Rattle.heap_options.specs.Options.{options_of, options_up_to, options_at, nothing_left, one_left, two_left, three_left, where_holds, splits, last_first, last_second, triples_at, triples}
use Rattle.heap_options.specs.Exact.{heaps_of, IsInOrder, IsLeftAt, IsPartUpTo}
use Rattle.misere_theory.proofs.ListLaws.{nothing_in, only_in, itself_in, in_flat, of_flat, in_map, of_map}
use Rattle.heap_options.specs.declared.left.Left.{Left}
use Rattle.heap_options.specs.declared.left.Left.TheVariants.{Nothing, One, Two, Three}
use Rattle.misere_theory.proofs.Codes.{digit_within}

in_where : (b : Bool) (xs : List Left) (L : Left) → b ≡ true → Contains xs L
    → Contains (where_holds b xs) L
in_where true xs L e c = c
in_where false xs L e c = absurd (cc)

of_where : (b : Bool) (xs : List Left) (L : Left) → Contains (where_holds b xs) L
    → (b ≡ true) × Contains xs L
of_where true xs L c = (refl, c)
of_where false xs L c = absurd (nothing_in L c)

module _ (code : List ℕ) (n most j : ℕ) where
  pub of_nothing : (L : Left) → Contains (nothing_left code n j) L
      → (L ≡ Nothing) × IsLeftAt code n j Nothing
  of_nothing L c =
      let (e, i) = of_where (takes_all code n j) (Nothing ∷ []) L c in
      let (b, l, h) = all_says (allows code j NoHeap) n j e in
      (sym (only_in Nothing L i), (l, h, bit_says (digit code j) 1 b))

  pub of_one : (L : Left) → Contains (one_left code n j) L
      → (L ≡ One (n - j)) × IsLeftAt code n j (One (n - j))
  of_one L c =
      let (e, i) = of_where (leaves_one code n j) (One (n - j) ∷ []) L c in
      let (b, l, h) = one_says (allows code j OneHeap) n j e in
      (sym (only_in (One (n - j)) L i), (l, omega arith, omega arith, bit_says (digit code j) 2 b))

  pub of_two : (L : Left) → Contains (two_left code n most j) L → (a : ℕ) × (L ≡ Two a (n - j - a))
      × (IsLeftAt code n j (Two a (n - j - a)) × (a ≤ most))
  of_two L c =
      let (e, i) = of_where (allows code j TwoHeaps) (splits (n - j) 1 (min ((n - j) / 2) most)) L c
      in
      let (a, l, h, s) = of_map (λ b. Two b (n - j - b)) 1 (min ((n - j) / 2) most) L i in
      (a, sym s, ((l, omega arith, omega arith, bit_says (digit code j) 4 e), omega arith))

  pub of_three : (L : Left) → Contains (three_left code n most j) L
      → (a : ℕ) × (b : ℕ) × (L ≡ Three a b (n - j - a - b))
      × (IsLeftAt code n j (Three a b (n - j - a - b)) × ((a ≤ most) × (b ≤ most)))
  of_three L c =
      let (e, i) = of_where (allows code j ThreeHeaps) (triples (n - j) most 1) L c in
      let (a, l, h, k) =
      of_flat (triples_at (n - j) most) 1 (last_first (n - j) most + 1 - 1) L i in
      let (b, p, q, s) =
      of_map (λ v. Three a v (n - j - a - v)) a (last_second (n - j) most a + 1 - a) L k in (
        a,
        b,
        sym s,
        (
          (l, p, omega arith, omega arith, bit_says (digit code j) 8 e),
          (omega arith, omega arith),
        ),
      )

  abbrev Here : Left → Type 0
  Here L = IsLeftAt code n j L × IsPartUpTo most L

  -- the options that leave two heaps or three, and those that leave some heap
  abbrev Many : List Left
  Many = two_left code n most j ++ three_left code n most j

  abbrev Some : List Left
  Some = one_left code n j ++ Many

  pub of_at : (L : Left) → Contains (options_at code n most j) L → IsLeftAt code n j L
      × IsPartUpTo most L
  of_at L c =
      elim (Contains-append_cases (nothing_left code n j) Some L c) [
        | inl h ↦ let (e, i) = of_nothing L h in subst Here (sym e) (i, tt)
        | inr m ↦ elim (Contains-append_cases (one_left code n j) Many L m) [
          | inl h ↦ let (e, i) = of_one L h in subst Here (sym e) (i, tt)
          | inr k ↦
              elim (Contains-append_cases (two_left code n most j) (three_left code n most j) L k) [
                | inl h ↦ let (a, e, i) = of_two L h in subst Here (sym e) i
                | inr h ↦ let (a, b, e, i) = of_three L h in subst Here (sym e) i
              ]
        ]
      ]

  in_many : (L : Left) → Contains Many L → Contains (options_at code n most j) L
  in_many L c = Contains-append_right (nothing_left code n j) Some L
      (Contains-append_right (one_left code n j) Many L c)

  in_two : (a b : ℕ) → IsLeftAt code n j (Two a b) → a ≤ most
      → Contains (two_left code n most j) (Two a b)
  in_two a b (p, o, h, s) u =
      let e : n - j - a ≡ b = omega arith in
      in_where (allows code j TwoHeaps) (splits (n - j) 1 (min ((n - j) / 2) most)) (Two a b)
      (bit_is (digit code j) 4 s)
      (subst (λ v. Contains (splits (n - j) 1 (min ((n - j) / 2) most)) (Two a v)) e
      (in_map (λ v. Two v (n - j - v)) 1 (min ((n - j) / 2) most) a p (omega arith)))

  in_three : (a b c : ℕ) → IsLeftAt code n j (Three a b c) → a ≤ most → b ≤ most
      → Contains (three_left code n most j) (Three a b c)
  in_three a b c (p, o, q, h, s) u w =
      let e : n - j - a - b ≡ c = omega arith in
      in_where (allows code j ThreeHeaps) (triples (n - j) most 1) (Three a b c)
      (bit_is (digit code j) 8 s)
      (in_flat (triples_at (n - j) most) 1 (last_first (n - j) most + 1 - 1) a (Three a b c) p
      (omega arith)
      (subst (λ v. Contains (triples_at (n - j) most a) (Three a b v)) e
      (in_map (λ v. Three a v (n - j - a - v)) a (last_second (n - j) most a + 1 - a) b o
      (omega arith))))

  pub in_at : (L : Left) → IsLeftAt code n j L → IsPartUpTo most L
      → Contains (options_at code n most j) L
  in_at Nothing (l, h, b) u =
      Contains-append_left (nothing_left code n j) Some Nothing
      (in_where (takes_all code n j) (Nothing ∷ []) Nothing
      (all_is (allows code j NoHeap) n j (bit_is (digit code j) 1 b) l h) (itself_in Nothing))
  in_at (One a) (l, p, h, b) u =
      let e : n - j ≡ a = omega arith in
      Contains-append_right (nothing_left code n j) Some (One a)
      (Contains-append_left (one_left code n j) Many (One a)
      (in_where (leaves_one code n j) (One (n - j) ∷ []) (One a)
      (one_is (allows code j OneHeap) n j (bit_is (digit code j) 2 b) l (omega arith))
      (subst (λ v. Contains (One v ∷ []) (One a)) (sym e) (itself_in (One a)))))
  in_at (Two a b) h u =
      in_many (Two a b)
      (Contains-append_left (two_left code n most j) (three_left code n most j) (Two a b)
      (in_two a b h u))
  in_at (Three a b c) h u =
      in_many (Three a b c)
      (Contains-append_right (two_left code n most j) (three_left code n most j) (Three a b c)
      (in_three a b c h u.0 u.1))

left_within : (code : List ℕ) (n j : ℕ) (L : Left) → IsLeftAt code n j L → j < length code
left_within code n j Nothing (l, h, b) = digit_within code j 0 b
left_within code n j (One a) (l, p, h, b) = digit_within code j 1 b
left_within code n j (Two a c) (p, o, h, b) = digit_within code j 2 b
left_within code n j (Three a c d) (p, o, q, h, b) = digit_within code j 3 b

pub in_options : (code : List ℕ) (n most j : ℕ) (L : Left) → IsLeftAt code n j L → IsPartUpTo most L
    → Contains (options_up_to code n most) L
in_options code n most j L h u =
    in_flat (options_at code n most) 0 (length code) j L (omega arith)
    (let l = left_within code n j L h in omega arith) (in_at code n most j L h u)

-- what a list holds leaves so much for one number that is taken away, and no part too large
pub listed_as : (code : List ℕ) (n most : ℕ) (L : Left) → Contains (options_up_to code n most) L
    ↔ (((j : ℕ) × IsLeftAt code n j L) × IsPartUpTo most L)
listed_as code n most L = (
  λ c. let (j, l, h, i) = of_flat (options_at code n most) 0 (length code) L c in let (k, u) =
      of_at code n most j L i in ((j, k), u),
  λ h. in_options code n most h.0.0 L h.0.1 h.1,
)

pub of_options : (code : List ℕ) (n most : ℕ) (L : Left) → Contains (options_up_to code n most) L
    → (j : ℕ) × IsLeftAt code n j L
of_options code n most L c = ((listed_as code n most L).0 c).0

pub in_all : (code : List ℕ) (n j : ℕ) (L : Left) → IsLeftAt code n j L
    → Contains (options_of code n) L
in_all code n j L h = in_options code n n j L h (small code n j L h)
  where
    small : (code : List ℕ) (n j : ℕ) (L : Left) → IsLeftAt code n j L → IsPartUpTo n L
    small code n j Nothing h = tt
    small code n j (One a) h = tt
    small code n j (Two a b) (p, o, h, s) = omega arith
    small code n j (Three a b c) (p, o, q, h, s) = (omega arith, omega arith)

-- a list that is cut off has the options whose parts but the largest are small
pub cut : (code : List ℕ) (n most : ℕ) (L : Left) → Contains (options_up_to code n most) L
    ↔ (Contains (options_of code n) L × IsPartUpTo most L)
cut code n most L = (
  λ c. let ((j, k), u) = (listed_as code n most L).0 c in (in_all code n j L k, u),
  λ h. let (j, k) = of_options code n n L h.0 in in_options code n most j L k h.1,
)

option_of : (code : List ℕ) (n j : ℕ) (L : Left) → IsLeftAt code n j L
    → HeapOption code n (heaps_of L) × IsInOrder L
option_of code n j Nothing (l, h, b) = (TakesAll j l h b, tt)
option_of code n j (One a) (l, p, h, b) = (LeavesOne j a l p h b, tt)
option_of code n j (Two a c) (p, o, h, b) = (LeavesTwo j a c p (omega arith) h b, o)
option_of code n j (Three a c d) (p, o, q, h, b) =
    (LeavesThree j a c d p (omega arith) (omega arith) h b, (o, q))

pub only : (code : List ℕ) (n most : ℕ) (L : Left) → Contains (options_up_to code n most) L
    → HeapOption code n (heaps_of L) × IsInOrder L
only code n most L c = let (j, h) = of_options code n most L c in option_of code n j L h
