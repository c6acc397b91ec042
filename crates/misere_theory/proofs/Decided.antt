-- The rule holds at every position, or fails at one: words of at most order * 2 ^ order heaps up to
-- B show every pair.
-- A longer word has two suffixes with one pair, and what stands between them can be left out.
use Rattle.std.proofs.Common.{◌≡◌, ℕ, zero, suc, ◌+◌, ◌*◌, ◌^◌, ◌<◌, ◌≤◌, ◌⊎◌, List, [], ◌∷◌, ◌++◌, length, refl, sym, ◌∙◌, ap, ap₂, subst, inl, inr, arith, AllPairs, All}
use Rattle.std.proofs.lemmas.List.Kept.{AllPairs-cons}
use Rattle.std.proofs.lemmas.List.Elements.{All-cons}
use Rattle.std.proofs.Common.{length-append}
use native.Mathlib.Decide.{dec_le}
use Rattle.misere_theory.specs.Games.{IsHeapUpTo, IsPosition}
use Rattle.misere_theory.specs.Games.Move.{Here, There}
use Rattle.misere_theory.specs.Quotients.{Claim, Monoid, GivesElements, value, OptionValue, SamePair, RuleHolds, RuleFails, ReachesMoreThan}
use Rattle.misere_theory.specs.Pairs.{SameHeapPair}
use Rattle.misere_theory.specs.Kinds.{IsHeapIn, IsPeriodicIn, bound_in}
use Rattle.misere_theory.proofs.Basics.{either_way}
use Rattle.misere_theory.specs.Parts.{IsPart}
use Rattle.misere_theory.proofs.Sums.{first_or_rest, value-append, IsPosition-append}
use Rattle.misere_theory.proofs.Outcomes.{some_or_all_below}
use Rattle.misere_theory.proofs.Counting.{position_where, kept_in, bound_counts, shown_in}
use Rattle.misere_theory.proofs.PairCounts.{same_pair_dec, reach_bound}
use Rattle.misere_theory.proofs.Rules.{rule_decided}

pub pair-refl : (code : List ℕ) (c : Claim) (X : List ℕ) → SamePair code c X X
pair-refl code c X = (refl, λ x. (λ o. o, λ o. o))

pub pair-sym : (code : List ℕ) (c : Claim) (X Y : List ℕ) → SamePair code c X Y
    → SamePair code c Y X
pair-sym code c X Y s = (sym s.0, λ x. ((s.1 x).1, (s.1 x).0))

pub pair-trans : (code : List ℕ) (c : Claim) (X Y Z : List ℕ) → SamePair code c X Y
    → SamePair code c Y Z → SamePair code c X Z
pair-trans code c X Y Z s t =
    (s.0 ∙ t.0, λ x. (λ o. (t.1 x).0 ((s.1 x).0 o), λ o. (s.1 x).1 ((t.1 x).1 o)))

-- the rule speaks of the pair alone
pub rule_of_pair : (code : List ℕ) (c : Claim) (X Y : List ℕ) → SamePair code c X Y
    → RuleHolds code c X → RuleHolds code c Y
rule_of_pair code c X Y s h = (
  λ t. let ((x, o), none) = h.0 (ap c.portion s.0 ∙ t) in
      ((x, (s.1 x).0 o), λ y p. none y ((s.1 y).1 p)),
  λ r. let ((x, o), none) = r in
      ap c.portion (sym s.0) ∙ h.1 ((x, (s.1 x).1 o), λ y p. none y ((s.1 y).0 p)),
)

-- one word over some heaps up to a length has the one fact, or each has the other
pub some_or_all_words : (B L : ℕ) (Q R : List ℕ → Type 0) → ((X : List ℕ) → Q X ⊎ R X)
    → ((X : List ℕ) × IsPosition (IsHeapUpTo B) X × Q X)
    ⊎ ((X : List ℕ) → IsPosition (IsHeapUpTo B) X → length X ≤ L → R X)
some_or_all_words B zero Q R test = elim (test []) [
  | inl q ↦ inl ([], tt, q)
  | inr r ↦ inr (λ X p l. only X l r)
]
  where
    only : (X : List ℕ) → length X ≤ 0 → R [] → R X
    only [] l r = r
    only (n ∷ X) l r = absurd (omega arith)
some_or_all_words B (suc L) Q R test = elim (test []) [
  | inl q ↦ inl ([], tt, q)
  | inr r ↦ elim (some_or_all_below
      (λ n. (X : List ℕ) × IsPosition (IsHeapUpTo B) X × Q (suc n ∷ X))
      (λ n. (X : List ℕ) → IsPosition (IsHeapUpTo B) X → length X ≤ L → R (suc n ∷ X))
      (λ n. some_or_all_words B L (λ X. Q (suc n ∷ X)) (λ X. R (suc n ∷ X)) (λ X. test (suc n ∷ X)))
      B) [
        | inl (n, l, (X, p, q)) ↦ inl (suc n ∷ X, ((omega arith, omega arith), p), q)
        | inr all ↦ inr (each r all)
      ]
]
  where
    each : R [] → ((n : ℕ) → n < B → (X : List ℕ) → IsPosition (IsHeapUpTo B) X → length X ≤ L
        → R (suc n ∷ X)) → (X : List ℕ)
        → IsPosition (IsHeapUpTo B) X → length X ≤ suc L → R X
    each r all [] p l = r
    each r all (zero ∷ X) p l = absurd (let o = p.0.0 in omega arith)
    each r all (suc n ∷ X) p l = all n (let o = p.0.1 in omega arith) X p.1 (omega arith)

suffixes : List ℕ → List (List ℕ)
suffixes [] = [] ∷ []
suffixes (n ∷ X) = (n ∷ X) ∷ suffixes X

length-suffixes : (X : List ℕ) → length (suffixes X) ≡ suc (length X)
unfolding suffixes
length-suffixes [] = refl
length-suffixes (n ∷ X) = ap suc (length-suffixes X)

all_suffixes : (heap : ℕ → Type 0) (X : List ℕ) → IsPosition heap X
    → All (IsPosition heap) (suffixes X)
unfolding suffixes
all_suffixes heap [] p = All-cons (IsPosition heap) [] [] tt (λ k d l. absurd (omega arith))
all_suffixes heap (n ∷ X) p =
    All-cons (IsPosition heap) (n ∷ X) (suffixes X) p (all_suffixes heap X p.1)

position_behind : (heap : ℕ → Type 0) (P S : List ℕ) → IsPosition heap (P ++ S) → IsPosition heap S
position_behind heap [] S p = p
position_behind heap (n ∷ P) S p = position_behind heap P S p.1

position_before : (heap : ℕ → Type 0) (P S : List ℕ) → IsPosition heap (P ++ S) → IsPosition heap P
position_before heap [] S p = tt
position_before heap (n ∷ P) S p = (p.0, position_before heap P S p.1)

module _
    (heap : ℕ → Type 0) (code : List ℕ) (inside : IsPart heap code) (c : Claim)
    (m : Monoid c.order c.times)
    (phi_in : GivesElements heap c) where
  cons_option : (n i : ℕ) (X Y : List ℕ) → heap n → heap i → IsPosition heap X
      → IsPosition heap Y → SameHeapPair code c n i
      → SamePair code c X Y → (x : ℕ) → OptionValue code c (n ∷ X) x
      → OptionValue code c (i ∷ Y) x
  cons_option n i X Y one two p q heaps rest x o = elim (first_or_rest o.1) [
    | inl (H, h, e) ↦
        let (L, l, f) = (heaps.1 (value c H)).0 (H, h, refl) in (
          L ++ Y,
          Here l refl,
          value-append heap c m phi_in L Y (inside i L two l) q
              ∙ ap₂ c.times f (sym rest.0)
              ∙ sym (value-append heap c m phi_in H X (inside n H one h) p)
              ∙ ap (value c) (sym e) ∙ o.2,
        )
    | inr (W, k, e) ↦
        let (V, l, f) = (rest.1 (value c W)).0 (W, k, refl) in
        (i ∷ V, There l refl, ap₂ c.times (sym heaps.0) f ∙ ap (value c) (sym e) ∙ o.2)
  ]

  -- heaps with the same pair and positions with the same pair make positions with the same pair
  cons_pair : (n i : ℕ) (X Y : List ℕ) → heap n → heap i → IsPosition heap X
      → IsPosition heap Y → SameHeapPair code c n i
      → SamePair code c X Y → SamePair code c (n ∷ X) (i ∷ Y)
  cons_pair n i X Y one two p q heaps rest = (
    ap₂ c.times heaps.0 rest.0,
    λ x. (
      λ o. cons_option n i X Y one two p q heaps rest x o,
      λ o. cons_option i n Y X two one q p (sym heaps.0, λ y. ((heaps.1 y).1, (heaps.1 y).0))
          (pair-sym code c X Y rest) x o,
    ),
  )

  behind_pair : (P X Y : List ℕ) → IsPosition heap P → IsPosition heap X → IsPosition heap Y
      → SamePair code c X Y
      → SamePair code c (P ++ X) (P ++ Y)
  behind_pair [] X Y o p q s = s
  behind_pair (n ∷ P) X Y o p q s =
      cons_pair n n (P ++ X) (P ++ Y) o.0 o.0 (IsPosition-append heap P X o.1 p)
      (IsPosition-append heap P Y o.1 q) (refl, λ x. (λ h. h, λ h. h))
      (behind_pair P X Y o.1 p q s)

  -- Y has the pair of a suffix of X, or of none
  same_suffix : (Y X : List ℕ) → IsPosition heap Y → IsPosition heap X
      → ((R : List ℕ) × (S : List ℕ) × (X ≡ R ++ S) × SamePair code c Y S)
      ⊎ All (λ Z. SamePair code c Y Z → ⊥) (suffixes X)
  unfolding suffixes
  same_suffix Y [] q p = elim (same_pair_dec heap code inside c m phi_in Y [] q tt) [
    | inl s ↦ inl ([], [], refl, s)
    | inr f ↦ inr
        (All-cons (λ Z. SamePair code c Y Z → ⊥) [] [] f (λ k d l. absurd (omega arith)))
  ]
  same_suffix Y (n ∷ X) q p =
      elim (same_pair_dec heap code inside c m phi_in Y (n ∷ X) q p) [
        | inl s ↦ inl ([], n ∷ X, refl, s)
        | inr f ↦ elim (same_suffix Y X q p.1) [
          | inl (R, S, e, s) ↦ inl (n ∷ R, S, ap (λ l. n ∷ l) e, s)
          | inr all ↦ inr (All-cons (λ Z. SamePair code c Y Z → ⊥) (n ∷ X) (suffixes X) f all)
        ]
      ]

  -- some part R of X can be left out behind P, or all suffixes have different pairs
  part_or_apart : (X : List ℕ) → IsPosition heap X
      → ((P : List ℕ) × (R : List ℕ) × (S : List ℕ) × (X ≡ P ++ (R ++ S)) × (1 ≤ length R)
      × SamePair code c (R ++ S) S)
      ⊎ AllPairs (λ Y Z. SamePair code c Y Z → ⊥) (suffixes X)
  unfolding suffixes
  part_or_apart [] p = inr (λ i j d h l. absurd (omega arith))
  part_or_apart (n ∷ X) p = elim (part_or_apart X p.1) [
    | inl (P, R, S, e, l, s) ↦ inl (n ∷ P, R, S, ap (λ w. n ∷ w) e, l, s)
    | inr apart ↦ elim (same_suffix (n ∷ X) X p p.1) [
      | inl (R, S, e, s) ↦ inl (
        [],
        n ∷ R,
        S,
        ap (λ w. n ∷ w) e,
        omega arith,
        subst (λ w. SamePair code c (n ∷ w) S) e s,
      )
      | inr all ↦ inr
          (AllPairs-cons (λ Y Z. SamePair code c Y Z → ⊥) (n ∷ X) (suffixes X) all apart)
    ]
  ]

  -- a word of more heaps than there are pairs has the pair of a shorter one
  shorter : (B : ℕ) (up : (n : ℕ) → IsHeapUpTo B n → heap n) (t : ℕ) (X : List ℕ) → length X < t → IsPosition (IsHeapUpTo B) X
      → (Y : List ℕ) × IsPosition (IsHeapUpTo B) Y × (length Y ≤ c.order * 2 ^ c.order)
      × SamePair code c X Y
  shorter B up zero X l p = absurd (omega arith)
  shorter B up (suc t) X l p = elim (dec_le (length X) (c.order * 2 ^ c.order)) [
    | yes h ↦ (X, p, h, pair-refl code c X)
    | no h ↦ elim (part_or_apart X (position_where (IsHeapUpTo B) heap up X p)) [
      | inr apart ↦
          let more : ReachesMoreThan heap code c (c.order * 2 ^ c.order) = (
            suffixes X,
            (let e = length-suffixes X in omega arith),
            all_suffixes heap X (position_where (IsHeapUpTo B) heap up X p),
            apart,
          ) in
          let low =
          reach_bound heap code inside c m phi_in (c.order * 2 ^ c.order) more in
          absurd (omega arith)
      | inl (P, R, S, e, some, s) ↦
          let whole : IsPosition (IsHeapUpTo B) (P ++ (R ++ S)) =
          subst (IsPosition (IsHeapUpTo B)) e p in
          let front = position_before (IsHeapUpTo B) P (R ++ S) whole in
          let back = position_behind (IsHeapUpTo B) P (R ++ S) whole in
          let end = position_behind (IsHeapUpTo B) R S back in
          let kept : SamePair code c X (P ++ S) =
          subst (λ w. SamePair code c w (P ++ S)) (sym e)
          (behind_pair P (R ++ S) S (position_where (IsHeapUpTo B) heap up P front) (position_where (IsHeapUpTo B) heap up (R ++ S) back)
          (position_where (IsHeapUpTo B) heap up S end) s) in
          let long : length X ≡ length P + (length R + length S) =
          ap length e ∙ length-append P (R ++ S) ∙ ap (λ v. length P + v) (length-append R S) in
          let short : length (P ++ S) ≡ length P + length S = length-append P S in
          let (Y, q, k, u) =
          shorter B up t (P ++ S) (omega arith) (IsPosition-append (IsHeapUpTo B) P S front end) in
          (Y, q, k, pair-trans code c X (P ++ S) Y kept u)
    ]
  ]

  -- each heap has the pair of one of the heaps up to B, which all count
  module _
      (B : ℕ) (up : (n : ℕ) → IsHeapUpTo B n → heap n) (show : (n : ℕ) → heap n
      → (b : ℕ) × IsHeapUpTo B b × SameHeapPair code c n b) where
    -- each position has the pair of one of these heaps
    bounded : (X : List ℕ) → IsPosition heap X
        → (Y : List ℕ) × IsPosition (IsHeapUpTo B) Y × SamePair code c X Y
    bounded [] p = ([], tt, pair-refl code c [])
    bounded (n ∷ X) p =
        let (i, l, same) = show n p.0 in
        let (Y, q, s) = bounded X p.1 in (
          i ∷ Y,
          (l, q),
          cons_pair n i X Y p.0 (up i l) p.1 (position_where (IsHeapUpTo B) heap up Y q) same s,
        )

    holds_or_fails_up_to : ((X : List ℕ) → IsPosition heap X → RuleHolds code c X)
        ⊎ ((X : List ℕ) × IsPosition heap X × RuleFails code c X)
    holds_or_fails_up_to =
        elim (some_or_all_words B (c.order * 2 ^ c.order)
        (RuleFails code c) (RuleHolds code c) (λ X. either_way (rule_decided code c X))) [
          | inl (X, p, f) ↦ inr (X, position_where (IsHeapUpTo B) heap up X p, f)
          | inr all ↦ inl (λ X p.
              let (Y, q, s) = bounded X p in
              let (Z, r, l, u) = shorter B up (suc (length Y)) Y (omega arith) q in
              rule_of_pair code c Z X (pair-sym code c X Z (pair-trans code c X Y Z s u))
              (all Z r l))
        ]

-- so in a game of any kind the rule holds everywhere, or fails somewhere
pub holds_or_fails : (M : ℕ) (code : List ℕ) (c : Claim) → Monoid c.order c.times
    → GivesElements (IsHeapIn M) c → (k start period : ℕ) → IsPeriodicIn M code c k start period
    → ((X : List ℕ) → IsPosition (IsHeapIn M) X → RuleHolds code c X)
    ⊎ ((X : List ℕ) × IsPosition (IsHeapIn M) X × RuleFails code c X)
holds_or_fails M code c m phi_in k start period ok =
    holds_or_fails_up_to (IsHeapIn M) code (kept_in M code) c m phi_in (bound_in M code k start period)
    (bound_counts M code k start period) (shown_in M code c k start period ok)
