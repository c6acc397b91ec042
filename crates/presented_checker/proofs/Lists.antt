-- The words of heaps of a whole game, and of the same presentation with the words of finitely many heaps in its list.
use Rattle.std.proofs.Common.{◌≡◌, ℕ, zero, suc, ◌+◌, ◌-◌, ◌<◌, ◌≤◌, true, List, [], ◌∷◌, ◌++◌, map, length, None, All, ◌↔◌, refl, sym, ap, ◌∙◌, inl, inr, arith, ne_eqb}
use Rattle.std.specs.List.{range_with_len}
use Rattle.std.specs.Prelude.{is_some, ◌%◌}
use Rattle.std.proofs.Math.Nat.{add-mod_right, mod-eq_of_lt}
use Rattle.std.proofs.lemmas.Bool.{true≢false, le-ltb, lt-ltb, cases_lt}
use Rattle.std.proofs.lemmas.List.{get_or_past}
use Rattle.std.proofs.lemmas.List.FromFn.{get_or-map-range_with_len, map-range_with_len_more}
use Rattle.misere_theory.specs.Games.{IsPosition, IsHeapUpTo}
use Rattle.misere_theory.specs.Kinds.{IsHeapIn}
use Rattle.presented_text.specs.Said.{PresentedSaid, IsInRanges}
use Rattle.presented_claims.specs.Claims.{listed_heap, listed_word}
use Rattle.presented_tables.specs.Tested.{HasWord}
use Rattle.presented_checker.specs.Unrolled.{said_word, unrolled, repeats_from}
use Rattle.presented_checker.proofs.Shifts.{Repeats}

-- ---- heaps of the list

pub in-list : (c : PresentedSaid) (n : ℕ) → n ≤ c.heaps → listed_heap c n ≡ n
in-list c n le = rw (le-ltb c.heaps n le) refl

past-list : (c : PresentedSaid) (n : ℕ) → c.heaps < n → 0 < c.period
    → listed_heap c n ≡ repeats_from c + (n - repeats_from c) % c.period
past-list c n lt some = rw (lt-ltb c.heaps n lt, ne_eqb c.period 0 (λ e. omega (arith, e, some))) refl

pub no-heap : (c : PresentedSaid) → HasWord c 0 → ⊥
no-heap c has = true≢false (sym has ∙ ap (λ m. is_some (listed_word c m)) (in-list c 0 (omega arith)))

pub has-size : (c : PresentedSaid) (n : ℕ) → HasWord c n → 1 ≤ n
has-size c zero has = absurd (no-heap c has)
has-size c (suc n) has = omega arith

-- ---- what repeats

module _ (c : PresentedSaid) (ranges : IsInRanges c) (some : 0 < c.period) where
  repeats : (n : ℕ) → repeats_from c ≤ n → said_word c (c.period + n) ≡ said_word c n
  repeats n le =
      let s = repeats_from c in
      let few = ranges.period in
      let more : c.period + n - s ≡ (n - s) + c.period = omega arith in
      let far : listed_heap c (c.period + n) ≡ s + (n - s) % c.period =
      past-list c (c.period + n) (omega arith) some ∙ ap (λ x. s + x % c.period) more
      ∙ ap (λ x. s + x) (add-mod_right (n - s) c.period)
      in
      ap (listed_word c) (far ∙ sym (elim (cases_lt c.heaps n) [
        | inl lt ↦ past-list c n lt some
        | inr less ↦
            let small : (n - s) % c.period ≡ n - s = mod-eq_of_lt (omega arith) in
            in-list c n less ∙ (rw small (omega arith))
      ]))

  pub periodic : Repeats c.code (said_word c) (length c.code - 1) (repeats_from c) c.period
  periodic = record {
    last = λ j lt. get_or_past c.code j 0 (omega arith);
    from_one = omega arith;
    some = omega arith;
    repeats = repeats;
  }

-- ---- the list written out

pub one_more_word : (c : PresentedSaid) (n : ℕ) → map (said_word c) (range_with_len 1 (n + 1))
    ≡ map (said_word c) (range_with_len 1 n) ++ said_word c (n + 1) ∷ []
one_more_word c n = map-range_with_len_more (said_word c) 1 n (n + 1) (omega arith)

module _ (c : PresentedSaid) (B : ℕ) where
  pub inside : (n : ℕ) → n ≤ B → said_word (unrolled c B) n ≡ said_word c n
  inside zero le = ap (listed_word (unrolled c B)) (in-list (unrolled c B) zero le)
      ∙ sym (ap (listed_word c) (in-list c zero (omega arith)))
  inside (suc i) le =
      ap (listed_word (unrolled c B)) (in-list (unrolled c B) (suc i) le)
      ∙ get_or-map-range_with_len (said_word c) 1 B i (suc i) None (omega arith) (omega arith)

  outside : (n : ℕ) → B < n → said_word (unrolled c B) n ≡ None
  outside n lt = ap (listed_word (unrolled c B)) (let h : listed_heap (unrolled c B) n ≡ 0 = rw (lt-ltb B n lt) refl in h)

  -- the heaps that have words are those up to B that had words before
  pub has-inside : (n : ℕ) → HasWord (unrolled c B) n → IsHeapUpTo B n
  has-inside n has = elim (cases_lt B n) [
    | inl lt ↦ absurd (true≢false (sym has ∙ ap is_some (outside n lt)))
    | inr le ↦ (has-size (unrolled c B) n has, le)
  ]

  pub has-before : (n : ℕ) → HasWord (unrolled c B) n → HasWord c n
  has-before n has = let h = has-inside n has in sym (ap is_some (inside n h.1)) ∙ has

  pub has-still : (n : ℕ) → n ≤ B → HasWord c n → HasWord (unrolled c B) n
  has-still n le has = ap is_some (inside n le) ∙ has

  pub all-inside : (X : List ℕ) → IsPosition (HasWord (unrolled c B)) X → IsPosition (IsHeapUpTo B) X
  all-inside [] p = tt
  all-inside (n ∷ X) p = (has-inside n p.0, all-inside X p.1)

  pub all-before : (X : List ℕ) → IsPosition (HasWord (unrolled c B)) X → IsPosition (HasWord c) X
  all-before [] p = tt
  all-before (n ∷ X) p = (has-before n p.0, all-before X p.1)

  pub all-still : (X : List ℕ) → IsPosition (IsHeapUpTo B) X → IsPosition (HasWord c) X
      → IsPosition (HasWord (unrolled c B)) X
  all-still [] p q = tt
  all-still (n ∷ X) p q = (has-still n p.0.1 q.0, all-still X p.1 q.1)

-- ---- all heaps

module _ (c : PresentedSaid) (ranges : IsInRanges c) (some : 0 < c.period)
    (all : All (λ w. is_some w ≡ true) c.words) where
  listed-size : (n : ℕ) → 1 ≤ n → (1 ≤ listed_heap c n) × (listed_heap c n ≤ c.heaps)
  listed-size n le = elim (cases_lt c.heaps n) [
    | inl lt ↦ let few = ranges.period in rw (past-list c n lt some) (omega arith, omega arith)
    | inr near ↦ rw (in-list c n near) (le, near)
  ]

  listed-some : (m : ℕ) → 1 ≤ m → m ≤ c.heaps → is_some (listed_word c m) ≡ true
  listed-some zero le near = absurd (omega arith)
  listed-some (suc i) le near = let long = ranges.words.0 in all i None (omega arith)

  pub all-heaps : (n : ℕ) → HasWord c n ↔ IsHeapIn 0 n
  all-heaps n = (
    λ has. (has-size c n has, λ none. absurd (omega arith)),
    λ is. let h = listed-size n is.0 in listed-some (listed_heap c n) h.0 h.1,
  )
