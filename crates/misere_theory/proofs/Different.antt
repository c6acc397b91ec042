-- Exact pairs that differ are pairs of positions that differ.
-- Were the pairs of the positions the same, so would the exact ones be.
use Rattle.std.proofs.Common.{◌≡◌, ℕ, ◌<◌, List, get_or, sym, ◌∙◌, arith, map}
use Rattle.misere_theory.specs.Games.{IsPosition}
use Rattle.misere_theory.specs.Quotients.{Claim, SamePair, ReachesMoreThan}
use Rattle.misere_theory.specs.Pairs.{Pair, IsSamePair, IsPairOf}
use Rattle.std.specs.List.{range_with_len}
use Rattle.std.proofs.lemmas.List.{length-map}
use Rattle.std.proofs.lemmas.List.FromFn.{get_or-map-range_with_len, length-range_with_len}

pub same_exactly : (code : List ℕ) (c : Claim) (p q : Pair) (X Y : List ℕ) → IsPairOf code c p X
    → IsPairOf code c q Y → SamePair code c X Y
    → IsSamePair p q
same_exactly code c p q X Y a b s = (
  a.same_value ∙ s.0 ∙ sym b.same_value,
  λ x. (
    λ h. (b.options x).1 ((s.1 x).0 ((a.options x).0 h)),
    λ h.
        (a.options x).1 ((s.1 x).1 ((b.options x).0 h)),
  ),
)

module _ (heap : ℕ → Type 0) (code : List ℕ) (c : Claim) (n : ℕ) (pair : ℕ → Pair) (word : ℕ
    → List ℕ) where
  pub more_from_different :
      ((i : ℕ) → i < n → IsPairOf code c (pair i) (word i))
      → ((i : ℕ) → i < n → IsPosition heap (word i))
      → ((i j : ℕ) → i < j → j < n → IsSamePair (pair i) (pair j) → ⊥)
      → (limit : ℕ) → limit < n → ReachesMoreThan heap code c limit
  more_from_different exact positions differ limit l =
      let words = map word (range_with_len 0 n) in
      let e = length-map (range_with_len 0 n) word ∙ length-range_with_len 0 n in
      let at : (i : ℕ) (d : List ℕ) → i < n → get_or words i d ≡ word i =
      λ i d h. get_or-map-range_with_len word 0 n i i d h (omega arith) in (
        words,
        omega arith,
        λ i d h. rw (at i d (omega arith)) (positions i (omega arith)),
        λ i j d h k s.
            let i_in : i < n = omega arith in
            let j_in : j < n = omega arith in
            differ i j h j_in
            (same_exactly code c (pair i) (pair j) (word i) (word j) (exact i i_in) (exact j j_in)
            (rw (at i d i_in, at j d j_in) at s)),
      )
