-- What holds of the empty word, and of one letter more as long as that is a folded element, holds of all of these.
use Rattle.std.proofs.Common.{◌≡◌, ℕ, ◌+◌, ◌-◌, ◌<◌, ◌≤◌, List, length, inl, inr, sym, ◌∙◌, ap, arith}
use Rattle.std.specs.Prelude.{slice_index}
use Rattle.std.proofs.Math.Nat.{mod-lt}
use Rattle.std.proofs.lemmas.Bool.{cases_lt}
use Rattle.std.proofs.lemmas.List.{ext_get_or}
use Rattle.presentations.specs.Vectors.{zeros, only, bump}
use Rattle.presentations.proofs.VectorLaws.{bump-plus, by_letters, only-here}
use Rattle.normal_forms.specs.Forms.{IsElementWord}
use Rattle.normal_forms.proofs.Words.{plus-at}
use Rattle.presented_claims.specs.Claims.{cycled, cycled_exponent}
use Rattle.presented_claims.specs.Folds.{at_letter, HavePeriods}
use Rattle.presented_claims.proofs.Exponents.{inside, from}
use Rattle.presented_claims.proofs.Folds.{exponent_at, exponent-of, exponent-behind, cycled-at, length-cycled, standard-in}

-- an exponent that stays is below the end of the first period
stays-below : (c : ℕ × ℕ) (e : ℕ) → 1 ≤ c.1 → cycled_exponent c e ≡ e → e < c.0 + c.1
stays-below c e some stays = elim (cases_lt e c.0) [
  | inl less ↦ omega (arith, less)
  | inr large ↦
      let is = from c e large in
      let small = mod-lt (e - c.0) some in
      omega (arith, is, small, stays, large)
]

module _ (cs : List (ℕ × ℕ)) (periods : HavePeriods cs) where
  -- a smaller exponent stays, too
  smaller-stays : (i e f : ℕ) → e ≤ f → exponent_at cs i f ≡ f → exponent_at cs i e ≡ e
  smaller-stays i e f le stays = elim (cases_lt i (length cs)) [
    | inr behind ↦ exponent-behind cs i e behind
    | inl known ↦
        let end = stays-below (at_letter cs i) f (periods i known) (sym (exponent-of cs i f known) ∙ stays) in
        exponent-of cs i e known ∙ inside (at_letter cs i) e (omega (arith, end, le))
  ]

  smaller-folded : (v w : List ℕ) → ((i : ℕ) → slice_index v i ≤ slice_index w i) → cycled cs w ≡ w
      → cycled cs v ≡ v
  smaller-folded v w le stays =
      ext_get_or 0 (cycled cs v) v (length-cycled cs v)
      (λ i lt. cycled-at cs v i
      ∙ smaller-stays i (slice_index v i) (slice_index w i) (le i)
      (sym (cycled-at cs w i) ∙ ap (λ u. slice_index u i) stays))

  module _
      (n letters : ℕ) (relations : List (List ℕ × List ℕ)) (has : List ℕ → Type 0) (empty : has (zeros n))
      (more : (v : List ℕ) (i : ℕ) → has v → i < letters → i < n → IsElementWord n letters relations (bump v i)
      → cycled cs (bump v i) ≡ bump v i → has (bump v i)) where
    abbrev IsHad : List ℕ → Type 0
    IsHad w = IsElementWord n letters relations w → cycled cs w ≡ w → has w

    bump-le : (v : List ℕ) (i k : ℕ) → length v ≡ n → i < n → slice_index v k ≤ slice_index (bump v i) k
    bump-le v i k long lt =
        let sum = ap (λ u. slice_index u k) (bump-plus v n i long lt) in
        let a = plus-at v (only n i 1) k in
        omega (arith, sum, a)

    bumped : (v : List ℕ) (i : ℕ) → length v ≡ n → i < n → IsHad v → IsHad (bump v i)
    bumped v i long lt had e stays =
        let sum = bump-plus v n i long lt in
        let at = λ (k : ℕ). ap (λ u. slice_index u k) (sym sum) ∙ plus-at v (only n i 1) k in
        let le = λ (k : ℕ). bump-le v i k long lt in
        let here = only-here n i 1 lt in
        let letter : i < letters = elim (cases_lt i letters) [
          | inl less ↦ less
          | inr beyond ↦ let a = at i in let none = e.within i beyond in absurd (omega (arith, a, here, none))
        ] in
        let before : IsElementWord n letters relations v = record {
          standard = standard-in n relations v (bump v i) long (λ k k_in. le k) e.standard;
          within = λ k beyond. let a = le k in let none = e.within k beyond in omega (arith, a, none);
        } in
        more v i (had before (smaller-folded v (bump v i) le stays)) letter lt e stays

    pub all-had : (w : List ℕ) → length w ≡ n → IsHad w
    all-had w long = by_letters n IsHad (λ e stays. empty) bumped w long
