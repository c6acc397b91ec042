-- Where each letter has a power among the left words, the standard words are among those of a list.
use Rattle.std.proofs.Common.{◌≡◌, ℕ, zero, suc, ◌+◌, ◌<◌, ◌≤◌, List, [], ◌∷◌, ◌++◌, map, length, refl, sym, ap, subst, ◌∙◌, inl, inr, arith}
use Rattle.std.specs.Prelude.{slice_index, Contains}
use Rattle.std.proofs.lemmas.Bool.{cases_lt, cases_eq}
use Rattle.std.proofs.lemmas.List.{get_or-map, length-map}
use Rattle.std.proofs.lemmas.List.Elements.{All-contains, Contains-append_left, Contains-append_right}
use Rattle.presentations.specs.Vectors.{only}
use Rattle.presentations.proofs.VectorLaws.{only-here, only-other}
use Rattle.relations.specs.Bases.{Divides}
use Rattle.normal_forms.specs.Forms.{IsStandard, IsElementWord, HavePowers}

-- a power of a letter is in each word that has so many of it
power-divides : (n i m : ℕ) (w : List ℕ) → m ≤ slice_index w i → Divides n (only n i m) w
power-divides n i m w le k lt = elim (cases_eq k i) [
  | inl same ↦ rw (same, only-here n i m (rw same at lt)) le
  | inr other ↦ rw (only-other n i k m other) (omega arith)
]

contains-map : (f : List ℕ → List ℕ) (xs : List (List ℕ)) (w : List ℕ) → Contains xs w
    → Contains (map f xs) (f w)
contains-map f xs w at =
    (at.0, omega (arith, at.1, length-map xs f), get_or-map f xs at.0 w (f w) at.1 ∙ ap f at.2)

-- each exponent below b in front of each word
with_heads : ℕ → List (List ℕ) → List (List ℕ)
with_heads zero xs = []
with_heads (suc b) xs = map (λ w. b ∷ w) xs ++ with_heads b xs

in-heads : (b x : ℕ) (xs : List (List ℕ)) (w : List ℕ) → x < b → Contains xs w
    → Contains (with_heads b xs) (x ∷ w)
unfolding with_heads
in-heads zero x xs w lt at = absurd (omega (arith, lt))
in-heads (suc b) x xs w lt at = elim (cases_eq x b) [
  | inl same ↦
      rw same
      (Contains-append_left (map (λ u. b ∷ u) xs) (with_heads b xs) (b ∷ w)
      (contains-map (λ u. b ∷ u) xs w at))
  | inr other ↦
      Contains-append_right (map (λ u. b ∷ u) xs) (with_heads b xs) (x ∷ w)
      (in-heads b x xs w (omega (arith, lt, other)) at)
]

-- the words of n exponents below b
words_below : ℕ → ℕ → List (List ℕ)
words_below zero b = [] ∷ []
words_below (suc n) b = with_heads b (words_below n b)

in-words : (n b : ℕ) (w : List ℕ) → length w ≡ n
    → ((i : ℕ) → i < n → slice_index w i < b) → Contains (words_below n b) w
unfolding words_below
in-words zero b [] long below = (0, omega arith, refl)
in-words zero b (x ∷ w) long below = absurd (omega (arith, long))
in-words (suc n) b [] long below = absurd (omega (arith, long))
in-words (suc n) b (x ∷ w) long below =
    in-heads b x (words_below n b) w (below 0 (omega arith))
    (in-words n b w (omega (arith, long)) (λ i lt. below (suc i) (omega (arith, lt))))

module _ (n letters : ℕ) (relations : List (List ℕ × List ℕ)) (powers : HavePowers n letters relations) where
  abbrev AreBelow : ℕ → ℕ → Type 0
  AreBelow k b = (w : List ℕ) → IsStandard n relations w → (i : ℕ) → i < k → slice_index w i < b

  -- below the power of one more letter
  one-more : (k b : ℕ) → k < letters → AreBelow k b → (c : ℕ) × AreBelow (suc k) c
  one-more k b lt below =
      let power = powers k lt in
      let m = power.0 in
      let r = power.1 in (
        b + m,
        λ w standard i i_in.
            elim (cases_eq i k) [
              | inl same ↦
                  elim (cases_lt (slice_index w i) (b + m)) [
                    | inl less ↦ less
                    | inr more ↦
                        absurd (All-contains (λ s. Divides n s.0 w → ⊥) relations r standard.free power.2
                        (subst (λ u. Divides n u w) (sym power.3)
                        (power-divides n k m w
                        (let at : slice_index w i ≡ slice_index w k = ap (slice_index w) same in
                        omega (arith, more, at)))))
                  ]
              | inr other ↦
                  let h = below w standard i (omega (arith, i_in, other)) in omega (arith, h)
            ],
      )

  bounds : (k : ℕ) → k ≤ letters → (b : ℕ) × AreBelow k b
  bounds zero le = (0, λ w standard i lt. absurd (omega (arith, lt)))
  bounds (suc k) le =
      let h = bounds k (omega (arith, le)) in one-more k h.0 (omega (arith, le)) h.1

  pub listed : (words : List (List ℕ))
      × ((w : List ℕ) → IsElementWord n letters relations w → Contains words w)
  listed =
      let h = bounds letters (omega arith) in (
        words_below n (suc h.0),
        λ w element.
            in-words n (suc h.0) w element.standard.long (λ i lt.
            elim (cases_lt i letters) [
              | inl first ↦
                  let below = h.1 w element.standard i first in omega (arith, below)
              | inr beyond ↦ omega (arith, element.within i beyond)
            ]),
      )
