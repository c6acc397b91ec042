-- The first elements are counted.
use Rattle.std.proofs.Common.{◌≡◌, ◌≢◌, ◌==◌, ◌<◌, ◌≤◌, ℕ, List, length, get_or, sym, subst, ◌∙◌, arith}
use Rattle.std.proofs.lemmas.Bool.{eq-eqb, ne_eqb}
use Rattle.std.proofs.lemmas.List.{get_or_default}
use Rattle.std.proofs.lemmas.List.Sums.{prefix_len_is}
use Rattle.compact_certificates.specs.Rows.{firsts_of}

-- the keys up to i have the element 0
abbrev pub AreFirst : List (ℕ × ℕ) → ℕ → Type 0
AreFirst words i = (k : ℕ) → k < i → (get_or words k (0, 0)).0 ≡ 0

module _ (words : List (ℕ × ℕ)) (i : ℕ) (so_far : AreFirst words i) where
  pub firsts_stop : (key : ℕ × ℕ) → i < length words → key ≡ get_or words i key → key.0 ≢ 0
      → i ≡ firsts_of words
  firsts_stop key lt is other =
      let here : key ≡ get_or words i (0, 0) = is ∙ get_or_default words i key (0, 0) lt in
      sym (prefix_len_is (λ (k : ℕ × ℕ). k.0 == 0) words i (0, 0) (omega arith)
      (λ k l. eq-eqb _ _ (so_far k l))
      (λ l. ne_eqb _ _ (subst (λ (x : ℕ × ℕ). x.0 ≢ 0) here other)))

  pub all_are_first : length words ≤ i → i ≤ length words → length words ≡ firsts_of words
  all_are_first le ge =
      let same : length words ≡ i = omega arith in
      same ∙ sym (prefix_len_is (λ (k : ℕ × ℕ). k.0 == 0) words i (0, 0) (omega arith)
      (λ k l. eq-eqb _ _ (so_far k l))
      (λ l. absurd (omega arith)))
