-- Nim sums of elements, made one after another.
use Rattle.std.proofs.Common.{◌≡◌, ℕ, ◌+◌, ◌≤◌, ◌<◌, List, [], ◌∷◌, ◌++◌, length, sym, ◌∙◌, ap, subst, arith}
use Rattle.std.specs.Prelude.{slice_index}
use Rattle.std.proofs.lemmas.List.{get_or_append_left, get_or_push, length-append}
use native.Mathlib.Decide.{dec_lt}
use Rattle.misere_theory.specs.Certificates.{Certificate, claim_of, kind_of}
use Rattle.misere_theory.specs.Games.{IsPosition}
use Rattle.misere_theory.specs.Kinds.{IsHeapIn}
use Rattle.misere_theory.specs.Quotients.{value}
use Rattle.nim_tails.specs.Normal.{nim_sum}

-- the sums of the first elements
abbrev IsSumOf : Certificate → List ℕ → ℕ → ℕ → Type 0
IsSumOf c values x s =
    (X : List ℕ) × IsPosition (IsHeapIn (kind_of c)) X × (value (claim_of c) X ≡ x)
    × (nim_sum (slice_index values) X ≡ s)

pub record AreSumsBelow (c : Certificate) (values sums : List ℕ) (n : ℕ) : Type 0 where
  pub some : 1 ≤ n
  pub long : length sums ≡ n
  pub first : slice_index sums 0 ≡ 0
  pub each : (x : ℕ) → x < n → IsSumOf c values x (slice_index sums x)

-- one position more
pub one_sum_more : (c : Certificate) (values sums : List ℕ) (n : ℕ) → AreSumsBelow c values sums n
    → (X : List ℕ) → IsPosition (IsHeapIn (kind_of c)) X → value (claim_of c) X ≡ n → (s : ℕ)
    → nim_sum (slice_index values) X ≡ s → AreSumsBelow c values (sums ++ s ∷ []) (n + 1)
one_sum_more c values sums n w X p e s g =
    let positive = w.some in
    let long = w.long in record {
      some = omega arith;
      long = length-append sums (s ∷ []) ∙ ap (λ i. i + 1) w.long;
      first = get_or_append_left sums (s ∷ []) 0 0 (omega arith) ∙ w.first;
      each = λ x l. elim (dec_lt x n) [
        | yes h ↦
            subst (IsSumOf c values x) (sym (get_or_append_left sums (s ∷ []) 0 x (omega arith)))
            (w.each x h)
        | no f ↦
            let i : n ≡ x = omega arith in
            subst (λ j. IsSumOf c values j (slice_index (sums ++ s ∷ []) j)) i
            (subst (IsSumOf c values n) (sym (get_or_push sums s 0 n w.long)) (X, p, e, g))
      ];
    }
