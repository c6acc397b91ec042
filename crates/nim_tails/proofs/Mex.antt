-- Each code has a nim sequence.
-- By induction on the heaps: the nim sums of a heap's options are bounded, so a least number is none.
use Rattle.std.proofs.Common.{◌≡◌, ◌↔◌, ℕ, zero, suc, ◌+◌, ◌-◌, ◌^◌, ◌≤◌, ◌<◌, ◌⊎◌, bit_xor, eqb, if◌then◌else◌, List, [], ◌∷◌, refl, sym, ◌∙◌, ap, ap₂, subst, inl, inr, arith}
use Rattle.std.proofs.lemmas.Nat.{xor_lt, pow_pos, pow_below}
use Rattle.std.proofs.lemmas.Bool.Decides.{nat_tests}
use borrow.Author.Count.{below_more}
use native.Mathlib.Decide.{dec_lt, ℕ_discrete}
use Rattle.misere_theory.specs.Games.{HeapOption, IsPosition}
use Rattle.misere_theory.specs.Games.HeapOption.{Nothing, One, Two, Three}
use Rattle.misere_theory.proofs.Outcomes.{some_or_all_options}
use Rattle.misere_theory.proofs.Basics.{decided}
use Rattle.nim_tails.specs.Normal.{nim_sum, IsNimOption, IsMex, AreNimValues}

-- a property that can be tested and fails at a bound has a least number without it
least_without : (Q : ℕ → Type 0) → ((k : ℕ) → Q k ⊎ (Q k → ⊥)) → (B : ℕ) → (Q B → ⊥)
    → (d t : ℕ) → t + d ≡ B → ((k : ℕ) → k < t → Q k) → (m : ℕ) × (m ≤ B) × IsMex Q m
least_without Q test B none zero t e below =
    let f : B ≡ t = omega arith in (t, omega arith, (subst (λ k. Q k → ⊥) f none, below))
least_without Q test B none (suc d) t e below = elim (test t) [
  | inl q ↦ least_without Q test B none d (t + 1) (omega arith) (below_more Q t below q)
  | inr f ↦ (t, omega arith, (f, below))
]

pub mex_same : (P Q : ℕ → Type 0) (m : ℕ) → ((k : ℕ) → P k ↔ Q k) → IsMex P m → IsMex Q m
mex_same P Q m same (none, below) = (λ q. none ((same m).1 q), λ k l. (same k).0 (below k l))

-- the heaps that a move leaves are smaller
pub heaps_left : {code : List ℕ} {n : ℕ} {H : List ℕ} → HeapOption code n H
    → IsPosition (λ h. (1 ≤ h) × (h < n)) H
heaps_left (Nothing j p e b) = tt
heaps_left (One j a p q e b) = ((q, omega arith), tt)
heaps_left (Two j a b p q e s) = ((p, omega arith), ((q, omega arith), tt))
heaps_left (Three j a b c p q r e s) =
    ((p, omega arith), ((q, omega arith), ((r, omega arith), tt)))

nim_sum_below : (G : ℕ → ℕ) (p : ℕ) (X : List ℕ) → IsPosition (λ h. G h < 2 ^ p) X
    → nim_sum G X < 2 ^ p
nim_sum_below G p [] w = pow_pos p
nim_sum_below G p (n ∷ X) w = xor_lt p (G n) (nim_sum G X) w.0 (nim_sum_below G p X w.1)

position_with : (P Q : ℕ → Type 0) → ((n : ℕ) → P n → Q n) → (X : List ℕ) → IsPosition P X
    → IsPosition Q X
position_with P Q f [] w = tt
position_with P Q f (n ∷ X) w = (f n w.0, position_with P Q f X w.1)

pub nim_sum_same : (F G : ℕ → ℕ) (X : List ℕ) → IsPosition (λ n. F n ≡ G n) X
    → nim_sum F X ≡ nim_sum G X
nim_sum_same F G [] w = refl
nim_sum_same F G (n ∷ X) w = ap₂ bit_xor w.0 (nim_sum_same F G X w.1)

-- nim values of which those below n are the same give the heap n the same options
pub same_options : (code : List ℕ) (F G : ℕ → ℕ) (n : ℕ)
    → ((h : ℕ) → 1 ≤ h → h < n → F h ≡ G h) → (x : ℕ)
    → IsNimOption code F n x ↔ IsNimOption code G n x
same_options code F G n same x = (
  λ (H, o, e). (H, o, sym (nim_sum_same F G H (of H o)) ∙ e),
  λ (H, o, e). (H, o, nim_sum_same F G H (of H o) ∙ e),
)
  where
    of : (H : List ℕ) → HeapOption code n H → IsPosition (λ h. F h ≡ G h) H
    of H o = position_with (λ h. (1 ≤ h) × (h < n)) (λ h. F h ≡ G h) (λ h w. same h w.0 w.1) H (heaps_left o)

module _ (code : List ℕ) where
  nim_option_tested : (G : ℕ → ℕ) (n k : ℕ)
      → IsNimOption code G n k ⊎ (IsNimOption code G n k → ⊥)
  nim_option_tested G n k =
      elim (some_or_all_options code n (λ H. nim_sum G H ≡ k) (λ H. nim_sum G H ≡ k → ⊥)
      (λ H o. decided (ℕ_discrete (nim_sum G H) k))) [
        | inl (H, o, e) ↦ inl (H, o, e)
        | inr none ↦ inr (λ (H, o, e). none H o e)
      ]

  record Values (t : ℕ) : Type 0 where
    of : ℕ → ℕ
    low : (n : ℕ) → n ≤ t → of n < 2 ^ n
    mex : (n : ℕ) → 1 ≤ n → n ≤ t → IsMex (IsNimOption code of n) (of n)

  no_high : (t : ℕ) (v : Values t) → IsNimOption code v.of (suc t) (2 ^ t) → ⊥
  no_high t v (H, o, e) =
      let l =
      nim_sum_below v.of t H
      (position_with (λ h. (1 ≤ h) × (h < suc t)) (λ h. v.of h < 2 ^ t)
      (λ h w. below h (omega arith)) H (heaps_left o)) in omega arith
    where
      below : (h : ℕ) → h ≤ t → v.of h < 2 ^ t
      below h l = elim (dec_lt h t) [
        | yes less ↦ let a = pow_below h t less in let b = v.low h l in omega arith
        | no f ↦ let g : h ≡ t = omega arith in subst (λ i. v.of h < 2 ^ i) g (v.low h l)
      ]

  next : (t : ℕ) (v : Values t) → (m : ℕ) × (m ≤ 2 ^ t) × IsMex (IsNimOption code v.of (suc t)) m
  next t v =
      least_without (IsNimOption code v.of (suc t)) (nim_option_tested v.of (suc t)) (2 ^ t)
      (no_high t v) (2 ^ t) 0 (omega arith) (λ k l. absurd (omega arith))

  extended : (G : ℕ → ℕ) (t m n : ℕ) → ℕ
  extended G t m n = if eqb n t then m else G n

  extended_at : (G : ℕ → ℕ) (t m : ℕ) → extended G t m t ≡ m
  unfolding extended
  extended_at G t m = grind (arith, nat_tests)

  extended_before : (G : ℕ → ℕ) (t m n : ℕ) → n < t → extended G t m n ≡ G n
  unfolding extended
  extended_before G t m n l = grind (arith, nat_tests)

  more_values : (t : ℕ) (v : Values t) (m : ℕ) → m ≤ 2 ^ t
      → IsMex (IsNimOption code v.of (suc t)) m → Values (suc t)
  more_values t v m l mex = record { of = F; low = low; mex = all }
    where
      F : ℕ → ℕ
      F = extended v.of (suc t) m

      kept : (n : ℕ) → n < suc t → v.of n ≡ F n
      kept n h = sym (extended_before v.of (suc t) m n h)

      low : (n : ℕ) → n ≤ suc t → F n < 2 ^ n
      low n h = elim (dec_lt n (suc t)) [
        | yes less ↦ subst (λ i. i < 2 ^ n) (kept n less) (v.low n (omega arith))
        | no f ↦
            let g : suc t ≡ n = omega arith in
            let a = pow_below t (suc t) (omega arith) in
            subst (λ i. F i < 2 ^ i) g
            (subst (λ i. i < 2 ^ suc t) (sym (extended_at v.of (suc t) m)) (omega arith))
      ]

      all : (n : ℕ) → 1 ≤ n → n ≤ suc t → IsMex (IsNimOption code F n) (F n)
      all n p h = elim (dec_lt n (suc t)) [
        | yes less ↦
            subst (IsMex (IsNimOption code F n)) (kept n less)
            (mex_same (IsNimOption code v.of n) (IsNimOption code F n) (v.of n)
            (same_options code v.of F n (λ i q r. kept i (omega arith)))
            (v.mex n p (omega arith)))
        | no f ↦
            let g : suc t ≡ n = omega arith in
            subst (λ i. IsMex (IsNimOption code F i) (F i)) g
            (subst (IsMex (IsNimOption code F (suc t))) (sym (extended_at v.of (suc t) m))
            (mex_same (IsNimOption code v.of (suc t)) (IsNimOption code F (suc t)) m
            (same_options code v.of F (suc t) (λ i q r. kept i (omega arith))) mex))
      ]

  values_to : (t : ℕ) → Values t
  values_to zero = record {
    of = λ n. 0;
    low = λ n l. pow_pos n;
    mex = λ n p l. absurd (omega arith);
  }
  values_to (suc t) =
      more_values t (values_to t) (next t (values_to t)).0 (next t (values_to t)).1
      (next t (values_to t)).2

  next_same : (t n : ℕ) → n ≤ t → (values_to (suc t)).of n ≡ (values_to t).of n
  unfolding values_to more_values
  next_same t n l =
      extended_before (values_to t).of (suc t) (next t (values_to t)).0 n (omega arith)

  later_same : (d n : ℕ) → (values_to (n + d)).of n ≡ (values_to n).of n
  later_same zero n = let e : n + 0 ≡ n = omega arith in ap (λ t. (values_to t).of n) e
  later_same (suc d) n =
      let e : n + suc d ≡ suc (n + d) = omega arith in
      ap (λ t. (values_to t).of n) e ∙ next_same (n + d) n (omega arith) ∙ later_same d n

  sequence : ℕ → ℕ
  sequence n = (values_to n).of n

  values_same : (t n : ℕ) → n ≤ t → (values_to t).of n ≡ sequence n
  unfolding sequence
  values_same t n l =
      let e : t ≡ n + (t - n) = omega arith in
      ap (λ i. (values_to i).of n) e ∙ later_same (t - n) n

  sequence_mex : (n : ℕ) → 1 ≤ n → IsMex (IsNimOption code sequence n) (sequence n)
  sequence_mex n p =
      subst (IsMex (IsNimOption code sequence n)) (values_same n n (omega arith))
      (mex_same (IsNimOption code (values_to n).of n) (IsNimOption code sequence n)
      ((values_to n).of n)
      (same_options code (values_to n).of sequence n (λ h q r. values_same n h (omega arith)))
      ((values_to n).mex n p (omega arith)))

  pub nim_values : (G : ℕ → ℕ) × AreNimValues 0 code G
  nim_values = (sequence, λ n h. sequence_mex n h.0)
