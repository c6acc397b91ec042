-- A heap has one nim value.
use Rattle.std.proofs.Common.{◌≡◌, ℕ, zero, suc, ◌+◌, ◌≤◌, ◌<◌, List, [], ◌∷◌, ◌++◌, length, sym, arith, subst}
use Rattle.std.specs.Prelude.{slice_index}
use Rattle.std.proofs.lemmas.List.{get_or_append_left, get_or_push}
use native.Mathlib.Decide.{dec_lt}
use Rattle.misere_theory.proofs.Basics.{neither_smaller}
use Rattle.nim_tails.specs.Normal.{IsNimOption, IsMex, AreNimValues}
use Rattle.nim_tails.proofs.Mex.{mex_same, same_options}

pub one_mex : (P : ℕ → Type 0) (m n : ℕ) → IsMex P m → IsMex P n → m ≡ n
one_mex P m n p q =
    neither_smaller m n (λ l. p.0 (q.1 m l)) (λ l. q.0 (p.1 n l))

module _ (code : List ℕ) (F G : ℕ → ℕ) (whole : AreNimValues 0 code G) where
  -- values that are right to M are those of the sequence
  agree_within : (t : ℕ) (M : ℕ) → ((n : ℕ) → 1 ≤ n → n ≤ M → IsMex (IsNimOption code F n) (F n))
      → (n : ℕ) → n < t → 1 ≤ n → n ≤ M → F n ≡ G n
  agree_within zero M good n l p h = absurd (omega arith)
  agree_within (suc t) M good n l p h =
      one_mex (IsNimOption code G n) (F n) (G n)
      (mex_same (IsNimOption code F n) (IsNimOption code G n) (F n)
      (same_options code F G n
      (λ i q r. agree_within t M good i (omega arith) q (omega arith)))
      (good n p h))
      (whole n (p, λ z. absurd (omega arith)))

  -- if each number below a bound is the nim sum of an option of the next heap, its value isn't below
  pub large : (M B : ℕ) → ((n : ℕ) → 1 ≤ n → n ≤ M → IsMex (IsNimOption code F n) (F n))
      → ((k : ℕ) → k < B → IsNimOption code F (suc M) k) → B ≤ G (suc M)
  large M B good all = elim (dec_lt (G (suc M)) B) [
    | no f ↦ omega arith
    | yes l ↦ absurd
        ((whole (suc M) (omega arith, λ z. absurd (omega arith))).0
        ((same_options code F G (suc M)
        (λ i q r. agree_within (suc i) M good i (omega arith) q (omega arith)) (G (suc M))).0
        (all (G (suc M)) l)))
  ]

-- one value more, that of the next heap
module _ (code : List ℕ) (vs : List ℕ) (m v : ℕ) (long : length vs ≡ m + 1) where
  abbrev pub IsRightAt : List ℕ → ℕ → Type 0
  IsRightAt ws n = IsMex (IsNimOption code (slice_index ws) n) (slice_index ws n)

  kept : (h : ℕ) → h ≤ m → slice_index vs h ≡ slice_index (vs ++ v ∷ []) h
  kept h l = sym (get_or_append_left vs (v ∷ []) 0 h (omega arith))

  pub one_value_more : IsMex (IsNimOption code (slice_index vs) (m + 1)) v
      → ((n : ℕ) → 1 ≤ n → n ≤ m → IsRightAt vs n)
      → (n : ℕ) → 1 ≤ n → n ≤ m + 1 → IsRightAt (vs ++ v ∷ []) n
  one_value_more mex before n p h = elim (dec_lt m n) [
    | no f ↦
        let l : n ≤ m = omega arith in
        subst (IsMex (IsNimOption code (slice_index (vs ++ v ∷ [])) n)) (kept n l)
        (mex_same _ _ (slice_index vs n)
        (same_options code (slice_index vs) (slice_index (vs ++ v ∷ [])) n
        (λ i q r. kept i (omega arith))) (before n p l))
    | yes l ↦
        let e : m + 1 ≡ n = omega arith in
        subst (λ i. IsRightAt (vs ++ v ∷ []) i) e
        (subst (IsMex (IsNimOption code (slice_index (vs ++ v ∷ [])) (m + 1)))
        (sym (get_or_push vs v 0 (m + 1) long))
        (mex_same _ _ v
        (same_options code (slice_index vs) (slice_index (vs ++ v ∷ [])) (m + 1)
        (λ i q r. kept i (omega arith))) mex))
  ]
