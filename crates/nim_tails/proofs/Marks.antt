-- Marks of the nim sums of a heap's options.
use Rattle.std.proofs.Common.{◌≡◌, ℕ, zero, suc, ◌≤◌, ◌<◌, ◌⊎◌, bit_xor, Bool, true, false, List, length, get_or, set, replicate, refl, sym, ◌∙◌, ap, inl, inr, arith, subst, All, IsPermutation}
use Rattle.std.specs.Int.Bits.{xor_assoc}
use Rattle.std.proofs.lemmas.Nat.{xor_comm}
use Rattle.std.proofs.lemmas.List.{get_or-set_same, get_or-set_other}
use Rattle.std.proofs.lemmas.List.Elements.{All-weaker, All-from_recursion}
use native.Mathlib.Decide.{ℕ_discrete}
use Rattle.misere_theory.specs.Games.{HeapOption}
use Rattle.misere_theory.proofs.Shuffles.{Shuffled, from_permutation}
use Rattle.misere_theory.proofs.Shuffles.Shuffled.{Same, Under, Flip, Then}
use Rattle.nim_tails.specs.Normal.{nim_sum, IsNimOption, IsMex}
use Rattle.nim_tails.proofs.Mex.{heaps_left}
use Rattle.nim_tails.specs.declared.TheConstants.{NIM_BOUND}
use Rattle.nim_tails.specs.Values.{AreMarked}
use Rattle.std.proofs.lemmas.Bool.{true≢false}
use Rattle.std.specs.Option.{MatchOption}
use Rattle.std.specs.Prelude.{Option, Some, None}

-- the order of heaps doesn't matter to their nim sum
pub nim_sum_shuffled : (G : ℕ → ℕ) {X Y : List ℕ} → Shuffled X Y → nim_sum G X ≡ nim_sum G Y
nim_sum_shuffled G Same = refl
nim_sum_shuffled G (Under {n = n} s) = ap (bit_xor (G n)) (nim_sum_shuffled G s)
nim_sum_shuffled G (Flip {a = a} {b = b} {X = X}) =
    sym (xor_assoc (G a) (G b) (nim_sum G X))
    ∙ ap (λ x. bit_xor x (nim_sum G X)) (xor_comm (G a) (G b))
    ∙ xor_assoc (G b) (G a) (nim_sum G X)
nim_sum_shuffled G (Then s t) = nim_sum_shuffled G s ∙ nim_sum_shuffled G t

pub none_marked : (n k : ℕ) → get_or (replicate n false) k false ≡ true → ⊥
none_marked zero k e = absurd (cc)
none_marked (suc n) zero e = absurd (cc)
none_marked (suc n) (suc k) e = none_marked n k e

-- a mark that is set, and those that are kept
pub set_mark : (marks : List Bool) (s k : ℕ) → get_or (set marks s true) k false ≡ true
    → (k ≡ s) ⊎ (get_or marks k false ≡ true)
set_mark marks s k e = elim (ℕ_discrete k s) [
  | yes h ↦ inl h
  | no f ↦ inr (sym (get_or-set_other marks s k true false f) ∙ e)
]

pub kept_mark : (marks : List Bool) (s k : ℕ) → s < length marks → get_or marks k false ≡ true
    → get_or (set marks s true) k false ≡ true
kept_mark marks s k l e = elim (ℕ_discrete k s) [
  | yes h ↦ ap (λ i. get_or (set marks s true) i false) h ∙ get_or-set_same marks s true false l
  | no f ↦ get_or-set_other marks s k true false f ∙ e
]

-- the heaps of an option are listed where those below the heap are
pub below_heap : {code : List ℕ} {n : ℕ} {H : List ℕ} (m : ℕ) → m ≡ n → HeapOption code n H
    → All (λ h. h < m) H
below_heap {n = n} {H = H} m e o =
    All-weaker (λ h. (1 ≤ h) × (h < n)) (λ h. h < m) (λ h w. let l = w.1 in omega arith) H
    (All-from_recursion (λ h. (1 ≤ h) × (h < n)) H (heaps_left o))

-- an option is listed in some order, which has the same nim sum
pub sum_listed : (G : ℕ → ℕ) (Q : ℕ → Type 0) (X H : List ℕ) (k : ℕ) → IsPermutation X H
    → nim_sum G H ≡ k → Q (nim_sum G X) → Q k
sum_listed G Q X H k s e q =
    subst Q (nim_sum_shuffled G (from_permutation X H s) ∙ e) q

-- what a first number without a mark says
pub mex_of : (code : List ℕ) (G : ℕ → ℕ) (n : ℕ) (marks : List Bool) → AreMarked code G n marks
    → (first : Option ℕ)
    → MatchOption first ((k : ℕ) → k < NIM_BOUND → get_or marks k false ≡ true)
    (λ m. (m < NIM_BOUND) × (get_or marks m false ≡ false)
    × ((k : ℕ) → k < m → get_or marks k false ≡ true))
    → MatchOption first ((k : ℕ) → k < NIM_BOUND → IsNimOption code G n k)
    (λ m. (m < NIM_BOUND) × IsMex (IsNimOption code G n) m)
mex_of code G n marks a None all = λ k l. (a.1 k).0 (all k l)
mex_of code G n marks a (Some m) (l, free, before) = (
  l,
  (λ o. true≢false (sym ((a.1 m).1 o) ∙ free), λ k h. (a.1 k).0 (before k h)),
)
