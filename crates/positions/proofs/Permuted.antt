-- What a move leaves, added to the other heaps.
-- Each heap that is added is one more of a permutation, so that no order matters.
use Rattle.std.proofs.Common.{◌≡◌, ℕ, ◌<◌, ◌≤◌, List, [], ◌∷◌, ◌++◌, length, get_or, take, ◌+◌, sym, ◌∙◌, ap, subst, append_assoc, arith, All}
use Rattle.std.specs.List.{Contains, remove}
use Rattle.std.specs.List.Sorted.{IsPermutation}
use Rattle.std.proofs.lemmas.Grind.{take_at_read}
use Rattle.std.proofs.lemmas.List.{get_or_default}
use Rattle.std.proofs.lemmas.List.Elements.{All-cons, All-nil}
use Rattle.std.proofs.lemmas.List.Sorted.{IsPermutation-cons, IsPermutation-trans, IsPermutation-middle, IsPermutation-remove, IsPermutation-sym}
use Rattle.misere_theory.specs.Games.{HeapMove}
use Rattle.heap_options.specs.Exact.{heaps_of}
use Rattle.heap_options.specs.Options.{options_of}
use Rattle.heap_options.specs.declared.left.Left.{Left}
use Rattle.heap_options.specs.declared.left.Left.TheVariants.{Nothing, One, Two, Three}
use Rattle.heap_options.proofs.OptionLaws.{of_options, only}

-- one heap more of those that are left is added
pub added_more : (H xs ys zs : List ℕ) (i : ℕ) → i < length H → IsPermutation (take i H ++ xs) ys
    → IsPermutation (get_or H i 0 ∷ ys) zs → IsPermutation (take (i + 1) H ++ xs) zs
added_more H xs ys zs i l p q =
    let h = get_or H i 0 in
    let more : take (i + 1) H ++ xs ≡ take i H ++ (h ∷ xs) =
    ap (λ us. us ++ xs) (take_at_read H i 0 l).1 ∙ append_assoc (take i H) (h ∷ []) xs in
    subst (λ us. IsPermutation us zs) (sym more)
    (IsPermutation-trans (take i H ++ (h ∷ xs)) (h ∷ (take i H ++ xs)) zs
    (IsPermutation-middle (take i H) h xs)
    (IsPermutation-trans (h ∷ (take i H ++ xs)) (h ∷ ys) zs
    (IsPermutation-cons h (take i H ++ xs) ys p) q))

-- the parts of a heap up to M are heaps up to M
pub parts_fit : (code : List ℕ) (n M : ℕ) (L : Left) → Contains (options_of code n) L → n ≤ M
    → All (λ m. (1 ≤ m) × (m ≤ M)) (heaps_of L)
parts_fit code n M Nothing c l = All-nil (λ m. (1 ≤ m) × (m ≤ M))
parts_fit code n M (One a) c l =
    let (j, h) = of_options code n n (One a) c in
    let (p, q, s, b) = h in
    All-cons (λ m. (1 ≤ m) × (m ≤ M)) a [] (q, omega arith) (All-nil (λ m. (1 ≤ m) × (m ≤ M)))
parts_fit code n M (Two a b) c l =
    let (j, h) = of_options code n n (Two a b) c in
    let (p, q, s, d) = h in
    All-cons (λ m. (1 ≤ m) × (m ≤ M)) a (b ∷ []) (p, omega arith)
    (All-cons (λ m. (1 ≤ m) × (m ≤ M)) b [] (omega arith, omega arith)
    (All-nil (λ m. (1 ≤ m) × (m ≤ M))))
parts_fit code n M (Three a b d) c l =
    let (j, h) = of_options code n n (Three a b d) c in
    let (p, q, r, s, e) = h in
    All-cons (λ m. (1 ≤ m) × (m ≤ M)) a (b ∷ d ∷ []) (p, omega arith)
    (All-cons (λ m. (1 ≤ m) × (m ≤ M)) b (d ∷ []) (omega arith, omega arith)
    (All-cons (λ m. (1 ≤ m) × (m ≤ M)) d [] (omega arith, omega arith)
    (All-nil (λ m. (1 ≤ m) × (m ≤ M)))))

-- the heap at a place goes, and what the move leaves of it comes
pub moved_to : (code X : List ℕ) (n i : ℕ) (L : Left) (Y : List ℕ) → i < length X → get_or X i 0 ≡ n
    → Contains (options_of code n) L
    → IsPermutation (heaps_of L ++ remove X i) Y → HeapMove code X n (heaps_of L) Y
moved_to code X n i L Y l e c p = record {
  others = remove X i;
  before = IsPermutation-remove X i n l (sym e ∙ get_or_default X i 0 n l);
  allowed = (only code n n L c).0;
  after = IsPermutation-sym (heaps_of L ++ remove X i) Y p;
}
