-- The order of what moves leave, and the options whose smaller part is small.
use Rattle.std.proofs.Common.{◌≡◌, ℕ, suc, ◌+◌, sym, List, [], ◌∷◌, ◌++◌, subst, arith}
use Rattle.std.specs.List.{Contains, AllPairs}
use Rattle.std.specs.List.Sorted.{IsNonDecreasing}
use Rattle.misere_theory.specs.Games.{HeapOption}
use Rattle.misere_theory.specs.Games.HeapOption.{Nothing as TakesAll, One as LeavesOne, Two as LeavesTwo, Three as LeavesThree}
use Rattle.misere_theory.specs.Pairs.{IsSmallSplit}
use Rattle.misere_theory.specs.Plays.{LeftBefore}
use Rattle.misere_theory.proofs.InOrder.{in_order_none, in_order_one, in_order_two, in_order_three}
use Rattle.heap_options.specs.Options.{options_up_to}
use Rattle.heap_options.specs.Exact.{heaps_of, IsInOrder, IsPartUpTo}
use Rattle.heap_options.specs.declared.left.Left.{Left}
use Rattle.heap_options.proofs.Exact.{each}
use Rattle.heap_options.proofs.OptionLaws.{only, cut}
use Rattle.heap_options.specs.declared.left.Left.TheVariants.{Nothing, One, Two, Three}
use Rattle.misere_theory.proofs.RisingLists.{rising_same}

pub before_trans : (H L M : List ℕ) → LeftBefore H L → LeftBefore L M → LeftBefore H M
before_trans H L M a b = grind arith

pub not_before_itself : (H : List ℕ) → LeftBefore H H → ⊥
not_before_itself H a = grind arith

-- an element before the cut comes before one behind it
pub cut_before : {X : Type 0} (R : X → X → Type 0) (ys zs : List X) (x y : X)
    → AllPairs R (ys ++ (x ∷ zs)) → Contains zs y → R x y
cut_before R [] zs x y p c = let (k, l, e) = c in
    subst (R x) (e) (p 0 (suc k) y (omega arith) (omega arith))
cut_before R (w ∷ ys) zs x y p c =
    cut_before R ys zs x y (λ i j d l h. p (suc i) (suc j) d (omega arith) (omega arith)) c

pub in_order : (L : Left) → IsInOrder L → IsNonDecreasing (heaps_of L)
in_order Nothing h = in_order_none
in_order (One a) h = in_order_one a
in_order (Two a b) h = in_order_two a b h
in_order (Three a b c) h = in_order_three a b c h.0 h.1

small_rises : (code : List ℕ) (n bound : ℕ) (H : List ℕ) → HeapOption code n H
    → IsSmallSplit bound H → IsNonDecreasing H
small_rises code n bound H (TakesAll j l h b) s = in_order Nothing tt
small_rises code n bound H (LeavesOne j a l p h b) s = in_order (One a) tt
small_rises code n bound H (LeavesTwo j a b p q h s) w = in_order (Two a b) w.0
small_rises code n bound H (LeavesThree j a b c p q r h s) w = in_order (Three a b c) (w.0, w.1)

small_up_to : (most : ℕ) (L : Left) → IsSmallSplit (most + 1) (heaps_of L) → IsPartUpTo most L
small_up_to most Nothing w = tt
small_up_to most (One a) w = tt
small_up_to most (Two a b) w = let l = w.1 in omega arith
small_up_to most (Three a b c) w = ((let l = w.2 in omega arith), (let l = w.3 in omega arith))

-- and the other way round, where the parts rise
pub up_to_small : (most : ℕ) (L : Left) → IsInOrder L → IsPartUpTo most L
    → IsSmallSplit (most + 1) (heaps_of L)
up_to_small most Nothing o w = tt
up_to_small most (One a) o w = tt
up_to_small most (Two a b) o w = (o, omega arith)
up_to_small most (Three a b c) o w = (o.0, o.1, let l = w.0 in omega arith, let l = w.1 in omega arith)

-- an option whose smaller part is small is listed
pub small_in : (code : List ℕ) (n most : ℕ) (H : List ℕ) → HeapOption code n H
    → IsSmallSplit (most + 1) H
    → (L : Left) × Contains (options_up_to code n most) L × (heaps_of L ≡ H)
small_in code n most H o w =
    let (L, i, s) = each code n H o in
    let same =
    rising_same (heaps_of L) H (in_order L (only code n n L i).1)
    (small_rises code n (most + 1) H o w) s in (
      L,
      (cut code n most L).1 (i, small_up_to most L (subst (IsSmallSplit (most + 1)) (sym same) w)),
      same,
    )
