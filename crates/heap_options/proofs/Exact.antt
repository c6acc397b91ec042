-- The list of options has each option of the heap once.
use Rattle.std.proofs.Common.{◌≡◌, ℕ, inl, inr, List, refl, sym, subst, arith}
use Rattle.std.specs.List.{AllPairs, Contains}
use Rattle.std.specs.List.Sorted.{IsPermutation, IsNonDecreasing}
use Rattle.std.proofs.lemmas.List.Elements.{All-contains_itself}
use Rattle.misere_theory.specs.Games.{HeapOption}
use Rattle.misere_theory.specs.Games.HeapOption.{Nothing as TakesAll, One as LeavesOne, Two as LeavesTwo, Three as LeavesThree}
use Rattle.misere_theory.specs.Plays.{LeftBefore}
use Rattle.misere_theory.proofs.InOrder.{put_in_order, in_order_none, in_order_one, in_order_two, in_order_three}
use Rattle.misere_theory.proofs.Shuffles.{back, to_permutation}
use Rattle.heap_options.specs.Options.{options_of, options_up_to}
use Rattle.heap_options.proofs.OptionLaws.{in_all, only}
use Rattle.misere_theory.proofs.RisingLists.{rising_same}
use Rattle.heap_options.specs.Exact.{heaps_of, IsInOrder}
use Rattle.heap_options.specs.declared.left.Left.{Left}
use Rattle.heap_options.specs.declared.left.Left.TheVariants.{Nothing, One, Two, Three}
use Rattle.heap_options.proofs.Rising.{Before, rising}

-- an option whose parts rise is listed as it is
in_order_listed : (code : List ℕ) (n : ℕ) (H : List ℕ) → HeapOption code n H → IsNonDecreasing H
    → (L : Left) × Contains (options_of code n) L × (heaps_of L ≡ H)
in_order_listed code n H (TakesAll j l h b) w =
    (Nothing, in_all code n j Nothing (l, h, b), refl)
in_order_listed code n H (LeavesOne j a l p h b) w =
    (One a, in_all code n j (One a) (l, p, h, b), refl)
in_order_listed code n H (LeavesTwo j a c p q h b) w =
    (Two a c, in_all code n j (Two a c) (p, w 0 1 0 (omega arith) (omega arith), h, b), refl)
in_order_listed code n H (LeavesThree j a c d p q r h b) w = (
  Three a c d,
  in_all code n j (Three a c d)
      (p, w 0 1 0 (omega arith) (omega arith), w 1 2 0 (omega arith) (omega arith), h, b),
  refl,
)

pub each : (code : List ℕ) (n : ℕ) (H : List ℕ) → HeapOption code n H
    → (L : Left) × Contains (options_of code n) L × IsPermutation (heaps_of L) H
each code n H o =
    let (K, i, w, s) = put_in_order o in
    let (L, c, e) = in_order_listed code n K i w in
    (L, c, subst (λ M. IsPermutation M H) (sym e) (to_permutation (back s)))

-- no order of the one's heaps is the other's
abbrev pub Apart : Left → Left → Type 0
Apart L M = IsPermutation (heaps_of L) (heaps_of M) → ⊥

parts_rise : (L : Left) → IsInOrder L → IsNonDecreasing (heaps_of L)
parts_rise Nothing h = in_order_none
parts_rise (One a) h = in_order_one a
parts_rise (Two a b) h = in_order_two a b h
parts_rise (Three a b c) h = in_order_three a b c h.0 h.1

none_before_itself : (H : List ℕ) → LeftBefore H H → ⊥
none_before_itself H before = elim before [
  | inl l ↦ omega arith
  | inr (_, inl l) ↦ omega arith
  | inr (_, inr (_, inl l)) ↦ omega arith
  | inr (_, inr (_, inr (_, l))) ↦ omega arith
]

before_apart : (L M : Left) → IsInOrder L → IsInOrder M → Before L M → Apart L M
before_apart L M v w before same =
    let e = rising_same (heaps_of L) (heaps_of M) (parts_rise L v) (parts_rise M w) same in
    none_before_itself (heaps_of M) (subst (λ H. LeftBefore H (heaps_of M)) e before)

pub once : (code : List ℕ) (n most : ℕ) → AllPairs Apart (options_up_to code n most)
once code n most i j d l h =
    let inside = All-contains_itself (options_up_to code n most) in
    before_apart _ _ (only code n most _ (inside i d (omega arith))).1
    (only code n most _ (inside j d h)).1 (rising code n most i j d l h)
