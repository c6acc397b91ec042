-- Labels of positions in any order.
use Rattle.std.proofs.Common.{◌≡◌, ℕ, suc, ◌+◌, ◌-◌, ◌<◌, ◌≤◌, ◌/◌, ◌↔◌, Bool, true, false, List, ◌++◌, length, append_assoc, sym, ◌∙◌, ap, subst, arith}
use Rattle.std.specs.Prelude.{take, drop, IsTrue}
use Rattle.std.specs.List.{remove}
use Rattle.std.specs.List.Sorted.{IsPermutation}
use Rattle.std.proofs.Math.Seq.{take-add}
use Rattle.std.proofs.lemmas.List.{drop-drop, take-append-drop, length-append, length-take, length-drop}
use Rattle.std.proofs.lemmas.List.Sorted.{IsPermutation-sym, IsPermutation-trans, IsPermutation-append_left, IsPermutation-append_right, IsPermutation-append_comm, length_permutation}
use Rattle.misere_theory.specs.Games.{IsP}
use Rattle.heap_options.specs.Exact.{heaps_of}
use Rattle.heap_options.specs.declared.left.Left.{Left}
use Rattle.heap_options.specs.declared.left.Left.TheVariants.{Nothing, One, Two, Three}
use Rattle.misere_theory.proofs.Shuffles.{from_permutation, p_shuffled}
use Rattle.player.specs.Wins.{other_heaps}

-- heaps put between others
between : (P M S Y : List ℕ) → IsPermutation (P ++ S) Y → IsPermutation (P ++ (M ++ S)) (Y ++ M)
between P M S Y h =
    IsPermutation-trans _ _ _ (IsPermutation-append_right P (M ++ S) (S ++ M) (IsPermutation-append_comm M S))
    (subst (λ Z. IsPermutation Z (Y ++ M)) (append_assoc P S M) (IsPermutation-append_left M (P ++ S) Y h))

module _ (X : List ℕ) (from middle to : ℕ) (a : from ≤ middle) (z : middle ≤ to) (Y : List ℕ)
    (same : IsPermutation (other_heaps X from to) Y) where
  -- beside the first half are the second half and those beside both
  pub beside_first : IsPermutation (other_heaps X from middle) (Y ++ take (to - middle) (drop middle X))
  beside_first =
      let M = take (to - middle) (drop middle X) in
      let s : middle + (to - middle) ≡ to = omega arith in
      let joined : M ++ drop to X ≡ drop middle X =
      ap (λ Z. M ++ Z) (sym (drop-drop (to - middle) middle X ∙ ap (λ k. drop k X) s))
      ∙ take-append-drop (to - middle) (drop middle X) in
      subst (λ Z. IsPermutation (take from X ++ Z) (Y ++ M)) joined (between (take from X) M (drop to X) Y same)

  pub beside_second : IsPermutation (other_heaps X middle to) (Y ++ take (middle - from) (drop from X))
  beside_second =
      let M = take (middle - from) (drop from X) in
      let s : from + (middle - from) ≡ middle = omega arith in
      let joined : take from X ++ M ≡ take middle X =
      sym (take-add from (middle - from) X) ∙ ap (λ k. take k X) s in
      subst (λ Z. IsPermutation Z (Y ++ M))
      (sym (append_assoc (take from X) M (drop to X)) ∙ ap (λ Z. Z ++ drop to X) joined)
      (between (take from X) M (drop to X) Y same)

-- an outcome is known in any order of the heaps
module _ (code H X Y : List ℕ) (same : IsPermutation X Y) (b : Bool) (known : IsTrue b ↔ IsP code (H ++ Y)) where
  pub p_beside : b ≡ true → IsP code (H ++ X)
  p_beside e =
      p_shuffled (known.0 e)
      (from_permutation (H ++ Y) (H ++ X) (IsPermutation-append_right H Y X (IsPermutation-sym X Y same)))

  pub not_p_beside : b ≡ false → IsP code (H ++ X) → ⊥
  not_p_beside e p =
      let t = known.1 (p_shuffled p
      (from_permutation (H ++ X) (H ++ Y) (IsPermutation-append_right H X Y same))) in cc

short_left : (L : Left) → length (heaps_of L) ≤ 3
short_left Nothing = omega arith
short_left (One a) = omega arith
short_left (Two a b) = omega arith
short_left (Three a b c) = omega arith

-- what a move makes of a list in memory isn't too long
pub short : (X : List ℕ) (i : ℕ) (L : Left) (Y : List ℕ) → length X < 18446744073709551616
    → IsPermutation (remove X i) Y → length (heaps_of L ++ Y) ≤ 18446744073709551620
short X i L Y few same =
    let a = length-append (heaps_of L) Y in
    let b = short_left L in
    let c = length_permutation (remove X i) Y same in
    let d = length-append (take i X) (drop (suc i) X) in
    let e = length-take i X in
    let f = length-drop (suc i) X in
    omega arith

pub halves : (from to : ℕ) → from < to → (from + 1 ≡ to → ⊥)
    → (from < from + (to - from) / 2) × (from + (to - from) / 2 < to)
halves from to some n = (omega arith, omega arith)
