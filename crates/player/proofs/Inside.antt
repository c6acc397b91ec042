-- Plays never leave the positions whose heaps count.
use Rattle.std.proofs.Common.{List, ℕ}
use Rattle.misere_theory.specs.Certificates.{Certificate, IsHeapOf, kind_of}
use Rattle.misere_theory.specs.Games.{IsPosition, Move, HeapMove}
use Rattle.misere_theory.specs.Plays.{IsHanded}
use Rattle.misere_theory.specs.Plays.IsHanded.{AtOnce, Later}
use Rattle.misere_theory.proofs.Counting.{kept_in}
use Rattle.misere_theory.proofs.Shuffles.{from_permutation, position_shuffled, back}
use Rattle.misere_theory.proofs.Sums.{move_kept, IsPosition-append}

module _ (c : Certificate) where
  pub moved : (X Y : List ℕ) → IsPosition (IsHeapOf c) X → Move c.code X Y
      → IsPosition (IsHeapOf c) Y
  moved X Y p m = move_kept (IsHeapOf c) c.code (kept_in (kind_of c) c.code) m p

  heap_moved : (X Y : List ℕ) (n : ℕ) (H : List ℕ) → HeapMove c.code X n H Y
      → IsPosition (IsHeapOf c) X → IsPosition (IsHeapOf c) Y
  heap_moved X Y n H m p =
      let q = position_shuffled (IsHeapOf c) (from_permutation X _ m.before) p in
      position_shuffled (IsHeapOf c) (back (from_permutation Y _ m.after))
      (IsPosition-append (IsHeapOf c) H m.others
      (kept_in (kind_of c) c.code n H q.0 m.allowed) q.1)

  pub handed : {X Z : List ℕ} → IsPosition (IsHeapOf c) X → IsHanded c.code X Z
      → IsPosition (IsHeapOf c) Z
  handed p AtOnce = p
  handed p (Later {W = W} {Y = Y} {Z = Z} h m a) =
      heap_moved Y Z a.0 a.1 a.3 (moved W Y (handed p h) m)
