use Rattle.std.proofs.Common.{◌≡◌, ◌+◌, ◌≤◌, ℕ, List, ◌++◌, length, IsPermutation}
use Rattle.misere_theory.specs.Certificates.{Certificate, IsSpelled}
use Rattle.answers.proofs.spelling.position_of.Given as goal

abbrev pub invariant-loop-reached : goal.invariant-loop-reached
invariant-loop-reached g l =
    (l.reached ≤ length l.words)
    × ((path : List ℕ)
    × IsPermutation path l.position
    × ((c : Certificate) → c.words ≡ l.words → (Y : List ℕ) → IsSpelled c l.reached Y
    → IsSpelled c l.fn.element (path ++ Y)))
    × ((c : Certificate) → c.words ≡ l.words → (X : List ℕ) → IsSpelled c l.fn.element X
    → (Y : List ℕ) × IsSpelled c l.reached Y × (length X ≡ length l.position + length Y))

abbrev pub decreases-loop-reached : goal.decreases-loop-reached
decreases-loop-reached g l = l.reached
