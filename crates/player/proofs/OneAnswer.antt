-- Two right answers in a position are one.
use Rattle.std.proofs.Common.{◌≡◌, ℕ, List, [], ◌∷◌, refl, sym, ◌∙◌, ap, ap₂}
use Rattle.misere_theory.proofs.Wins.{first_win_once}
use Rattle.heap_options.specs.Exact.{heaps_of}
use Rattle.heap_options.specs.declared.left.Left.{Left}
use Rattle.heap_options.specs.declared.left.Left.TheVariants.{Nothing, One, Two, Three}
use Rattle.positions.specs.declared.moves.Move.{Move as MoveMade}
use Rattle.player.specs.Answers.{IsRightAnswer}
use Rattle.player.specs.declared.answering.Answer.{Answer}
use Rattle.player.specs.declared.answering.Answer.TheVariants.{Ended, Lost, Wins}

abbrev left_of : List ℕ → Left
left_of [] = Nothing
left_of (a ∷ []) = One a
left_of (a ∷ b ∷ []) = Two a b
left_of (a ∷ b ∷ c ∷ X) = Three a b c

back : (l : Left) → left_of (heaps_of l) ≡ l
back Nothing = refl
back (One a) = refl
back (Two a b) = refl
back (Three a b c) = refl

moves_one : (m k : MoveMade) → m.heap ≡ k.heap → m.left ≡ k.left → m ≡ k
moves_one m k e f = ap₂ (λ (n : ℕ) (l : Left). record { heap = n; left = l }) e f

pub answers_one : (code X : List ℕ) (a b : Answer) → IsRightAnswer code X a → IsRightAnswer code X b
    → a ≡ b
answers_one code X Ended b f g = sym (g.ended.1 (f.ended.0 refl))
answers_one code X Lost b f g = sym (g.lost.1 (f.lost.0 refl))
answers_one code X (Wins m) Ended f g = f.ended.1 (g.ended.0 refl)
answers_one code X (Wins m) Lost f g = f.lost.1 (g.lost.0 refl)
answers_one code X (Wins m) (Wins k) f g =
    let one =
    first_win_once code X m.heap k.heap (heaps_of m.left) (heaps_of k.left)
    (f.wins m refl).first (g.wins k refl).first in
    ap Wins (moves_one m k one.0 (sym (back m.left) ∙ ap left_of one.1 ∙ back k.left))
