-- Each answer is right where it is given.
use Rattle.std.proofs.Common.{ℕ, inl, inr, List, refl, ap, subst}
use Rattle.misere_theory.specs.Games.{Move, IsN}
use Rattle.misere_theory.specs.Plays.{IsWinningMove}
use Rattle.misere_theory.proofs.Outcomes.{not_both}
use Rattle.misere_theory.proofs.Shuffles.{move_from_multiset}
use Rattle.misere_theory.proofs.Wins.{winning_leads, first_win, wins_at_n, p_keeps}
use Rattle.heap_options.specs.Exact.{heaps_of}
use Rattle.positions.specs.declared.moves.Move.{Move as MoveMade}
use Rattle.player.specs.Answers.{WinsBy, IsAnswerBy}
use Rattle.player.specs.declared.answering.Answer.{Answer}
use Rattle.player.specs.declared.answering.Answer.TheVariants.{Ended, Lost, Wins}

made_of : MoveMade → Answer → MoveMade
made_of d Ended = d
made_of d Lost = d
made_of d (Wins m) = m

module _ (is_first : ℕ → List ℕ → Type 0) (code X : List ℕ) where
  pub wins_right : (m : MoveMade) → IsWinningMove code X m.heap (heaps_of m.left)
      → is_first m.heap (heaps_of m.left) → IsAnswerBy is_first code X (Wins m)
  unfolding made_of
  wins_right m wins first = record {
    ended = (
      λ e. absurd (cc),
      λ none. let (Y, move, p) =
          move_from_multiset code X wins.1.0 (m.heap, heaps_of m.left, wins.1.1) in absurd (none Y move),
    );
    lost = (λ e. absurd (cc), λ p. absurd (not_both p (wins_at_n code X m.heap (heaps_of m.left) wins)));
    wins =
        λ k e. subst (WinsBy is_first code X) (ap (made_of m) e)
        (record { first = first; keeps = λ Y move. p_keeps code Y (winning_leads wins move) });
  }

  pub ended_right : IsN code X → ((n : ℕ) (H : List ℕ) → IsWinningMove code X n H → ⊥)
      → IsAnswerBy is_first code X Ended
  ended_right at_n none = record {
    ended = (λ e. no_moves, λ h. refl);
    lost = (λ e. absurd (cc), λ p. absurd (not_both p at_n));
    wins = λ m e. absurd (cc);
  }
    where
      no_moves : (Y : List ℕ) → Move code X Y → ⊥
      no_moves = elim (first_win code X at_n) [
        | inl h ↦ h
        | inr h ↦ let (n, H, w) = h in
            absurd (none n H w.0)
      ]

-- what is first in one way may be first in another
pub answers_by : {P Q : ℕ → List ℕ → Type 0} (code X : List ℕ) (a : Answer) → ((n : ℕ) (H : List ℕ) → P n H → Q n H)
    → IsAnswerBy P code X a → IsAnswerBy Q code X a
answers_by code X a f r = record {
  ended = r.ended;
  lost = r.lost;
  wins = λ m e. let w = r.wins m e in record { first = f m.heap (heaps_of m.left) w.first; keeps = w.keeps };
}
