use Rattle.std.proofs.Common.{ℕ, List, Bor, drop, map}
use Rattle.command_results.proofs.LineLaws.{Answered}
use Rattle.solve_command.specs.Many.{AnswersCodes}
use Rattle.solve_command.proofs.many.words_answers.Given as goal

abbrev pub invariant-loop-word : goal.invariant-loop-word
invariant-loop-word l =
    Answered (AnswersCodes l.bounds) (map (λ (w : Bor (List ℕ)). w.now) l.words)
    (map (λ (w : Bor (List ℕ)). w.now) (drop l.word-index l.words)) l.text.items l.succeeds
