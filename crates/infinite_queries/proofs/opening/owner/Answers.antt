use Rattle.std.proofs.Common.{refl, arith, inl}
use Rattle.answers.specs.InfiniteAnswers.{Memory}
use Rattle.infinite_queries.proofs.opening.owner.Goals as goal

pub returns-in-Err-clause-no : goal.returns-in-Err-clause-no
returns-in-Err-clause-no c = (λ e. absurd (omega (arith, e)), (Memory, refl, inl tt))
