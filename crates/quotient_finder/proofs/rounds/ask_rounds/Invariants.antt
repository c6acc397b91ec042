use Rattle.std.proofs.Common.{map}
use Rattle.quotient_finder.specs.Rounds.{HasRounds}
use Rattle.quotient_finder.proofs.rounds.ask_rounds.Given as goal

-- so many rounds are over
abbrev pub invariant-loop : goal.invariant-loop
invariant-loop g l =
    HasRounds l.code l.heaps l.limits.members l.counter
    (map g.P.Proposer.history l.initial.proposers)
    (map g.P.Proposer.history l.proposers)
