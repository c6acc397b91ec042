use Rattle.std.proofs.Common.{map}
use Rattle.quotient_finder.specs.Rounds.{HasComeTo}
use Rattle.quotient_finder.proofs.rounds.ask_each.Given as goal

-- the round has come to the index
abbrev pub invariant-loop-proposer : goal.invariant-loop-proposer
invariant-loop-proposer g l =
    HasComeTo l.code l.heaps l.members l.proposer-index l.has_drafted
    (map g.P.Proposer.history l.initial.proposers)
    (map g.P.Proposer.history l.proposers)
