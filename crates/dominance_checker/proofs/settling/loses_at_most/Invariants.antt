use Rattle.dominance_checker.proofs.settling.loses_at_most.Given as goal

abbrev pub invariant-loop-lost : goal.invariant-loop-lost
invariant-loop-lost l = Unit {0}
