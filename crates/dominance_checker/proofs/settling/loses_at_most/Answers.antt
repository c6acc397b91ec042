use Rattle.std.proofs.Common.{rules, arith, ◌≤◌, true, false}
use Rattle.dominance_checker.proofs.settling.loses_at_most.Goals as goal

pub returns-then-weight-lost : goal.returns-then-weight-lost
returns-then-weight-lost c =
    λ _ all. let l : c.loop-lost.lost ≤ c.args.weight = all (false, c.loop-lost.lost) (search rules) in
    omega arith

pub returns-then-weight-lost-2 : goal.returns-then-weight-lost-2
returns-then-weight-lost-2 c =
    λ _ all. let l : c.loop-lost.lost ≤ c.args.weight = all (true, c.loop-lost.lost) (search rules) in
    omega arith
