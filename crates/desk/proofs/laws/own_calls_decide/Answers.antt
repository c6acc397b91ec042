use Rattle.std.proofs.Common.{refl}
use Rattle.desk.specs.Runs.{nothing_open}
use Rattle.desk.proofs.RunLaws.{alone_from, runs_one}
use Rattle.desk.proofs.laws.own_calls_decide.Goals as goal

pub returns-clause-alone : goal.returns-clause-alone
returns-clause-alone c = λ cost verdict calls replies end client run free.
    alone_from c.right_answers_are_one.ensures cost verdict calls replies nothing_open nothing_open
    end client refl run free

pub returns-clause-only : goal.returns-clause-only
returns-clause-only c =
    λ cost verdict calls a b f g. runs_one c.right_answers_are_one.ensures cost verdict calls a b
    nothing_open f.0 g.0 f.1 g.1
