use Rattle.dominance.specs.Finite.{is_listed}
use Rattle.dominance.proofs.Finite.{elements, tested_all}
use Rattle.dominance.proofs.Tested.{predicts as predicts_outcomes}
use Rattle.dominance.proofs.Wins.{small_wins}
use Rattle.dominance.proofs.finitely_many_tests_are_enough.Goals as goal

pub returns : goal.returns
returns g = record {
  tests = tested_all;
  predict = λ code label kinds kept e tested. record {
    elements = elements code label kinds kept e tested;
    predicts = predicts_outcomes code (is_listed e.start) label kinds kept
        (tested_all code label kinds kept e tested);
  };
  wins = λ code label kinds kept e tested.
      small_wins code e.start label kinds kept (tested_all code label kinds kept e tested);
}
