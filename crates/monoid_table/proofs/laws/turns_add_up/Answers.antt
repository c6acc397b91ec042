use Rattle.monoid_table.proofs.TurnLaws.{turns-add, turns-grid, turns-over, turns-spend}
use Rattle.monoid_table.proofs.laws.turns_add_up.Goals as goal

pub returns : goal.returns
returns c = record {
  cut = turns-add;
  rows = turns-grid;
  ended = turns-over;
  spends = λ n s. (turns-spend n s).1;
  at_most = λ n s. (turns-spend n s).0;
}
