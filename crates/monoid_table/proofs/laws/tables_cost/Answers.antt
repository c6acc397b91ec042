use Rattle.monoid_table.proofs.Costs.{cost-spent, cost-some, cost-over, cost-refused, first-passes, first-fails, cost-table, cost-no-table}
use Rattle.monoid_table.proofs.laws.tables_cost.Goals as goal

pub returns : goal.returns
returns c = record {
  spent = λ n g. cost-spent g n;
  some = cost-some;
  over = λ n g. cost-over g n;
  refused = λ n g. cost-refused g n;
  first = λ i g. first-passes g i;
  fails = first-fails;
  table = cost-table;
  no_table = cost-no-table;
}
