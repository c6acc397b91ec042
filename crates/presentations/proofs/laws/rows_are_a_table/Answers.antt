use Rattle.presentations.proofs.Elements.{is-table}
use Rattle.presentations.proofs.laws.rows_are_a_table.Goals as goal

pub returns : goal.returns
returns c = λ axes relations classes firsts keys products rows. is-table
