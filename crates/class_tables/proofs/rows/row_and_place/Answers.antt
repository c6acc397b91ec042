use Rattle.presented_tables.proofs.Filled.{row-in, place-in-row}
use Rattle.class_tables.proofs.rows.row_and_place.Goals as goal

pub returns-clause-row_in : goal.returns-clause-row_in
returns-clause-row_in c = row-in c.args.k c.args.count c.args.width c.requires

pub returns-clause-place_in : goal.returns-clause-place_in
returns-clause-place_in c = place-in-row c.args.k c.args.count c.args.width c.requires
