use Rattle.std.proofs.Common.{rules}
use Rattle.catalogue_command.proofs.tabling.table_of.Goals as goal

pub returns-in_ok-text-in-Err : goal.returns-in_ok-text-in-Err
returns-in_ok-text-in-Err c = search rules
