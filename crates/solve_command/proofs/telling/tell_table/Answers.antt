use Rattle.solve_command.proofs.ToldTexts.{fault_is_other, fault_told}
use Rattle.solve_command.proofs.telling.tell_table.Goals as goal

pub returns-clause-tells : goal.returns-clause-tells
returns-clause-tells c =
    fault_told c.args.table.now c.args.limit c.in-Err.fault c.refuse.result c.in-Err.ensures.refused
    c.refuse.ensures.text c.refuse.ensures.status

pub returns-clause-others : goal.returns-clause-others
returns-clause-others c =
    fault_is_other c.in-Err.fault c.refuse.result c.refuse.ensures.text c.refuse.ensures.status
