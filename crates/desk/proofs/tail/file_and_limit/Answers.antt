use Rattle.desk.proofs.Lines.{no_limit}
use Rattle.desk.proofs.tail.file_and_limit.Goals as goal

pub returns-in_err-limit : goal.returns-in_err-limit
returns-in_err-limit c =
    rw c.from_residual-in_err-limit.ensures
    (no_limit c.args.tail.now c.in_ok-file.file.now c.in_ok-file.limit.now c.in_ok-file.ensures.0
    c.in_ok-file.ensures.1 c.in_err-limit.ensures.none)
