use Rattle.certificate_text.proofs.Rows.{rows_take}
use Rattle.certificate_text.proofs.rows_lie_flat.Goals as goal

pub returns-clause-count : goal.returns-clause-count
returns-clause-count g order n b xs rest low small e =
    (rows_take order n b xs rest low small e).3

pub returns-clause-whole : goal.returns-clause-whole
returns-clause-whole g order n b xs rest low small e =
    (rows_take order n b xs rest low small e).4
