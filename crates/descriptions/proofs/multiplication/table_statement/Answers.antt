use Rattle.std.proofs.Common.{append_assoc, refl}
use Rattle.descriptions.proofs.multiplication.table_statement.Goals as goal

pub returns : goal.returns
returns c = simp append_assoc (rw (c.in_ok-text.ensures.ok) refl)
