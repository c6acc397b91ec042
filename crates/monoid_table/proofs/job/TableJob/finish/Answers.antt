use Rattle.std.proofs.Common.{ap, ◌∙◌}
use Rattle.monoid_table.specs.Faults.{answer_of}
use Rattle.monoid_table.proofs.Checked.{finished}
use Rattle.monoid_table.proofs.job.TableJob.finish.Goals as goal

pub from_checked-requires : goal.from_checked-requires
from_checked-requires g c =
    finished _ _ _ _ c.self.invariant.looked (ap answer_of c.self.view_is ∙ c.requires)
