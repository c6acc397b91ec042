use Rattle.std.proofs.Common.{◌*◌}
use Rattle.normal_forms.specs.declared.table.TheConstants.{EACH}
use Rattle.normal_forms.specs.RuleTables.{AreUseless}
use Rattle.normal_forms.proofs.table.RuleTable.useless.Given as goal

abbrev pub invariant-loop-i : goal.invariant-loop-i
invariant-loop-i g l = AreUseless l.rules (l.g * EACH) l.word l.useless
