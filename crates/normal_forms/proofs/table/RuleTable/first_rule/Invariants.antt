use Rattle.std.proofs.Common.{◌<◌, ◌*◌, ℕ}
use Rattle.normal_forms.specs.declared.table.TheConstants.{EACH}
use Rattle.normal_forms.specs.RuleTables.{IsUseless}
use Rattle.normal_forms.proofs.table.RuleTable.first_rule.Given as goal

abbrev pub invariant-loop-g : goal.invariant-loop-g
invariant-loop-g g l = (k : ℕ) → k < l.g * EACH → IsUseless l.rules k l.word
