use Rattle.std.proofs.Common.{◌-◌, ◌*◌, sym, ◌∙◌, subst}
use Rattle.std.specs.Prelude.{IsTrue}
use Rattle.std.specs.FinSet as set
use Rattle.normal_forms.specs.declared.table.TheConstants.{EACH}
use Rattle.normal_forms.specs.RuleTables.{AreUseless}
use Rattle.normal_forms.proofs.RuleTables.{row-useless, union-useless, in-none}
use Rattle.normal_forms.proofs.table.RuleTable.useless.Goals.{in-Some, in_default}
use Rattle.normal_forms.proofs.table.RuleTable.useless.Goals as goal

pub loop-i-init : goal.loop-i-init
loop-i-init g c = λ x inside.
    absurd (in-none x (subst (λ s. IsTrue (set.contains s x)) c.new-useless.ensures inside))

pub loop-i-preserved : goal.loop-i-preserved
loop-i-preserved g c =
    let rules = c.args.rules.now in
    let word = c.args.word.now in
    let start = c.args.g * EACH in
    elim c.match-row_for.branch [
      | in-Some w ↦
          subst (AreUseless rules start word) (sym (w.useless-is ∙ w.union_with.ensures))
          (union-useless rules start word c.loop-i.useless w.in-Some.row.now c.loop-i.invariant
          (row-useless rules start c.loop-i.i word w.in-Some.row.now c.loop-i-test.true w.in-Some.ensures))
      | in_default w ↦ subst (AreUseless rules start word) (sym w.useless-is) c.loop-i.invariant
    ]
