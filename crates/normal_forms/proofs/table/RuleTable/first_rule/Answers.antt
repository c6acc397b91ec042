use Rattle.std.proofs.Common.{◌≡◌, ◌<◌, ◌+◌, ◌-◌, ◌*◌, inl, inr, subst, arith}
use Rattle.std.proofs.lemmas.Bool.{cases_lt}
use Rattle.normal_forms.specs.declared.table.TheConstants.{EACH}
use Rattle.normal_forms.specs.RuleTables.{IsUseless}
use Rattle.normal_forms.proofs.table.RuleTable.first_rule.Goals as goal

pub loop-g-preserved : goal.loop-g-preserved
loop-g-preserved g c = λ k lt d less.
    let start = c.loop-g.g * EACH in
    elim (cases_lt k start) [
      | inl below ↦ c.loop-g.invariant k below d less
      | inr from ↦
          let same : start + (k - start) ≡ k = omega (arith, from) in
          let inside : k - start < EACH = omega (arith, lt, from) in
          subst (λ j. IsUseless c.args.rules.now j c.args.word.now) same
          (c.first_of.ensures c.in_default.is (k - start) inside) d less
    ]
