use Rattle.std.proofs.Common.{rules, refl, sym, subst, arith}
use Rattle.transition_algebra.specs.Trials.{IsTrial}
use Rattle.transition_algebra.specs.Heaps.{bound_of}
use Rattle.transition_algebra.proofs.Finished.{all_units, finished}
use Rattle.transition_algebra.proofs.Within.{all_in}
use Rattle.transition_algebra.proofs.OneList.{all_pairs}
use Rattle.transition_algebra.proofs.heaps.heap_pairs.Goals as goal

pub returns-clause-exact : goal.returns-clause-exact
returns-clause-exact g c =
    let all =
    all_units c.args.code.now c.args.phi.now c.new-trial.result.spent c.advance.new.self.spent
    c.is_code.ensures.code c.is_pretending.ensures (c.in_ok-advance.ensures.all refl) in
    finished c.args.code.now c.args.table.now c.is_monoid.ensures.monoid c.args.phi.now
    c.is_pretending.ensures c.requires.into c.advance.new.self c.advance.new.pairs.items
    c.in_ok-advance.ensures.goes_on.trial all

pub returns-clause-within : goal.returns-clause-within
returns-clause-within g c =
    let all =
    all_units c.args.code.now c.args.phi.now c.new-trial.result.spent c.advance.new.self.spent
    c.is_code.ensures.code c.is_pretending.ensures (c.in_ok-advance.ensures.all refl) in
    all_in c.args.table.now c.is_monoid.ensures.monoid c.args.phi.now c.requires.into c.args.code.now
    (bound_of c.args.code.now c.args.phi.now) c.advance.new.pairs.items (omega arith)
    (finished c.args.code.now c.args.table.now c.is_monoid.ensures.monoid c.args.phi.now
    c.is_pretending.ensures c.requires.into c.advance.new.self c.advance.new.pairs.items
    c.in_ok-advance.ensures.goes_on.trial all)

pub returns-clause-made : goal.returns-clause-made
returns-clause-made g c =
    let all =
    all_units c.args.code.now c.args.phi.now c.new-trial.result.spent c.advance.new.self.spent
    c.is_code.ensures.code c.is_pretending.ensures (c.in_ok-advance.ensures.all refl) in
    all_pairs c.args.code.now c.args.table.now c.is_monoid.ensures.monoid c.args.phi.now
    c.is_pretending.ensures c.requires.into c.advance.new.pairs.items
    (finished c.args.code.now c.args.table.now c.is_monoid.ensures.monoid c.args.phi.now
    c.is_pretending.ensures c.requires.into c.advance.new.self c.advance.new.pairs.items
    c.in_ok-advance.ensures.goes_on.trial all)

pub advance-requires : goal.advance-requires
advance-requires g c = (
  search rules,
  (
    search rules,
    (
      search rules,
      record {
        trial = subst (IsTrial c.args.code.now c.args.table.now c.args.phi.now c.new-trial.result)
            (sym c.new-pairs.ensures.items) (c.new-trial.ensures.trial c.args.table.now);
        kept = c.new-cut_values.ensures c.args.table.now c.args.phi.now;
      },
    ),
  ),
)
