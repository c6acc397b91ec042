use Rattle.std.proofs.Common.{arith}
use Rattle.transition_algebra.specs.Heaps.{bound_of, all_heap_pairs}
use Rattle.transition_algebra.proofs.Within.{all_in}
use Rattle.transition_algebra.proofs.OneList.{all_are_pairs, only_pairs, turned_pairs}
use Rattle.transition_algebra.proofs.laws.heap_pairs_are_one_list.Goals as goal

pub returns-clause-exact : goal.returns-clause-exact
returns-clause-exact g = λ code table phi lawful pretending into.
    let are = all_are_pairs code table lawful.monoid phi pretending into in (
      are,
      all_in table lawful.monoid phi into code (bound_of code phi)
          (all_heap_pairs code table phi) (omega arith) are,
    )

pub returns-clause-only : goal.returns-clause-only
returns-clause-only g = λ code table phi c pairs lawful pretending into.
    only_pairs code table lawful.monoid phi pretending into c pairs

pub returns-clause-turned : goal.returns-clause-turned
returns-clause-turned g =
    λ code table phi lawful pretending into. turned_pairs code table lawful.monoid phi pretending
    into
