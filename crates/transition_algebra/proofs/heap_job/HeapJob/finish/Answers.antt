use Rattle.std.proofs.Common.{◌≡◌, sym, subst, arith}
use Rattle.std.specs.List.{All}
use Rattle.transition_algebra.specs.Pairs.{IsPair}
use Rattle.transition_algebra.specs.Heaps.{AreAllHeapPairs, all_heap_pairs, bound_of}
use Rattle.transition_algebra.specs.Work.{IsDone}
use Rattle.transition_algebra.proofs.Finished.{finished}
use Rattle.transition_algebra.proofs.Within.{all_in}
use Rattle.transition_algebra.proofs.OneList.{all_pairs}
use Rattle.transition_algebra.proofs.heap_job.HeapJob.finish.Goals as goal

pub returns-clause-exact : goal.returns-clause-exact
returns-clause-exact g c =
    let j = c.self.inside in
    subst (λ v. AreAllHeapPairs v.code v.table v.phi j.pairs.items) c.self.view_is
    (finished j.code j.table c.is_monoid.ensures.monoid j.phi c.is_pretending.ensures
    c.self.invariant.1 j.trial j.pairs.items c.self.invariant.2
    (subst IsDone (sym c.self.view_is) c.requires))

pub returns-clause-within : goal.returns-clause-within
returns-clause-within g c =
    let j = c.self.inside in
    subst (λ v. All (IsPair v.table.order) j.pairs.items) c.self.view_is
    (all_in j.table c.is_monoid.ensures.monoid j.phi c.self.invariant.1 j.code
    (bound_of j.code j.phi) j.pairs.items (omega arith)
    (finished j.code j.table c.is_monoid.ensures.monoid j.phi c.is_pretending.ensures
    c.self.invariant.1 j.trial j.pairs.items c.self.invariant.2
    (subst IsDone (sym c.self.view_is) c.requires)))

pub returns-clause-made : goal.returns-clause-made
returns-clause-made g c =
    let j = c.self.inside in
    subst (λ v. j.pairs.items ≡ all_heap_pairs v.code v.table v.phi) c.self.view_is
    (all_pairs j.code j.table c.is_monoid.ensures.monoid j.phi c.is_pretending.ensures
    c.self.invariant.1 j.pairs.items
    (finished j.code j.table c.is_monoid.ensures.monoid j.phi c.is_pretending.ensures
    c.self.invariant.1 j.trial j.pairs.items c.self.invariant.2
    (subst IsDone (sym c.self.view_is) c.requires)))
