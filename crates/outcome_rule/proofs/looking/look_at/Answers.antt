use Rattle.std.proofs.Common.{◌≡◌, ◌∙◌, Bool, ℕ, List, true, false, refl, sym, slice_index, subst}
use Rattle.heap_options.specs.Exact.{heaps_of}
use Rattle.heap_options.specs.Options.{options_of}
use Rattle.outcome_rule.specs.Looks.{replaced}
use Rattle.outcome_rule.proofs.Looked.{IsPassed, at_end, item, one_on, passed_more, leads_in, look_is, told}
use Rattle.outcome_rule.proofs.looking.look_at.Goals as goal

pub loop-left-init : goal.loop-left-init
loop-left-init g c = record {
  whole = c.into_iter-left-iterator.ensures.into_iter_gives ∙ c.options-left-items.ensures;
  passed = λ says s. refl;
}

pub returns-in-Some-true : goal.returns-in-Some-true
returns-in-Some-true g c = λ says s.
    let X = c.args.heaps.now in
    let k = c.args.k in
    let options = options_of c.args.code.now (slice_index X k) in
    leads_in c.args.code.now says (g.met.S.SaysOutcomes.in_any_order c.args.claim.now says s) X k
    (c.options_are_exact.ensures.each c.args.code.now) (c.options_are_exact.ensures.only c.args.code.now) c.in-Some.left
    (item c.loop-left.yielded c.loop-left.left-iterator options c.loop-left.invariant.whole c.in-Some.left c.next.new.self
    c.in-Some.ensures.steps)
    (sym (told
    (λ b. (says : List ℕ → Bool) → g.S.SaysOutcomes.are_said c.args.claim.now says
    → b ≡ says (replaced X k (heaps_of c.in-Some.left)))
    c.in_ok-says_behind.field-0 c.in-Some-true.field-0 true c.in-Some-true.is c.in-Some-true.field-0-test
    c.in_ok-says_behind.ensures says s))

pub loop-left-preserved : goal.loop-left-preserved
loop-left-preserved g c = record {
  whole =
      one_on c.loop-left.yielded c.loop-left.left-iterator
      (options_of c.args.code.now (slice_index c.args.heaps.now c.args.k)) c.loop-left.invariant.whole c.in-Some.left
      c.next.new.self c.in-Some.ensures.steps;
  passed =
      λ says s.
      passed_more says c.args.heaps.now c.args.k c.loop-left.yielded c.in-Some.left c.loop-left.found
      (c.loop-left.invariant.passed says s)
      (sym (told
      (λ b. (says : List ℕ → Bool) → g.S.SaysOutcomes.are_said c.args.claim.now says
      → b ≡ says (replaced c.args.heaps.now c.args.k (heaps_of c.in-Some.left)))
      c.in_ok-says_behind.field-0 c.in-Some-false.field-0 false c.in-Some-false.is c.in-Some-false.field-0-test
      c.in_ok-says_behind.ensures says s));
}

pub returns : goal.returns
returns g c = λ says s.
    let X = c.args.heaps.now in
    let k = c.args.k in
    let options = options_of c.args.code.now (slice_index X k) in
    look_is c.args.code.now says (g.met.S.SaysOutcomes.in_any_order c.args.claim.now says s) X k
    (c.options_are_exact.ensures.each c.args.code.now) (c.options_are_exact.ensures.only c.args.code.now)
    c.loop-left.found
    (subst (λ v. IsPassed says X k v c.loop-left.found)
    (at_end c.loop-left.yielded c.loop-left.left-iterator options c.loop-left.invariant.whole c.in-None.ensures.steps.0)
    (c.loop-left.invariant.passed says s))
