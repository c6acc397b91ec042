use Rattle.std.proofs.Common.{refl, ap, ◌∙◌, rules}
use Rattle.misere_theory.proofs.ListLaws.{nothing_in}
use Rattle.misere_theory.proofs.Shuffles.{from_permutation, position_shuffled}
use Rattle.heap_options.specs.Exact.{heaps_of}
use Rattle.heap_options.specs.Options.{options_of}
use Rattle.presented_text.specs.Said.{PresentedSaid}
use Rattle.presented_tables.specs.Tested.{HasWord}
use Rattle.presented_tables.proofs.Walked.{item, one_more, ended}
use Rattle.presented_tables.proofs.heaps.leaves.Goals as goal

pub loop-left-init : goal.loop-left-init
loop-left-init g c = record {
  whole =
      c.into_iter-left-iterator.ensures.into_iter_gives ∙ c.options-left-items.ensures
      ∙ ap (λ (p : PresentedSaid). options_of p.code c.args.n) c.p.view_is;
  all = λ x h. absurd (nothing_in x h);
}

pub returns-then-not-have_words-clause-leaves : goal.returns-then-not-have_words-clause-leaves
returns-then-not-have_words-clause-leaves g c = λ _.
    let listed =
    item _ c.loop-left.yielded c.loop-left.left-iterator (options_of c.args.p.now.code c.args.n)
    c.in-Some.left c.next.new.self c.loop-left.invariant c.in-Some.ensures.steps in
    record {
      has = c.requires;
      left = heaps_of c.in-Some.left;
      option = (c.options_are_exact.ensures.only c.args.p.now.code c.args.n c.args.n c.in-Some.left listed).0;
      out = λ p. search rules;
    }

pub loop-left-preserved : goal.loop-left-preserved
loop-left-preserved g c =
    one_more _ c.loop-left.yielded c.loop-left.left-iterator _ c.in-Some.left c.next.new.self
    c.loop-left.invariant c.in-Some.ensures.steps (c.if-not-have_words.ensures.0 refl)

pub returns-clause-stays : goal.returns-clause-stays
returns-clause-stays g c = λ _ H o.
    let (left, l, p) = c.options_are_exact.ensures.each c.args.p.now.code c.args.n H o in
    position_shuffled (HasWord c.args.p.now) (from_permutation (heaps_of left) H p)
    (ended _ c.loop-left.yielded c.loop-left.left-iterator _ c.loop-left.invariant
    c.in-None.ensures.steps.0 left l)
