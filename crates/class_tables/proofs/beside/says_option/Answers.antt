use Rattle.std.proofs.Common.{false, subst}
use Rattle.heap_options.specs.Exact.{heaps_of}
use Rattle.heap_options.specs.Options.{options_of}
use Rattle.presented_tables.proofs.Orders.{says-shuffled}
use Rattle.presented_tables.proofs.Walked.{item, one_more, ended}
use Rattle.class_tables.proofs.Said.{ClassSays}
use Rattle.class_tables.proofs.beside.says_option.Goals as goal

pub returns-then-branch-clause-some : goal.returns-then-branch-clause-some
returns-then-branch-clause-some g c = λ _ x of.
    let listed =
    item _ c.loop-left.yielded c.loop-left.left-iterator (options_of c.args.p.now.code c.args.n)
    c.in-Some.left c.next.new.self c.loop-left.invariant c.in-Some.ensures.steps in (
      heaps_of c.in-Some.left,
      (c.options_are_exact.ensures.only c.args.p.now.code c.args.n c.args.n c.in-Some.left listed).0,
      subst (ClassSays c.args.p.now c.args.folds.now c.args.q.now (heaps_of c.in-Some.left)) c.if-branch.true
          c.in_ok-says_left.ensures x of,
    )

pub loop-left-preserved : goal.loop-left-preserved
loop-left-preserved g c =
    one_more _ c.loop-left.yielded c.loop-left.left-iterator _ c.in-Some.left c.next.new.self
    c.loop-left.invariant c.in-Some.ensures.steps
    (subst (ClassSays c.args.p.now c.args.folds.now c.args.q.now (heaps_of c.in-Some.left)) c.if-branch.false
    c.in_ok-says_left.ensures)

pub returns-clause-none : goal.returns-clause-none
returns-clause-none g c = λ _ x of H o.
    let (left, l, p) = c.options_are_exact.ensures.each c.args.p.now.code c.args.n H o in
    says-shuffled c.args.p.now x (heaps_of left) H false p
    (ended _ c.loop-left.yielded c.loop-left.left-iterator _ c.loop-left.invariant
    c.in-None.ensures.steps.0 left l x of)
