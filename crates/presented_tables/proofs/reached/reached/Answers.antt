use Rattle.std.proofs.Common.{sym, subst}
use Rattle.heap_options.specs.Options.{options_of}
use Rattle.presented_tables.specs.Reached.{AreReached}
use Rattle.presented_tables.proofs.Reaching.{StandsIn, one-more-so-far, all-reached}
use Rattle.presented_tables.proofs.Walked.{item}
use Rattle.presented_tables.proofs.reached.reached.Goals as goal

pub loop-left-preserved : goal.loop-left-preserved
loop-left-preserved g c =
    let code = c.args.p.now.code in
    let listed =
    item (StandsIn c.args.p.now c.args.e.now c.args.n (options_of code c.args.n) c.loop-left.distinct)
    c.loop-left.yielded c.loop-left.left-iterator (options_of code c.args.n) c.in-Some.left
    c.next.new.self c.loop-left.invariant.walk c.in-Some.ensures.steps in
    one-more-so-far c.args.p.now c.args.e.now c.args.n (options_of code c.args.n) c.loop-left.distinct
    c.add.new.self c.loop-left.yielded c.loop-left.left-iterator c.next.new.self c.in-Some.left c.in_ok-y.y
    c.loop-left.invariant c.in-Some.ensures.steps
    (c.options_are_exact.ensures.only code c.args.n c.args.n c.in-Some.left listed).0
    c.in_ok-y.ensures.stands c.in_ok-add.ensures

pub returns-clause-reached : goal.returns-clause-reached
returns-clause-reached g c =
    let code = c.args.p.now.code in
    subst (AreReached c.args.p.now c.args.e.now c.args.n) (sym c.distinct-2.view_is)
    (all-reached c.args.p.now c.args.e.now c.args.n (options_of code c.args.n) c.loop-left.distinct
    c.loop-left.yielded c.loop-left.left-iterator c.loop-left.invariant c.in-None.ensures.steps.0
    (c.options_are_exact.ensures.each code c.args.n))
