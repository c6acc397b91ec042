use Rattle.std.proofs.Common.{ℕ, List, false, subst, sym}
use Rattle.std.specs.List.{All}
use Rattle.std.proofs.lemmas.List.{take_all}
use Rattle.std.proofs.lemmas.List.Elements.{All-more, Contains-get_or}
use Rattle.presented_tables.specs.Elements.{element}
use Rattle.presented_tables.specs.Reached.{StandsAt}
use Rattle.presented_tables.specs.Tested.{Says}
use Rattle.presented_tables.proofs.beside.says_option.Goals as goal

pub returns-then-branch-clause-some : goal.returns-then-branch-clause-some
returns-then-branch-clause-some g c = λ _.
    let (H, o, t) =
    c.requires.reached.only _
    (Contains-get_or c.args.reached.now c.loop-y.y-index 0 c.loop-y-test.true) in (
      H,
      o,
      subst (Says c.args.p.now (element c.args.e.now c.args.x) H) c.if-branch.true (c.in_ok-says_at.ensures H t),
    )

pub loop-y-preserved : goal.loop-y-preserved
loop-y-preserved g c =
    All-more (λ y. (H : List ℕ) → StandsAt c.args.p.now c.args.e.now H y
    → Says c.args.p.now (element c.args.e.now c.args.x) H false)
    c.args.reached.now c.loop-y.y-index 0 c.loop-y-test.true c.loop-y.invariant
    (λ H t. subst (Says c.args.p.now (element c.args.e.now c.args.x) H) c.if-branch.false
    (c.in_ok-says_at.ensures H t))

pub returns-clause-none : goal.returns-clause-none
returns-clause-none g c = λ _ H o.
    let (y, (k, lt, is), t) = c.requires.reached.each H o in
    let all =
    subst (All (λ v. (X : List ℕ) → StandsAt c.args.p.now c.args.e.now X v
    → Says c.args.p.now (element c.args.e.now c.args.x) X false))
    (take_all c.loop-y.y-index c.args.reached.now c.loop-y-test.false) c.loop-y.invariant in
    all k y lt H (subst (StandsAt c.args.p.now c.args.e.now H) (sym is) t)
