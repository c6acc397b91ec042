use Rattle.std.proofs.Common.{inr, refl, arith}
use Rattle.std.proofs.lemmas.List.Elements.{All-from_recursion}
use Rattle.infinite_queries.specs.Asked.{IsSpokenOf, SpeaksOf}
use Rattle.infinite_queries.proofs.asking.fit.Goals as goal

pub returns-then-not-speaks-clause-no : goal.returns-then-not-speaks-clause-no
returns-then-not-speaks-clause-no c =
    let no : SpeaksOf c.args.shown.now c.args.heaps.now → ⊥ = λ speaks. (let t = c.speaks.ensures.1 speaks in let f = c.if-not-speaks.true in cc) in
    let sizes = c.are_sizes.ensures.0 c.if-not-are_sizes.false in
    (λ e. absurd (omega (arith, e)), inr (refl, (sizes, no)))

pub returns-clause-sizes : goal.returns-clause-sizes
returns-clause-sizes c = c.are_sizes.ensures.0 c.if-not-are_sizes.false

pub returns-clause-speaks : goal.returns-clause-speaks
returns-clause-speaks c =
    All-from_recursion (IsSpokenOf c.args.shown.now) c.args.heaps.now
    (c.speaks.ensures.0 c.if-not-speaks.false)
