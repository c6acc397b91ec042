use Rattle.std.proofs.Common.{inl, inr, refl}
use Rattle.std.proofs.lemmas.List.Elements.{All-from_recursion}
use Rattle.presented_tables.specs.Tested.{HasWord}
use Rattle.label_players.specs.Plays.{SpeaksOf}
use Rattle.infinite_queries.proofs.valuing.fit.Goals as goal

pub returns-then-not-speaks_of-clause-why : goal.returns-then-not-speaks_of-clause-why
returns-then-not-speaks_of-clause-why c =
    let no : SpeaksOf c.args.quotient.now c.args.heaps.now → ⊥ = λ speaks. (let t = c.speaks_of.ensures.1 speaks in let f = c.if-not-speaks_of.true in cc) in
    inr (inl (refl, (c.are_sizes.ensures.0 c.if-not-are_sizes.false, no)))

pub returns-clause-sizes : goal.returns-clause-sizes
returns-clause-sizes c = c.are_sizes.ensures.0 c.if-not-are_sizes.false

pub returns-clause-speaks : goal.returns-clause-speaks
returns-clause-speaks c =
    All-from_recursion (HasWord c.args.quotient.now.said) c.args.heaps.now
    (c.speaks_of.ensures.0 c.if-not-speaks_of.false)
