use Rattle.std.proofs.Common.{inr, refl, arith}
use Rattle.misere_theory.specs.Certificates.{IsHeapOf}
use Rattle.player.specs.Answers.{SpeaksOf}
use Rattle.misere_library.proofs.Positions.{speaks_there}
use Rattle.misere_library.proofs.asking.fit.Goals as goal

pub speaks_of-requires : goal.speaks_of-requires
speaks_of-requires c = c.are_sizes.ensures.0 c.if-not-are_sizes.false

pub returns-then-not-speaks_of-clause-no : goal.returns-then-not-speaks_of-clause-no
returns-then-not-speaks_of-clause-no c =
    let C = c.args.certified.now in
    let no : SpeaksOf C c.args.heaps.now → ⊥ = λ speaks. (let t = c.speaks_of.ensures.speaks.1
    (speaks_there (IsHeapOf C) c.args.heaps.now speaks) in let f = c.if-not-speaks_of.true in cc) in
    let partial = c.speaks_of.ensures.partial (let f = c.if-not-speaks_of.true in cc) in
    let sizes = c.are_sizes.ensures.0 c.if-not-are_sizes.false in
    (λ e. absurd (omega (arith, e)), inr (refl, (partial, sizes, no)))

pub returns-clause-sizes : goal.returns-clause-sizes
returns-clause-sizes c = c.are_sizes.ensures.0 c.if-not-are_sizes.false

pub returns-clause-speaks : goal.returns-clause-speaks
returns-clause-speaks c = c.speaks_of.ensures.speaks.0 c.if-not-speaks_of.false
