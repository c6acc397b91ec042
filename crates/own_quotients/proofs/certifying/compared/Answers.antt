use Rattle.std.proofs.Common.{ℕ, List, subst}
use Rattle.own_quotients.specs.Certified.{IsNumberingOf}
use Rattle.own_quotients.proofs.certifying.compared.Goals as goal

pub returns-in-Some-clause-certified : goal.returns-in-Some-clause-certified
returns-in-Some-clause-certified c =
    c.judged.ensures.certified c.args.table.now
    (subst
    (λ (b : List ℕ). IsNumberingOf c.args.table.now c.args.identity b
    c.in-Some.numbering.numbers.items c.in-Some.numbering.elements.items) c.deref.ensures.value
    (rw c.in-Some.is at c.in_ok-numbering.ensures))

pub returns-in-Some-clause-refused : goal.returns-in-Some-clause-refused
returns-in-Some-clause-refused c =
    c.judged.ensures.refused c.args.table.now c.requires.laws
    (subst
    (λ (b : List ℕ). IsNumberingOf c.args.table.now c.args.identity b
    c.in-Some.numbering.numbers.items c.in-Some.numbering.elements.items) c.deref.ensures.value
    (rw c.in-Some.is at c.in_ok-numbering.ensures))
