use Rattle.std.proofs.Common.{ℕ, List, subst}
use Rattle.answers.specs.ByteVerdicts.{IsTrueOf, refused}
use Rattle.answers.specs.ByteVerdicts.ByteVerdict.{Yes}
use Rattle.own_quotients.proofs.Judged.{certified, refusal}
use Rattle.own_quotients.proofs.certifying.judged.Goals as goal

pub returns-in-Ok-clause-certified : goal.returns-in-Ok-clause-certified
returns-in-Ok-clause-certified c =
    λ o n.
    certified c.spellings_are_unique.ensures.value o c.args.identity c.args.text.items
    c.args.numbering.numbers.items c.args.numbering.elements.items c.args.limit c.in-Ok.certified n
    (subst (λ (b : List ℕ). IsTrueOf b c.args.limit (Yes c.in-Ok.certified)) c.deref.ensures.value
    c.in-Ok.ensures.true_of)

pub returns-in-Err-clause-refused : goal.returns-in-Err-clause-refused
returns-in-Err-clause-refused c =
    λ o passes n.
    c.fault_by.ensures o c.args.limit passes
    (refusal c.spellings_are_unique.ensures.value o c.args.identity c.args.text.items
    c.args.numbering.numbers.items c.args.numbering.elements.items c.args.limit c.in-Err.refusal n
    (subst (λ (b : List ℕ). IsTrueOf b c.args.limit (refused c.in-Err.refusal))
    c.deref.ensures.value c.in-Err.ensures.true_of))
