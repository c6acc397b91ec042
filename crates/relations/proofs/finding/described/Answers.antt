use Rattle.std.proofs.Common.{List, ℕ, refl, subst}
use Rattle.presentations.specs.declared.read.Relation.{Relation}
use Rattle.relations.specs.Presented.{LeadTo}
use Rattle.relations.proofs.finding.described.Goals as goal

pub returns-clause-lead : goal.returns-clause-lead
returns-clause-lead g c =
    subst (λ (w : List (List ℕ)). LeadTo w c.in_ok-relations.relations.items)
    c.as_slice-6.ensures.value
    (subst (λ (r : List Relation). LeadTo c.as_slice-6.result.now r) c.as_slice-7.ensures.value
    (c.if-not-lead_to.ensures refl))
