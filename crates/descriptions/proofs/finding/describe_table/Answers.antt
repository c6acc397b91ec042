use Rattle.std.proofs.Common.{◌≡◌, ◌<◌, ◌∙◌, ap, sym, subst}
use Rattle.std.specs.Prelude.{All, Contains}
use Rattle.std.proofs.lemmas.List.Elements.{All-weaker, All-contains}
use Rattle.std.proofs.lemmas.Result.{IfOk-weaker}
use Rattle.relations.specs.declared.finding.Description.{Description}
use Rattle.descriptions.proofs.finding.describe_table.Goals as goal

pub returns-clause-elements : goal.returns-clause-elements
returns-clause-elements c =
    let C = c.args.certified.now in
    let entries = c.entries.result.now in
    let list : entries ≡ C.phi =
    c.entries.ensures ∙ ap (λ f. f.entries) c.phi.ensures
    ∙ ap (λ x. x.phi) c.cert-cert.ensures.same
    in
    let all : All (λ e. e < C.order) entries =
    subst (All (λ e. e < C.order)) (sym list) c.cert-cert.ensures.accepted.in_ranges.phi.1
    in
    IfOk-weaker _ _ _
    (λ (d : Description _) (h : All (Contains entries) d.elements.items).
    All-weaker (Contains entries) (λ e. e < C.order)
    (λ x k. All-contains (λ e. e < C.order) entries x all k) d.elements.items h)
    c.described.ensures.among

pub returns-clause-among : goal.returns-clause-among
returns-clause-among c =
    let list : c.entries.result.now ≡ c.args.certified.now.phi =
    c.entries.ensures ∙ ap (λ f. f.entries) c.phi.ensures
    ∙ ap (λ x. x.phi) c.cert-cert.ensures.same
    in
    IfOk-weaker _ _ _
    (λ (d : Description _) (h : All (Contains c.entries.result.now) d.elements.items).
    subst (λ entries. All (Contains entries) d.elements.items) list h)
    c.described.ensures.among
