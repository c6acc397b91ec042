use Rattle.std.proofs.Common.{[], ◌∷◌, ◌++◌, ap, ◌∙◌}
use Rattle.std.specs.Map.{values_of}
use Rattle.std.proofs.lemmas.Result.{on_ok_weaker}
use Rattle.misere_theory.specs.Certificates.{kind_of}
use Rattle.catalogue.specs.Keys.{AreKeyed}
use Rattle.catalogue.proofs.StoreLemmas.{Held, either, held_push, not_found, values_push}
use Rattle.catalogue.proofs.store.Catalogue.push.Goals as goal

pub append-requires : goal.append-requires
append-requires c =
    let code = c.code.ensures ∙ ap (λ x. x.code) c.cert.ensures.same in
    let kind = c.heaps.ensures.value ∙ ap kind_of c.cert-2.ensures.same in
    let made = c.code_and_kind-key.ensures in
    not_found c.code_and_kind-key.result c.args.certified.code (kind_of c.args.certified)
    c.self.inside.entries.entries (rw (← code) made.code) (rw (← code, ← kind) made.key)
    c.self.invariant.keyed (rw c.self.view_is c.requires)

pub invariant_of-self : goal.invariant_of-self
invariant_of-self c =
    let es = c.self.inside.entries.entries in
    let e : Held = (c.code_and_kind-key.result, c.args.certified) in
    let code = c.code.ensures ∙ ap (λ x. x.code) c.cert.ensures.same in
    let kind = c.heaps.ensures.value ∙ ap kind_of c.cert-2.ensures.same in
    let made = c.code_and_kind-key.ensures in
    either c.append.result AreKeyed es (es ++ e ∷ []) c.append.new.entries.entries
    c.append.ensures.last c.append.ensures.unchanged c.self.invariant
    (held_push es c.code_and_kind-key.result c.args.certified c.self.invariant
    (rw (← code, ← kind) made.key) (rw (← code) made.code) c.cert.ensures.accepted
    (rw c.self.view_is c.requires))

pub returns-clause-added : goal.returns-clause-added
returns-clause-added c =
    let es = c.self.inside.entries.entries in
    let e : Held = (c.code_and_kind-key.result, c.args.certified) in
    on_ok_weaker c.append.result
    (λ last. ap values_of last ∙ values_push es e
    ∙ ap (λ cs. cs ++ c.args.certified ∷ []) c.self.view_is)
    c.append.ensures.last
