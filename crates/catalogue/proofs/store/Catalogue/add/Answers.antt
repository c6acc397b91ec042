use Rattle.std.proofs.Common.{◌≡◌, ℕ, List, IfErr, Contains, refl, sym, ap, subst, ◌∙◌}
use Rattle.misere_theory.specs.Certificates.{Certificate, kind_of}
use Rattle.catalogue.specs.Entries.{HasEntry}
use Rattle.catalogue.specs.declared.fault.AddFault.TheVariants.{Present, Memory}
use Rattle.catalogue.proofs.StoreLemmas.{is_there, not_there, on_ok}
use Rattle.catalogue.proofs.store.Catalogue.add.Goals as goal

differ : Present ≡ Memory → ⊥
differ e = cc

absent : (cs : List Certificate) (a b : List ℕ) (g h : ℕ) → a ≡ b → g ≡ h
    → (HasEntry cs a g → ⊥) → HasEntry cs b h → ⊥
absent cs a b g h e f none =
    subst (λ x. HasEntry cs b x → ⊥) f (subst (λ x. HasEntry cs x g → ⊥) e none)

pub returns-then-is_some-clause-same_certificate : goal.returns-then-is_some-clause-same_certificate
returns-then-is_some-clause-same_certificate c e =
    let found =
    is_there c.args.self.now c.code.result.now c.heaps.result c.get.result c.get.ensures.some
    (sym c.is_some.ensures ∙ c.if-is_some.true) in
    let same =
    c.accepted_certificates_are_unique.ensures.one found.0 c.args.certified found.4
    c.cert.ensures.accepted (found.2 ∙ c.code.ensures ∙ ap (λ x. x.code) c.cert.ensures.same)
    (found.3 ∙ c.heaps.ensures.value ∙ ap kind_of c.cert-2.ensures.same) in
    subst (Contains c.args.self.now) same found.1

pub returns-then-is_some-clause-present : goal.returns-then-is_some-clause-present
returns-then-is_some-clause-present c =
    let found =
    is_there c.args.self.now c.code.result.now c.heaps.result c.get.result c.get.ensures.some
    (sym c.is_some.ensures ∙ c.if-is_some.true) in (
      λ e. (
        found.0,
        found.1,
        found.2 ∙ c.code.ensures ∙ ap (λ x. x.code) c.cert.ensures.same,
        found.3 ∙ c.heaps.ensures.value ∙ ap kind_of c.cert-2.ensures.same,
      ),
      λ has. refl,
    )

pub push-requires : goal.push-requires
push-requires c =
    absent c.args.self.now _ _ _ _ (c.code.ensures ∙ ap (λ x. x.code) c.cert.ensures.same)
    (c.heaps.ensures.value ∙ ap kind_of c.cert-2.ensures.same)
    (not_there _ c.get.result c.get.ensures.none (sym c.is_some.ensures ∙ c.if-is_some.false))

pub returns-clause-present : goal.returns-clause-present
returns-clause-present c =
    let none =
    absent c.args.self.now _ _ _ _ (c.code.ensures ∙ ap (λ x. x.code) c.cert.ensures.same)
    (c.heaps.ensures.value ∙ ap kind_of c.cert-2.ensures.same)
    (not_there _ c.get.result c.get.ensures.none (sym c.is_some.ensures ∙ c.if-is_some.false)) in (
      λ e. absurd (differ (subst (λ r. IfErr r (λ f. f ≡ Memory)) e c.push.ensures.memory)),
      λ has. absurd (none has),
    )

pub returns-clause-absent : goal.returns-clause-absent
returns-clause-absent c =
    on_ok c.push.result _
    (absent c.args.self.now _ _ _ _ (c.code.ensures ∙ ap (λ x. x.code) c.cert.ensures.same)
    (c.heaps.ensures.value ∙ ap kind_of c.cert-2.ensures.same)
    (not_there _ c.get.result c.get.ensures.none (sym c.is_some.ensures ∙ c.if-is_some.false)))
