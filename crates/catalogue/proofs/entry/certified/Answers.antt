use Rattle.std.proofs.Common.{◌≡◌, true, bytes_eq, inr, refl, sym, ap, subst, ◌∙◌}
use Rattle.std.proofs.lemmas.Slice.Eq.{bytes_eq-Decides}
use Rattle.octal_code.specs.Text.{code_text}
use Rattle.answers.specs.ByteVerdicts.{answer_of}
use Rattle.answers.proofs.Due.{is_due}
use Rattle.misere_theory.specs.Certificates.{kind_of}
use Rattle.catalogue.specs.Loads.{IsAcceptedText}
use Rattle.catalogue.proofs.entry.certified.Goals as goal

pub returns-then-heaps-clause-ok : goal.returns-then-heaps-clause-ok
returns-then-heaps-clause-ok c =
    let yes = c.check.ensures.true_of.yes c.in-Ok.certified (ap answer_of c.in-Ok.is) in
    let same : code_text c.code.result.now ≡ c.args.entry.now.code.now =
    (bytes_eq-Decides _ _).0 (sym c.in_ok-same-in-Ok.ensures ∙ c.if-not-same.false) in
    record {
      certificate =
          subst (λ b. IsAcceptedText c.args.limit b c.in-Ok.certified) c.as_bytes.ensures.value
          (yes.0, yes.1, sym (is_due _ _ c.in-Ok.ensures.decided (λ none. cc)));
      code = sym same ∙ ap code_text (c.code.ensures ∙ ap (λ x. x.code) c.cert.ensures.same);
      heaps = sym (c.heaps.ensures.value ∙ ap kind_of c.cert-else-not-same.ensures.same)
          ∙ c.if-heaps.true ∙ c.heaps-else-not-same.ensures;
    }

pub returns-then-not-same-clause-err : goal.returns-then-not-same-clause-err
returns-then-not-same-clause-err c cs =
    let yes = c.check.ensures.true_of.yes c.in-Ok.certified (ap answer_of c.in-Ok.is) in
    let code = c.code.ensures ∙ ap (λ x. x.code) c.cert.ensures.same in
    inr (
      refl,
      (
        c.in-Ok.certified,
        subst (λ b. IsAcceptedText c.args.limit b c.in-Ok.certified) c.as_bytes.ensures.value
            (yes.0, yes.1, sym (is_due _ _ c.in-Ok.ensures.decided (λ none. cc))),
        λ e.
            let same : bytes_eq (code_text c.code.result.now) c.args.entry.now.code.now ≡ true =
            (bytes_eq-Decides _ _).1 (ap code_text code ∙ sym e) in
            cc (c.in_ok-same-in-Ok.ensures, c.if-not-same.true),
      ),
    )

pub returns-else-heaps-clause-err : goal.returns-else-heaps-clause-err
returns-else-heaps-clause-err c cs =
    let yes = c.check.ensures.true_of.yes c.in-Ok.certified (ap answer_of c.in-Ok.is) in
    let same : code_text c.code.result.now ≡ c.args.entry.now.code.now =
    (bytes_eq-Decides _ _).0 (sym c.in_ok-same-in-Ok.ensures ∙ c.if-not-same.false) in
    inr (
      refl,
      (
        c.in-Ok.certified,
        subst (λ b. IsAcceptedText c.args.limit b c.in-Ok.certified) c.as_bytes.ensures.value
            (yes.0, yes.1, sym (is_due _ _ c.in-Ok.ensures.decided (λ none. cc))),
        sym same ∙ ap code_text (c.code.ensures ∙ ap (λ x. x.code) c.cert.ensures.same),
        λ e. c.if-heaps.false
            (c.heaps.ensures.value ∙ ap kind_of c.cert-else-not-same.ensures.same ∙ e
            ∙ sym c.heaps-else-not-same.ensures),
      ),
    )
