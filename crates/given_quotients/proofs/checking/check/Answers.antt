use Rattle.std.proofs.Common.{◌∙◌, subst, ℕ, List}
use Rattle.std.specs.String.{string_bytes}
use Rattle.check_machine.specs.Turns.{verdict}
use Rattle.verdict_texts.specs.Streams.{IsDueText}
use Rattle.given_quotients.proofs.Given.{checks_all}
use Rattle.given_quotients.proofs.checking.check.Goals as goal

pub returns-clause-said : goal.returns-clause-said
returns-clause-said g c =
    let w =
    subst (λ (bytes : List ℕ). IsDueText verdict bytes c.args.limit
    (string_bytes c.in_ok-verdict.verdict.text) c.in_ok-verdict.verdict.accepted)
    c.deref.ensures.value c.in_ok-verdict.ensures in
    checks_all c.verdicts_are_true.ensures _ c.in_ok-bytes.bytes.items c.args.limit _ _
    c.in_ok-bytes.ensures.bytes
    (w.0, c.said.ensures.text ∙ w.1, c.said.ensures.succeeds ∙ w.2)
