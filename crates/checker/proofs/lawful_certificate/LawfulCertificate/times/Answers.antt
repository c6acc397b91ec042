use Rattle.std.proofs.Common.{rules, ◌≡◌, ◌<◌, subst, sym, ◌∙◌}
use Rattle.misere_theory.specs.Certificates.{times_of}
use Rattle.check_machine.proofs.Rows.{rows_of-entry}
use Rattle.checker.proofs.lawful_certificate.LawfulCertificate.times.Goals as goal

pub returns-clause-value : goal.returns-clause-value
returns-clause-value g c =
    let t = c.self.inside.table in
    let x_in : c.args.x < t.order = search rules in
    let y_in : c.args.y < t.order = search rules in
    subst (λ d. c.times.result ≡ times_of d c.args.x c.args.y) c.self.view_is
    (c.times.ensures.value
    ∙ sym (rows_of-entry t.order t.order t.entries c.args.x c.args.y x_in y_in))
