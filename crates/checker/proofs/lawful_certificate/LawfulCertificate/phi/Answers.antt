use Rattle.std.proofs.Common.{◌<◌, subst, sym}
use Rattle.misere_theory.proofs.Written.{phi_in}
use Rattle.checker.proofs.lawful_certificate.LawfulCertificate.phi.Goals as goal

pub returns-clause-within : goal.returns-clause-within
returns-clause-within g c =
    subst (λ d. c.at.result < d.order) c.self.view_is
    (subst (λ x. x < c.self.inside.table.order) (sym c.at.ensures)
    (phi_in _ c.self.invariant.lawful.in_ranges c.args.n))
