use Rattle.std.proofs.Common.{ℕ, List, subst}
use Rattle.solve_command.specs.Certifies.{CertifiesText}
use Rattle.solve_command.proofs.certifying.certify.Goals as goal

pub returns-clause-said : goal.returns-clause-said
returns-clause-said g c = (
  c.in_ok-bytes.bytes.items,
  c.in_ok-bytes.ensures.bytes,
  subst
      (λ (bytes : List ℕ). CertifiesText bytes c.args.limit c.in_ok-said.said.text.items
      c.in_ok-said.said.succeeds)
      c.deref.ensures.value c.in_ok-said.ensures,
)
