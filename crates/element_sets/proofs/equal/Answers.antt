use Rattle.std.proofs.Common.{sym, ◌∙◌}
use Rattle.element_sets.specs.Same.{same-is, same-itself}
use Rattle.element_sets.proofs.equal.Goals as goal

pub returns : goal.returns
returns g c = (λ t. same-is _ _ (sym c.eq.ensures ∙ t), λ e. c.eq.ensures ∙ rw e (same-itself _))
