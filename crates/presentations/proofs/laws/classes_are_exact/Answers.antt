use Rattle.presentations.proofs.Quotient.{class-exact}
use Rattle.presentations.proofs.laws.classes_are_exact.Goals as goal

pub returns : goal.returns
returns c = λ axes relations classes. class-exact
