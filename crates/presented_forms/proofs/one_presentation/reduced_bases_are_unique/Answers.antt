use Rattle.normal_forms.proofs.Steps.{forms}
use Rattle.presentations.specs.declared.TheConstants.{LETTERS}
use Rattle.presented_forms.proofs.Bases.{one-basis}
use Rattle.presented_forms.proofs.one_presentation.reduced_bases_are_unique.Goals as goal

pub returns : goal.returns
returns c = λ letters R S are too in_R in_S red_R red_S ord_R ord_S both.
    one-basis letters R S are too (forms LETTERS R are.oriented) (forms LETTERS S too.oriented) in_R in_S red_R red_S
    ord_R ord_S (λ u v a b p q. (both u v a b p q).0) (λ u v a b p q. (both u v a b p q).1)
