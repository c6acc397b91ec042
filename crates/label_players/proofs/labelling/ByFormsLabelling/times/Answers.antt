use Rattle.std.proofs.Common.{subst}
use Rattle.presentations.specs.declared.TheConstants.{LETTERS}
use Rattle.presentations.specs.Vectors.{plus}
use Rattle.normal_forms.specs.Forms.{IsNormalForm}
use Rattle.presented_text.specs.Said.{PresentedSaid}
use Rattle.label_players.specs.Wide.{AreSmall}
use Rattle.label_players.proofs.Labels.{sum-label, word-of-heap}
use Rattle.label_players.proofs.labelling.ByFormsLabelling.times.Goals as goal

pub returns : goal.returns
returns g c = λ X Y a b.
    let k = c.args.self.now.quotient.now in
    let right = c.said.ensures.right in
    let x = c.args.x in
    let y = c.args.y in
    let r = c.times.result in
    sum-label k.said right.accepted.presents.converges (word-of-heap k right) X Y x y r
    (subst (λ (p : PresentedSaid). AreSmall x → AreSmall y → IsNormalForm LETTERS p.relations (plus x y) r)
    c.said.ensures.value c.times.ensures.form)
    c.times.ensures.few a b
