use Rattle.player.proofs.Looked.{label_in, sum_label}
use Rattle.player.proofs.quotient.CertifiedLabelling.times.Goals as goal

pub times-requires-clause-x_in : goal.times-requires-clause-x_in
times-requires-clause-x_in g c = label_in c.args.self.now c.cert.ensures.accepted c.args.x c.requires.left

pub times-requires-clause-y_in : goal.times-requires-clause-y_in
times-requires-clause-y_in g c = label_in c.args.self.now c.cert.ensures.accepted c.args.y c.requires.right

pub returns : goal.returns
returns g c = λ X Y.
    sum_label c.args.self.now c.cert.ensures.accepted X Y c.args.x c.args.y c.times.result c.times.ensures.value
