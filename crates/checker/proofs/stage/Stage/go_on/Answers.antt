-- Stage by stage.
use Rattle.std.proofs.Common.{refl}
use Rattle.check_machine.proofs.TurnLaws.{runs-none}
use Rattle.checker.proofs.stage.Stage.go_on.Goals as goal

pub returns-in-Laws : goal.returns-in-Laws
returns-in-Laws g c = rw c.in-Laws.is (record { runs = c.go_on.ensures; same = refl })

pub returns-in-Keys : goal.returns-in-Keys
returns-in-Keys g c = rw c.in-Keys.is (record { runs = c.go_on-in-Keys.ensures; same = refl })

pub returns-in-Products : goal.returns-in-Products
returns-in-Products g c = rw c.in-Products.is (record { runs = c.go_on-in-Products.ensures; same = refl })

pub returns-in-Separating : goal.returns-in-Separating
returns-in-Separating g c = rw c.in-Separating.is (record { runs = c.go_on-in-Separating.ensures; same = refl })

pub returns-in_default : goal.returns-in_default
returns-in_default g c = record { runs = λ bytes limit. runs-none bytes limit _ _ _ refl; same = refl }

pub returns-in-Pairs : goal.returns-in-Pairs
returns-in-Pairs g c = rw c.in-Pairs.is c.go_on-in-Pairs.ensures
