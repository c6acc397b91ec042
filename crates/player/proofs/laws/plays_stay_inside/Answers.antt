use Rattle.player.proofs.Inside.{moved, handed}
use Rattle.player.proofs.laws.plays_stay_inside.Goals as goal

pub returns-clause-moves : goal.returns-clause-moves
returns-clause-moves c = moved

pub returns-clause-handed : goal.returns-clause-handed
returns-clause-handed c = λ C X Z p h. handed C p h
