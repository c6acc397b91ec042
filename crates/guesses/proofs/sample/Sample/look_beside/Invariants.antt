use Rattle.std.proofs.Common.{vec_len}
use Rattle.guesses.proofs.sample.Sample.look_beside.Given as goal

abbrev pub decreases-loop-member : goal.decreases-loop-member
decreases-loop-member l = vec_len l.members
