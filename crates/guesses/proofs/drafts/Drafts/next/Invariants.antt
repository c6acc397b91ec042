use Rattle.std.proofs.Common.{vec_len}
use Rattle.guesses.proofs.drafts.Drafts.next.Given as goal

abbrev pub decreases-loop-repeat : goal.decreases-loop-repeat
decreases-loop-repeat l = vec_len l.self.waiting
