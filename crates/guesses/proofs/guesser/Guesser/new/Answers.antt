use Rattle.std.proofs.Common.{rules}
use Rattle.guesses.proofs.guesser.Guesser.new.Goals as goal

pub returns : goal.returns
returns g c = search rules
