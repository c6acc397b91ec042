use Rattle.std.proofs.Common.{rules}
use Rattle.label_players.proofs.Stopped.{together_is}
use Rattle.label_players.proofs.triples.together.Goals as goal

pub returns : goal.returns
returns c =
    together_is c.args.a c.args.b _ (search rules) c.stopped.ensures.same c.stopped.ensures.small (search rules)
