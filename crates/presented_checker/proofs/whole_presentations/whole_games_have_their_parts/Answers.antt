use Rattle.presented_checker.proofs.Whole.{infinite, leaves, breaks}
use Rattle.presented_checker.proofs.Lists.{all-before}
use Rattle.presented_checker.proofs.whole_presentations.whole_games_have_their_parts.Goals as goal

pub returns : goal.returns
returns g = record { infinite = infinite; leaves = leaves; position = all-before; breaks = breaks }
