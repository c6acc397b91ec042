use Rattle.std.proofs.Common.{◌-◌}
use Rattle.player.proofs.wins.+first_win_within.Given as goal

abbrev pub decreases-first_win_within : goal.decreases-first_win_within
decreases-first_win_within g l = l.to - l.from
