use Rattle.presented_checker.proofs.Whole.{presents}
use Rattle.presented_checker.proofs.whole_presentations.enough_heaps_show_all.Goals as goal

pub returns : goal.returns
returns g = λ c B ranges some enough. presents c ranges some B enough
