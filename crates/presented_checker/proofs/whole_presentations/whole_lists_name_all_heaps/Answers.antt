use Rattle.presented_checker.proofs.Lists.{all-heaps}
use Rattle.presented_checker.proofs.whole_presentations.whole_lists_name_all_heaps.Goals as goal

pub returns : goal.returns
returns g = all-heaps
