use Rattle.std.proofs.Common.{length}
use Rattle.presented_tables.proofs.says.+word_of_heaps.Given as goal

abbrev pub decreases-word_of_heaps : goal.decreases-word_of_heaps
decreases-word_of_heaps g l = length l.heaps.now
