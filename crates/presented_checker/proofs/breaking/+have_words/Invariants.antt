use Rattle.std.proofs.Common.{length}
use Rattle.presented_checker.proofs.breaking.+have_words.Given as goal

abbrev pub decreases-have_words : goal.decreases-have_words
decreases-have_words g l = length l.heaps.now
