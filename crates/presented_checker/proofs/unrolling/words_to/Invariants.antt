use Rattle.std.proofs.Common.{◌≡◌, map}
use Rattle.std.specs.List.{range_with_len}
use Rattle.presented_checker.specs.Unrolled.{said_word}
use Rattle.presented_checker.proofs.unrolling.words_to.Given as goal

abbrev pub invariant-loop-n : goal.invariant-loop-n
invariant-loop-n g l = l.words.items ≡ map (said_word l.said) (range_with_len 1 l.n)
