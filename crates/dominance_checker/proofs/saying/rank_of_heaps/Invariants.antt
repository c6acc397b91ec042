use Rattle.std.proofs.Common.{◌≡◌, take}
use Rattle.dominance.specs.Triples.{triple_of}
use Rattle.dominance_checker.specs.Ranks.{triple_in, label_by}
use Rattle.dominance_checker.proofs.saying.rank_of_heaps.Given as goal

abbrev pub invariant-loop-n : goal.invariant-loop-n
invariant-loop-n l =
    triple_in l.all ≡ triple_of (label_by l.s l.ranks) (take l.n-index l.heaps)
