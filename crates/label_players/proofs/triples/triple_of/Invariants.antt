use Rattle.std.proofs.Common.{◌-◌, length, drop}
use Rattle.dominance.specs.Triples.{triple_of}
use Rattle.dominance_text.specs.Labels.{label_of}
use Rattle.label_players.specs.Triples.{IsTripleOf}
use Rattle.label_players.proofs.triples.triple_of.Given as goal

abbrev pub invariant-loop-i : goal.invariant-loop-i
invariant-loop-i g l =
    IsTripleOf (triple_of (label_of l.text) (drop (length l.heaps - l.i) l.heaps)) l.all
