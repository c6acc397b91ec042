use Rattle.std.proofs.Common.{◌≤◌}
use Rattle.presentations.specs.declared.TheConstants.{LETTERS}
use Rattle.relations.specs.Bases.{letter_count}
use Rattle.label_players.specs.declared.reducing.TheConstants.{MOST_LETTERS}
use Rattle.normal_forms.specs.Reductions.{ReducesTo}
use Rattle.normal_forms.proofs.Ranks.{rank}
use Rattle.label_players.proofs.reducing.reduced.Given as goal

abbrev pub invariant-loop-k : goal.invariant-loop-k
invariant-loop-k l = record {
  reduces : ReducesTo LETTERS l.rules l.word l.reduced;
  few : letter_count LETTERS l.reduced ≤ MOST_LETTERS;
}

abbrev pub decreases-loop-k : goal.decreases-loop-k
decreases-loop-k l = rank LETTERS l.reduced
