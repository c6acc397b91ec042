use Rattle.std.proofs.Common.{◌≤◌}
use Rattle.presentations.specs.declared.TheConstants.{LETTERS}
use Rattle.relations.specs.Bases.{letter_count}
use Rattle.normal_forms.specs.declared.TheConstants.{MOST_LETTERS}
use Rattle.normal_forms.specs.Reductions.{ReducesTo}
use Rattle.normal_forms.proofs.Ranks.{rank}
use Rattle.normal_forms.proofs.reducing.reduced.Given as goal

abbrev pub invariant-loop-k : goal.invariant-loop-k
invariant-loop-k g l = record {
  reduces : ReducesTo LETTERS l.rules l.word l.reduced;
  few : letter_count LETTERS l.reduced ≤ MOST_LETTERS;
}

abbrev pub decreases-loop-k : goal.decreases-loop-k
decreases-loop-k g l = rank LETTERS l.reduced
