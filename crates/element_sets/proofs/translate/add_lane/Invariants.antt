use Rattle.std.proofs.Common.{ℕ, ◌*◌}
use Rattle.std.specs.Prelude.{◌↔◌}
use Rattle.element_sets.specs.Hits.{CanTranslateLane}
use Rattle.element_sets.proofs.HitLaws.{Has}
use Rattle.element_sets.proofs.translate.add_lane.Given as goal

abbrev pub invariant-loop-word : goal.invariant-loop-word
invariant-loop-word g l = record {
  same : (q : ℕ) → Has l.all l.word l.base l.row q ↔ Has l.initial.all l.lane l.base l.row q;
  can : CanTranslateLane (64 * g.row.LANES) l.word l.base l.row;
}

abbrev pub decreases-loop-word : goal.decreases-loop-word
decreases-loop-word g l = l.word
