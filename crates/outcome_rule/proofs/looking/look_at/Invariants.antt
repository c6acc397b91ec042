use Rattle.std.proofs.Common.{◌≡◌, Bool, ℕ, List, ◌++◌, slice_index}
use Rattle.heap_options.specs.Options.{options_of}
use Rattle.outcome_rule.proofs.Looked.{IsPassed}
use Rattle.outcome_rule.proofs.looking.look_at.Given as goal

abbrev pub invariant-loop-left : goal.invariant-loop-left
invariant-loop-left g l = record {
  whole : l.yielded ++ l.left-iterator ≡ options_of l.code (slice_index l.heaps l.k);
  passed : (says : List ℕ → Bool) → g.S.SaysOutcomes.are_said l.claim says
      → IsPassed says l.heaps l.k l.yielded l.found;
}
