use Rattle.std.proofs.Common.{◌≡◌, ◌<◌, ◌≤◌, ℕ, [], List, length}
use Rattle.std.specs.Prelude.{slice_index_or}
use Rattle.presentations.specs.declared.TheConstants.{LETTERS}
use Rattle.class_tables.proofs.TurnsAt.{TurnsTo}
use Rattle.class_tables.proofs.leading.lead.Given as goal

abbrev pub invariant-loop-j : goal.invariant-loop-j
invariant-loop-j g l = record {
  long : length l.turns ≡ LETTERS;
  so_far : (k : ℕ) → k < l.j → TurnsTo l.p l.tops l.folds l.weights l.a l.to k (slice_index_or l.turns k []);
}
