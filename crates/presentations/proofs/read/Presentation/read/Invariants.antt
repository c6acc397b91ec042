use Rattle.std.proofs.Common.{◌≡◌, ◌≤◌, length, drop}
use Rattle.presentations.proofs.Spelled.{AreReadSoFar}
use Rattle.presentations.proofs.read.Presentation.read.Given as goal

abbrev pub invariant-loop-turn : goal.invariant-loop-turn
invariant-loop-turn g l = record {
  within : l.at ≤ length l.text;
  count : length l.relations.items ≡ l._turn;
  so_far : AreReadSoFar l.text (drop l.at l.text) l.relations.items;
}
