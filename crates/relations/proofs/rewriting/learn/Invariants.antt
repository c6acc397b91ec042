use Rattle.std.proofs.Common.{◌≤◌, length}
use Rattle.relations.proofs.Rewritings.{Follow}
use Rattle.relations.proofs.rewriting.learn.Given as goal

abbrev pub invariant-loop-i : goal.invariant-loop-i
invariant-loop-i g l = record {
  follow : Follow l.letters l.initial.rules.relations.items l.rules.relations.items;
  long : length l.initial.rules.relations.items ≤ length l.rules.relations.items;
}
