use Rattle.std.proofs.Common.{◌≡◌, length}
use Rattle.presentations.specs.declared.TheConstants.{LETTERS}
use Rattle.relations.specs.Presented.{IsRewritten}
use Rattle.relations.proofs.rewriting.rewritten.Given as goal

abbrev pub invariant-loop-i : goal.invariant-loop-i
invariant-loop-i l = record {
  long : length l.changed ≡ LETTERS;
  so_far : IsRewritten l.i l.rule l.word l.changed;
}
