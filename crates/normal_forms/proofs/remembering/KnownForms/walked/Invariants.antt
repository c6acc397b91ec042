use Rattle.std.proofs.Common.{◌<◌, length}
use Rattle.presentations.specs.declared.TheConstants.{LETTERS}
use Rattle.presentations.specs.Congruences.{Related}
use Rattle.presentations.proofs.VectorLaws.{partial}
use Rattle.normal_forms.specs.Known.{known_at}
use Rattle.normal_forms.proofs.remembering.KnownForms.walked.Given as goal

abbrev pub invariant-loop-i : goal.invariant-loop-i
invariant-loop-i g l = record {
  inside : l.at < length l.self.elements;
  related : Related LETTERS l.rules (partial l.word l.i 0) (known_at l.self.elements l.at);
}

abbrev pub invariant-loop-k : goal.invariant-loop-k
invariant-loop-k g l = record {
  inside : l.at < length l.self.elements;
  related : Related LETTERS l.rules (partial l.word l.i l._k) (known_at l.self.elements l.at);
}
