use Rattle.std.proofs.Common.{◌≡◌, length}
use Rattle.normal_forms.specs.Known.{AreSteps}
use Rattle.normal_forms.proofs.remembering.steps_of.Given as goal

abbrev pub invariant-loop-k : goal.invariant-loop-k
invariant-loop-k g l = record {
  long : length l.steps.items ≡ l.k;
  steps : AreSteps l.rules l.elements l.steps.items;
}
