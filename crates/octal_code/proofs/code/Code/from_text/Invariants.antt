use Rattle.octal_code.proofs.Spelled.{IsFilled}
use Rattle.octal_code.proofs.code.Code.from_text.Given as goal

abbrev pub invariant-loop-i : goal.invariant-loop-i
invariant-loop-i l = IsFilled l.text l.digits l.i
