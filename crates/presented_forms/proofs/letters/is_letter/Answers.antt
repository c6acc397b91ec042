use Rattle.std.proofs.Common.{arith}
use Rattle.presentations.specs.declared.TheConstants.{LETTERS}
use Rattle.presentations.specs.Vectors.{only}
use Rattle.presentations.proofs.VectorLaws.{length-only}
use Rattle.normal_forms.proofs.Words.{same-word}
use Rattle.presented_forms.proofs.letters.is_letter.Goals as goal

pub returns : goal.returns
returns c = λ t.
    same-word LETTERS c.args.word.now (only LETTERS c.args.i 1) c.told-word (length-only LETTERS c.args.i 1)
    (λ j lt. c.loop-k.invariant j (omega (arith, lt, c.loop-k-test.false)))
