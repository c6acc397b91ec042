use Rattle.std.proofs.Common.{arith}
use Rattle.presentations.specs.declared.TheConstants.{LETTERS}
use Rattle.presented_forms.proofs.InLetters.{in-all}
use Rattle.presented_forms.proofs.within.is_within.Goals as goal

pub returns : goal.returns
returns c = λ t.
    in-all c.args.letters c.args.word.now c.told-word
    (λ k lt le. c.loop-i.invariant k (omega (arith, lt, c.loop-i-test.false)) le)
