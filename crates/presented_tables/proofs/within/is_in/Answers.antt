use Rattle.std.proofs.Common.{refl, arith}
use Rattle.presentations.specs.declared.TheConstants.{LETTERS}
use Rattle.presented_tables.proofs.Words.{in-all}
use Rattle.presented_tables.proofs.within.is_in.Goals as goal

pub returns-clause-within : goal.returns-clause-within
returns-clause-within c = (
  λ _. in-all c.args.letters LETTERS c.args.word.now c.told-word
      (λ k lt le. c.loop-i.invariant k (omega (arith, lt, c.loop-i-test.false)) le),
  λ _. refl,
)
