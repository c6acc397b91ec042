use Rattle.std.proofs.Common.{arith}
use Rattle.presentations.specs.declared.TheConstants.{LETTERS}
use Rattle.normal_forms.proofs.Words.{same-word}
use Rattle.label_players.proofs.wide.widened.Goals as goal

pub returns-clause-same : goal.returns-clause-same
returns-clause-same c =
    same-word LETTERS c.loop-i.wide c.args.word.now c.loop-i.invariant.long c.told-word
    (λ i lt. c.loop-i.invariant.so_far i (omega (arith, lt, c.loop-i-test.false)))

pub returns-clause-small : goal.returns-clause-small
returns-clause-small c = λ i lt. c.loop-i.invariant.small i (omega (arith, lt, c.loop-i-test.false))
