use Rattle.std.proofs.Common.{◌∙◌, arith}
use Rattle.presentations.specs.declared.TheConstants.{LETTERS}
use Rattle.presented_claims.specs.Claims.{cycled}
use Rattle.normal_forms.proofs.Words.{same-word}
use Rattle.presented_tables.proofs.Cycled.{length-cycled}
use Rattle.label_players.proofs.portion.cycled_word.Goals as goal

pub returns : goal.returns
returns c =
    same-word LETTERS c.loop-i.made (cycled c.args.cycles.now c.args.word.now) c.loop-i.invariant.long
    (length-cycled c.args.cycles.now c.args.word.now ∙ c.told-word)
    (λ i lt. c.loop-i.invariant.so_far i (omega (arith, lt, c.loop-i-test.false)))
