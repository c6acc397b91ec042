use Rattle.position_commands.proofs.Joined.{speaking, unspoken}
use Rattle.position_commands.proofs.Won.{never_both}
use Rattle.position_commands.proofs.wins.wins_said.Goals as goal

pub returns-then-speaks_of : goal.returns-then-speaks_of
returns-then-speaks_of c =
    speaking c.args.quotient.now c.args.position.now c.spoken_wins.result
    (c.speaks_of.ensures.speaks.0 c.if-speaks_of.true) c.spoken_wins.ensures

pub returns : goal.returns
returns c =
    let no = c.if-speaks_of.false in
    unspoken c.args.quotient.now c.args.position.now c.in_ok-beyond.field-0.text.items c.in_ok-beyond.field-0.succeeds
    (λ speaks. never_both c.speaks_of.result (c.speaks_of.ensures.speaks.1 speaks) no)
    (λ d is some. never_both c.speaks_of.result (c.speaks_of.ensures.full d is some) no)
    (λ d is. never_both c.speaks_of.result (c.speaks_of.ensures.whole d is) no)
    c.in_ok-beyond.ensures.text c.in_ok-beyond.ensures.succeeds
