use Rattle.std.proofs.Common.{arith, refl}
use Rattle.std.proofs.lemmas.List.{same_lists}
use Rattle.description_commands.proofs.alike.are_words.Goals as goal

pub returns : goal.returns
returns c = (
  λ is. same_lists c.args.a.now c.args.b.now (omega (arith, c.if-a-b.false))
      (λ j d lt. c.loop-k.invariant j d (omega (arith, lt, c.loop-k-test.false))),
  λ is. refl,
)
