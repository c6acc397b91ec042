use Rattle.std.proofs.Common.{[], ◌∷◌, inr, subst}
use Rattle.presented_tables.specs.Elements.{element}
use Rattle.presented_tables.specs.Tested.{Says}
use Rattle.presented_tables.proofs.beside.heap_beside.Goals as goal

pub returns-then-option-2 : goal.returns-then-option-2
returns-then-option-2 g c =
    inr (
      subst (Says c.args.p.now (element c.args.e.now c.args.x) (c.args.n ∷ [])) c.if-own.false c.in_ok-own.ensures,
      c.in_ok-option.ensures.some c.if-option-2.true,
    )
