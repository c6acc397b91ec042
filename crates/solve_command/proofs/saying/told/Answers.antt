use Rattle.std.proofs.Common.{sym, subst}
use Rattle.presented_text.specs.Spelling.{SpellsPresented}
use Rattle.solve_command.specs.Found.FindsPart.{Presented}
use Rattle.solve_command.proofs.saying.told.Goals as goal

pub returns : goal.returns
returns c =
    let k = c.args.found.quotient in
    Presented k
    (subst (λ t. SpellsPresented t k.said) (sym c.into_text.ensures.text) c.into_text.ensures.found.spelled)
    c.into_text.ensures.found.right c.requires.endless c.requires.same c.requires.part c.requires.few
