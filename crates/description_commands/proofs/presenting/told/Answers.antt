use Rattle.std.proofs.Common.{List, ℕ, subst, sym}
use Rattle.presented_text.specs.Spelling.{SpellsPresented}
use Rattle.description_commands.specs.Described.TellsPresentation.{Presenting}
use Rattle.description_commands.proofs.presenting.told.Goals as goal

pub returns : goal.returns
returns c =
    let found = c.into_text.ensures.found in
    Presenting c.args.found.quotient
    (subst (λ (t : List ℕ). SpellsPresented t c.args.found.quotient.said) (sym c.into_text.ensures.text)
    found.spelled)
    found.right c.requires.code c.requires.heaps c.requires.period
