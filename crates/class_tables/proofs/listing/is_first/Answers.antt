use Rattle.std.proofs.Common.{sym, ◌∙◌}
use Rattle.presentations.specs.declared.TheConstants.{LETTERS}
use Rattle.presented_tables.proofs.Taking.{all-zeros}
use Rattle.class_tables.proofs.listing.is_first.Goals as goal

pub returns-in-Some : goal.returns-in-Some
returns-in-Some g c = λ t. (
  c.in-Some.ensures.0,
  sym c.in-Some.ensures.1
      ∙ all-zeros LETTERS c.in-Some.word.now c.is_in.ensures.long (c.is_in.ensures.within.0 t),
)
