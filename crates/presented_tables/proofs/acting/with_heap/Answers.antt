use Rattle.std.proofs.Common.{subst, sym, ◌∙◌}
use Rattle.presented_claims.specs.Claims.{word_or_one}
use Rattle.presented_tables.specs.Elements.{Takes}
use Rattle.presented_tables.proofs.Taking.{takes-none}
use Rattle.presented_tables.proofs.acting.with_heap.Goals as goal

pub returns-in-None : goal.returns-in-None
returns-in-None g c =
    subst (λ o. Takes c.args.p.now c.args.e.now (word_or_one o) c.args.x c.args.x)
    (sym c.in-None.is ∙ c.word.ensures)
    (takes-none c.args.p.now c.args.e.now c.requires.elements c.args.x c.requires.inside)
