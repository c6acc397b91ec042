use Rattle.std.proofs.lemmas.Result.{IfOk-weaker}
use Rattle.solve_command.specs.Searches.{SearchesAny, SearchesFurthest}
use Rattle.solve_command.specs.Searches.SearchesAny.{OfPart}
use Rattle.solve_command.proofs.search.search_any.Goals as goal

pub returns-then-has_missed-clause-searched : goal.returns-then-has_missed-clause-searched
returns-then-has_missed-clause-searched g c =
    IfOk-weaker c.search_furthest.result
    (λ s. SearchesFurthest g.S.Searches.has_asked c.args.code.now c.args.bounds s.came)
    (λ s. SearchesAny g.S.Searches.has_asked c.args.code.now c.args.bounds s.came)
    (λ s h. OfPart c.whole-whole.result.came c.whole-whole.ensures.asked
    (c.has_missed.ensures.0 c.if-has_missed.true) h)
    c.search_furthest.ensures.searched
