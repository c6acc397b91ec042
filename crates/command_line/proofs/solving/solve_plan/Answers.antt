use Rattle.std.proofs.Common.{◌∙◌, ap, sym, refl, if◌then◌else◌, Bool}
use Rattle.command_line.specs.Requests.{arguments_of, infinite_search, search}
use Rattle.command_line.proofs.SearchLemmas.{meant}
use Rattle.command_line.proofs.solving.solve_plan.Goals as goal

pub returns-then-asks_for_infinite : goal.returns-then-asks_for_infinite
returns-then-asks_for_infinite c =
    meant (arguments_of c.args.given.now) infinite_search
    (ap (λ (b : Bool). if b then infinite_search else search) (sym c.asks_for_infinite.ensures ∙ c.if-asks_for_infinite.true))
    refl c.infinite_search_plan.result c.infinite_search_plan.ensures

pub returns-else-asks_for_infinite : goal.returns-else-asks_for_infinite
returns-else-asks_for_infinite c =
    meant (arguments_of c.args.given.now) search
    (ap (λ (b : Bool). if b then infinite_search else search) (sym c.asks_for_infinite.ensures ∙ c.if-asks_for_infinite.false))
    refl c.search_plan.result c.search_plan.ensures
