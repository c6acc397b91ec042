use Rattle.command_line.specs.Requests.{arguments_of}
use Rattle.command_line.proofs.CodeLemmas.{empty_given, none_given}
use Rattle.command_line.proofs.solving.search_plan.Goals as goal

pub returns-in-None : goal.returns-in-None
returns-in-None c = none_given (arguments_of c.args.given.now) c.in-None.ensures

pub returns-in-Some-empty : goal.returns-in-Some-empty
returns-in-Some-empty c =
    empty_given (arguments_of c.args.given.now) c.in-Some-empty.field-0.now
    c.in-Some-empty.len_below c.in-Some-empty.ensures
