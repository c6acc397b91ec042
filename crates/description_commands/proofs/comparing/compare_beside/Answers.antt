use Rattle.description_commands.proofs.FoundIsomorphism.{compares_found}
use Rattle.description_commands.proofs.comparing.compare_beside.Goals as goal

pub returns-clause-compares : goal.returns-clause-compares
returns-clause-compares g c =
    compares_found c.args.a.now _ c.args.limit c.in_ok-found.found _ _
    c.in_ok-found.ensures.found c.in_ok-said_beside.ensures
