use Rattle.relations.proofs.Among.{among-trans}
use Rattle.relations.proofs.generating.generators.Goals as goal

pub returns-clause-among : goal.returns-clause-among
returns-clause-among g c =
    among-trans c.args.elements.now c.in_ok-first.first.items c.in_ok-kept.kept.items
    c.in_ok-first.ensures.among c.in_ok-kept.ensures.among
