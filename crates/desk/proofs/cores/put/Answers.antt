use Rattle.std.proofs.Common.{◌≡◌, sym, subst, set, length}
use Rattle.std.proofs.lemmas.List.{length-set}
use Rattle.desk.specs.Desks.{IsWith}
use Rattle.desk.proofs.Lists.{with_set}
use Rattle.desk.proofs.cores.put.Goals as goal

pub returns-clause-placed : goal.returns-clause-placed
returns-clause-placed g c =
    subst (λ x. IsWith c.args.cores.now.items c.args.place c.args.core
    (set c.args.cores.now.items c.args.place x)) (sym c.replace.ensures.after)
    (with_set c.args.cores.now.items c.args.place c.args.core c.requires)

pub returns-clause-length : goal.returns-clause-length
returns-clause-length g c = length-set c.args.cores.now.items c.args.place _
