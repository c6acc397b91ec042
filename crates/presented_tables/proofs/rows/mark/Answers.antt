use Rattle.std.proofs.Common.{◌≡◌, slice_index, subst, rules}
use Rattle.presented_tables.specs.Elements.{element}
use Rattle.presented_tables.specs.Beside.{IsBeside}
use Rattle.presented_tables.specs.declared.beside.Beside.TheVariants.{Good}
use Rattle.presented_tables.proofs.rows.mark.Goals as goal

pub returns-in-Some-Good-clause-mark : goal.returns-in-Some-Good-clause-mark
returns-in-Some-Good-clause-mark g c =
    let same : c.in-Some.n ≡ slice_index c.args.s.now.sizes c.args.g = search rules in
    subst (λ m. IsBeside c.args.p.now (element c.args.e.now c.args.x) m Good) same
    (subst (IsBeside c.args.p.now (element c.args.e.now c.args.x) c.in-Some.n) c.in-Some-Good.field-0-is
    c.in-Some-Good.ensures)
