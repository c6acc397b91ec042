use Rattle.std.proofs.Common.{◌-◌}
use Rattle.normal_forms.proofs.RuleTables.{row-place}
use Rattle.normal_forms.proofs.table.RuleTable.row_for.Goals as goal

pub returns : goal.returns
returns g c =
    let place = c.in_ok-r.ensures in
    row-place c.args.rules.now c.in_ok-row.row.now c.args.g c.args.i c.args.e c.in_ok-r.r c.requires.letter place.0
    place.1 c.in_ok-row.ensures
