use Rattle.std.proofs.Common.{◌≡◌, ◌*◌, length, true, ap, arith}
use Rattle.presented_tables.specs.Rows.{IsColumnMark}
use Rattle.presented_tables.proofs.Filled.{all-filled}
use Rattle.presented_tables.proofs.rows.columns.Goals as goal

pub returns-clause-columns : goal.returns-clause-columns
returns-clause-columns g c =
    let all : c.loop-g.g ≡ length c.args.s.now.sizes = grind arith in
    all-filled (IsColumnMark c.args.p.now c.args.e.now c.args.s.now) (length c.args.s.now.sizes)
    (length c.args.e.now.words) (c.loop-g.g * length c.args.e.now.words) true c.loop-g.columns.items
    (ap (λ n. n * length c.args.e.now.words) all) c.loop-g.invariant
