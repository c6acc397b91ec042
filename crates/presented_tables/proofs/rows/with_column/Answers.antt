use Rattle.std.proofs.Common.{◌<◌, length, true, rules}
use Rattle.presented_tables.specs.Rows.{IsColumnMark}
use Rattle.presented_tables.proofs.Filled.{one-more-in}
use Rattle.presented_tables.proofs.rows.with_column.Goals as goal

pub loop-x-preserved : goal.loop-x-preserved
loop-x-preserved g c =
    let inside : c.loop-x.x < length c.args.e.now.words = search rules in
    one-more-in (IsColumnMark c.args.p.now c.args.e.now c.args.s.now) (length c.args.e.now.words) c.args.g c.loop-x.x
    true c.in_ok-bad.bad c.loop-x.columns.items c.push.new.self.items inside c.loop-x.invariant c.in_ok-push.ensures.items
    c.in_ok-bad.ensures.mark
