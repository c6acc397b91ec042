use Rattle.std.proofs.Common.{◌+◌, ◌/◌, refl, arith}
use Rattle.compact_certificates.proofs.Context.{after_long, after_bits}
use Rattle.compact_certificates.proofs.separators.contexts.Goals as goal

pub loop-x-preserved : goal.loop-x-preserved
loop-x-preserved g c =
    let count = (c.args.order + 63) / 64 in
    record {
      long =
          after_long c.args.order count c.loop-x.x c.args.rows.now c.args.marked.now
          c.loop-x.lanes.items c.push_context.new.lanes.items refl (omega arith)
          c.requires.rows_there c.loop-x.invariant.long c.in_ok-push_context.ensures;
      bits =
          after_bits c.args.order count c.loop-x.x c.args.rows.now c.args.marked.now
          c.loop-x.lanes.items c.push_context.new.lanes.items refl (omega arith)
          c.requires.rows_there c.loop-x.invariant.long c.in_ok-push_context.ensures
          c.loop-x.invariant.bits;
    }
