use Rattle.std.proofs.Common.{arith}
use Rattle.compact_certificates.specs.Separators.{separator_of}
use Rattle.compact_certificates.proofs.Told.{one_pair_more}
use Rattle.compact_certificates.proofs.separators.push_separators.Goals as goal

pub loop-y-preserved : goal.loop-y-preserved
loop-y-preserved g c = λ claim h e.
    one_pair_more (separator_of claim) c.args.found.now.items c.loop-y.found.items
    c.push.new.self.items c.args.x c.loop-y.y c.separator.result (omega arith)
    (c.loop-y.invariant claim h e) c.in_ok-push.ensures.items
    (c.separator.ensures claim h (omega arith) (omega arith))
