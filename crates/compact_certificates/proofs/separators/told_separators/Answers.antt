use Rattle.std.proofs.Common.{arith}
use Rattle.compact_certificates.specs.Separators.{separator_of, separators_of}
use Rattle.compact_certificates.proofs.Told.{one_row_more, all_pairs_told}
use Rattle.compact_certificates.proofs.separators.told_separators.Goals as goal

pub loop-x-preserved : goal.loop-x-preserved
loop-x-preserved g c = λ claim h e.
    one_row_more (separator_of claim) c.loop-x.found.items c.push_separators.new.found.items
    (separators_of claim) c.loop-x.x c.args.order (omega arith) (c.loop-x.invariant claim h e)
    (c.in_ok-push_separators.ensures claim h e)

pub returns : goal.returns
returns g c = λ claim h e.
    all_pairs_told (separator_of claim) c.loop-x.found.items (separators_of claim) c.loop-x.x
    c.args.order (omega arith) (c.loop-x.invariant claim h e)
