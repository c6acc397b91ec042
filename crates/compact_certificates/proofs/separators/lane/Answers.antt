use Rattle.std.proofs.Common.{ap, sym, arith}
use Rattle.std.specs.Prelude.{slice_index, slice_index_or, false}
use Rattle.compact_certificates.proofs.Bits.{one_mark_more}
use Rattle.compact_certificates.proofs.separators.lane.Goals as goal

pub loop-j-preserved : goal.loop-j-preserved
loop-j-preserved c = λ k l.
    one_mark_more
    (slice_index_or c.args.marked.now (slice_index c.args.elements.now c.loop-j.j) false)
    c.loop-j.lane c.loop-j.j k
    (slice_index_or c.args.marked.now (slice_index c.args.elements.now k) false) (omega arith) l
    (c.loop-j.invariant k l)
    (λ e. ap (λ i. slice_index_or c.args.marked.now (slice_index c.args.elements.now i) false)
    (sym e))
