use Rattle.std.proofs.Common.{get_or, sym, arith}
use Rattle.std.specs.Prelude.{slice_index}
use Rattle.std.proofs.lemmas.Grind.{get_or_default_zero}
use Rattle.std.proofs.lemmas.List.Edits.{map_over_more}
use Rattle.compact_certificates.proofs.products.read_at.Goals as goal

pub loop-i-preserved : goal.loop-i-preserved
loop-i-preserved c =
    map_over_more (slice_index c.args.row.now) c.args.numbers.now c.loop-i.numbers c.loop-i.i
    (get_or c.loop-i.numbers c.loop-i.i 0) (omega arith) c.loop-i.invariant
    (sym (get_or_default_zero c.loop-i.numbers c.loop-i.i (get_or c.loop-i.numbers c.loop-i.i 0)
    (omega arith)))
