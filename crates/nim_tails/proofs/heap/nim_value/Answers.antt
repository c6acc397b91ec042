use Rattle.std.specs.Prelude.{slice_index}
use Rattle.nim_tails.proofs.Marks.{mex_of}
use Rattle.nim_tails.proofs.heap.nim_value.Goals as goal

pub returns : goal.returns
returns c =
    mex_of c.args.code.now (slice_index c.args.values.now) c.args.heap c.marked-marks.result
    c.marked-marks.ensures c.first_free.result c.first_free.ensures
