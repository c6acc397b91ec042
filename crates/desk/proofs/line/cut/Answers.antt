use Rattle.std.proofs.Common.{arith}
use Rattle.std.proofs.lemmas.Str.Pattern.{split_parts}
use Rattle.desk.proofs.Cuts.{cut_parts}
use Rattle.desk.proofs.line.cut.Goals as goal

pub returns : goal.returns
returns c =
    cut_parts c.args.text.now c.split_once.result
    (split_parts 32 c.args.text.now c.split_once.result c.split_once.ensures.cases (omega arith))
