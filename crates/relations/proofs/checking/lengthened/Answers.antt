use Rattle.std.proofs.Common.{refl, arith}
use Rattle.relations.proofs.Letters.{vector-bump}
use Rattle.relations.proofs.checking.lengthened.Goals as goal

pub returns : goal.returns
returns c =
    vector-bump c.args.letters c.args.word.now c.args.i _ c.requires.i_in (omega arith) refl
