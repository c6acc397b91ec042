use Rattle.std.proofs.lemmas.Result.{IfErr-weaker}
use Rattle.solve_library.proofs.Handed.{untold-of}
use Rattle.solve_library.proofs.describing.described.Goals as goal

pub returns-in-Ok-clause-why : goal.returns-in-Ok-clause-why
returns-in-Ok-clause-why c =
    IfErr-weaker c.text_by.result _ _
    (untold-of c.args.bytes.now c.args.limit c.args.output c.args.form c.in-Ok.certified
    c.in-Ok.ensures.true_of c.in-Ok.ensures.decided)
    c.text_by.ensures.why
