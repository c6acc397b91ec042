use Rattle.std.proofs.Common.{◌∙◌, ap}
use Rattle.misere_theory.specs.Certificates.{claim_of}
use Rattle.position_commands.proofs.Separated.{none_more, same_by}
use Rattle.position_commands.proofs.telling.separating.Goals as goal

pub loop-z-preserved : goal.loop-z-preserved
loop-z-preserved c =
    let C = claim_of c.args.certified.now in
    none_more c.args.certified.now c.args.x c.args.y c.loop-z.z c.holds-one.result c.holds-other.result
    (c.holds-one.ensures ∙ ap C.portion c.times.ensures.value)
    (c.holds-other.ensures ∙ ap C.portion c.times-in-loop-z.ensures.value)
    (same_by c.holds-one.result c.holds-other.result c.if-one-other.false)
    c.loop-z.invariant
