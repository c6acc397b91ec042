use Rattle.std.proofs.Common.{length, refl, arith}
use Rattle.presentations.specs.declared.TheConstants.{LETTERS}
use Rattle.presentations.specs.Vectors.{only}
use Rattle.kept_positions.specs.Numbers.{entry}
use Rattle.presented_tables.specs.Elements.{Takes}
use Rattle.presented_tables.proofs.Below.{below}
use Rattle.presented_tables.proofs.standing.are_steps.Goals as goal

pub loop-i-preserved : goal.loop-i-preserved
loop-i-preserved g c =
    below (λ k. Takes c.args.p.now c.args.e.now (only LETTERS k 1) c.args.x
    (entry c.args.e.now.steps (length c.args.p.now.letters) c.args.x k)) c.loop-i.i c.loop-i.invariant
    (c.if-not-is_step.ensures refl)

pub returns : goal.returns
returns g c = λ _ i h. c.loop-i.invariant i (grind arith)
