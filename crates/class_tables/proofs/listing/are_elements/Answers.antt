use Rattle.std.proofs.Common.{refl, arith}
use Rattle.presented_claims.specs.Claims.{IsElement}
use Rattle.presented_tables.proofs.Below.{below}
use Rattle.class_tables.specs.Classes.{word_at}
use Rattle.class_tables.proofs.listing.are_elements.Goals as goal

pub loop-w-preserved : goal.loop-w-preserved
loop-w-preserved g c =
    below (λ k. IsElement c.args.p.now (word_at c.args.list.now k)) c.loop-w.w c.loop-w.invariant
    (c.if-not-is_element_at.ensures refl)

pub returns : goal.returns
returns g c = λ _ i h. c.loop-w.invariant i (grind arith)
