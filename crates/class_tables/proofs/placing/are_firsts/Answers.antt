use Rattle.std.proofs.Common.{◌≡◌, refl, arith}
use Rattle.presented_tables.specs.Elements.{place}
use Rattle.presented_tables.proofs.Below.{below}
use Rattle.class_tables.specs.Classes.{word_at}
use Rattle.class_tables.proofs.placing.are_firsts.Goals as goal

pub loop-k-preserved : goal.loop-k-preserved
loop-k-preserved g c =
    below (λ j. place c.args.list.now (word_at c.args.list.now j) ≡ j) c.loop-k.k c.loop-k.invariant
    (c.if-not-is_first_at.ensures refl)

pub returns : goal.returns
returns g c = λ _. record { each = λ k lt. c.loop-k.invariant k (grind arith) }
