use Rattle.std.proofs.Common.{◌≡◌, ◌∙◌, ap, false, arith}
use Rattle.presented_claims.specs.Claims.{in_portion}
use Rattle.class_tables.specs.Classes.{word_at}
use Rattle.class_tables.proofs.Pushed.{one-pushed}
use Rattle.class_tables.proofs.tables.bits_of.Goals as goal

pub loop-k-preserved : goal.loop-k-preserved
loop-k-preserved g c =
    one-pushed (λ j b. b ≡ in_portion c.args.p.now (word_at c.args.list.now j)) c.loop-k.k false c.in_portion.result
    c.loop-k.bits.items _ c.loop-k.invariant c.in_ok-push.ensures.items
    (c.in_portion.ensures ∙ ap (in_portion c.args.p.now) c.in-Some.ensures.1)

pub returns-clause-long : goal.returns-clause-long
returns-clause-long g c = let h = c.loop-k.invariant.long in grind (arith, h)

pub returns-clause-bits : goal.returns-clause-bits
returns-clause-bits g c = λ k lt. c.loop-k.invariant.items k (grind arith)
