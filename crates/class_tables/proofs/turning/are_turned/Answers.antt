use Rattle.std.proofs.Common.{ℕ, ◌<◌, refl, arith}
use Rattle.presented_tables.proofs.Below.{below}
use Rattle.class_tables.specs.Turns.{IsTurned}
use Rattle.class_tables.proofs.turning.are_turned.Goals as goal

pub loop-k-preserved : goal.loop-k-preserved
loop-k-preserved g c =
    below (λ m. (h : ℕ) → h < c.args.t.now.heaps
    → IsTurned c.args.p.now c.args.l.now c.args.s.now c.args.f.now c.args.t.now c.args.u.now m h) c.loop-k.k
    c.loop-k.invariant (c.if-not-are_heaps_turned.ensures refl)

pub returns : goal.returns
returns g c = λ _ k h lt heap. c.loop-k.invariant k (grind arith) h heap
