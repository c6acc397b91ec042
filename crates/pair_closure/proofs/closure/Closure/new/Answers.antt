use Rattle.std.proofs.Common.{refl, rules, arith}
use Rattle.transition_algebra.specs.Pairs.{one}
use Rattle.pair_closure.proofs.closure.Closure.new.Goals as goal

pub invariant_of-result : goal.invariant_of-result
invariant_of-result g c = (
  record {
    lawful = search rules;
    heaps_in = λ k l. c.requires.pairs k one l;
    short = c.requires.short;
    small = search rules;
    run = rw (c.new.ensures, c.new-2.ensures.items, c.new-3.ensures.items) refl;
  },
  λ k l m. absurd (omega (arith, l)),
  c.requires.fits,
  c.requires.few,
)
