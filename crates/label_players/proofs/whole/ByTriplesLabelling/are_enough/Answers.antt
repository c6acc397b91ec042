use Rattle.std.proofs.Common.{◌+◌, ◌-◌, subst, arith}
use Rattle.misere_theory.specs.Pairs.{IsSmallSplit}
use Rattle.misere_theory.proofs.Sums.{heaps_kept}
use Rattle.label_players.proofs.whole.ByTriplesLabelling.are_enough.Goals as goal

pub returns-clause-part : goal.returns-clause-part
returns-clause-part g c = heaps_kept c.args.self.now.game.now.code

pub returns-clause-enough : goal.returns-clause-enough
returns-clause-enough g c = λ X p n H w.
    let t = c.args.self.now.game.now in
    let (m, L, v, s) = c.text.ensures.solved.wins X p n H w in
    let from_one = c.text.ensures.ranges.start in
    (m, L, (v, subst (λ k. IsSmallSplit k L) {x = t.start} {y = t.start - 1 + 1} (omega arith) s))
