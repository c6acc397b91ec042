use Rattle.std.proofs.Common.{inl, inr, rules}
use Rattle.misere_theory.proofs.Outcomes.{determined}
use Rattle.player.proofs.answering.outcome_by.Goals as goal

pub returns-else-is_p : goal.returns-else-is_p
returns-else-is_p g c = elim (determined (g.L.Labelling.code c.args.by.now) c.args.heaps.now) [
  | inl p ↦ let t = (c.is_p.ensures c.args.heaps.now c.label.ensures (search rules)).1 p in
      let f = c.if-is_p.false in cc
  | inr n ↦ n
]
