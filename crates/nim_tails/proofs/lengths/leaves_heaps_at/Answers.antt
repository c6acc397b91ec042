use Rattle.std.proofs.Common.{sym, ◌∙◌}
use Rattle.std.proofs.lemmas.Bool.{true≢false}
use Rattle.misere_theory.specs.Games.{digit}
use Rattle.nim_tails.proofs.Digits.{third}
use Rattle.nim_tails.proofs.lengths.leaves_heaps_at.Goals as goal
use Rattle.nim_tails.proofs.lengths.leaves_heaps_at.Goals.{then-allows, else-allows}

pub returns-else-allows-2 : goal.returns-else-allows-2
returns-else-allows-2 c = elim c.if-allows.branch [
  | then-allows w ↦ absurd
      (true≢false (sym w.if-allows.true ∙ (sym w.value-is ∙ c.if-allows-2.false)))
  | else-allows w ↦ third (digit c.args.code.now c.args.j) c.allows.result
      w.allows-else-allows.result c.allows-else-allows-2.result c.allows.ensures.set
      w.allows-else-allows.ensures.set c.allows-else-allows-2.ensures.set w.if-allows.false
      (sym w.value-is ∙ c.if-allows-2.false)
]
