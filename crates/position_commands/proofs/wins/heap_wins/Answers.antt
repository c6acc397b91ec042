use Rattle.std.proofs.Common.{◌∙◌, ◌+◌, ◌++◌, ap, arith, subst, sym, List, ℕ}
use Rattle.std.specs.String.{string_bytes}
use Rattle.position_commands.specs.Wins.{AreHeapWins}
use Rattle.position_commands.specs.Wins.AreHeapWins.{NoHeap, Again, Next}
use Rattle.position_commands.proofs.wins.heap_wins.Goals as goal
use Rattle.position_commands.proofs.wins.heap_wins.Goals.{then-at-eq0+in_ok-lines+in_ok-push_str, else-at-eq0+else-heaps-at}

pub loop-at-init : goal.loop-at-init
loop-at-init c =
    subst (λ (t : List ℕ). AreHeapWins c.args.quotient.now c.args.heaps.now 0 t)
    (sym c.new-text.ensures.bytes) NoHeap

pub loop-at-preserved : goal.loop-at-preserved
loop-at-preserved c = elim c.if-at-eq0.branch [
  | then-at-eq0+in_ok-lines+in_ok-push_str w ↦
      subst (λ (t : List ℕ). AreHeapWins c.args.quotient.now c.args.heaps.now (c.loop-at.at + 1) t)
      (sym (ap string_bytes w.text-is ∙ w.in_ok-push_str.ensures.bytes
      ∙ ap (λ (t : List ℕ). string_bytes c.loop-at.text ++ t) w.as_str.ensures.value))
      (Next c.loop-at.at c.loop-at.invariant w.in_ok-lines.ensures)
  | else-at-eq0+else-heaps-at w ↦
      let some = w.if-at-eq0.false in
      subst (λ (t : List ℕ). AreHeapWins c.args.quotient.now c.args.heaps.now (c.loop-at.at + 1) t)
      (sym (ap string_bytes w.text-is))
      (Again c.loop-at.at (omega (arith, some)) w.if-heaps-at.false c.loop-at.invariant)
]
