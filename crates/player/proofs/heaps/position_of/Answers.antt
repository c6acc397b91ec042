use Rattle.std.proofs.Common.{◌≡◌, ℕ, suc, ◌+◌, List, get_or, sym, ◌∙◌, ap, subst, arith}
use Rattle.std.specs.Prelude.{take}
use Rattle.std.specs.List.Sorted.{IsPermutation}
use Rattle.std.proofs.Math.Seq.{take-suc}
use Rattle.std.proofs.lemmas.List.Sorted.{IsPermutation-push_more}
use Rattle.player.proofs.heaps.position_of.Goals as goal

pub loop-heap-preserved : goal.loop-heap-preserved
loop-heap-preserved c =
    let X = c.args.heaps.now in let i = c.loop-heap.heap-index in
    let next : suc i ≡ i + 1 = omega arith in
    subst (λ (xs : List ℕ). IsPermutation xs c.push.new.self)
    (sym (take-suc X i 0 c.loop-heap-test.true) ∙ ap (λ n. take n X) next)
    (IsPermutation-push_more (take i X) c.loop-heap.position c.push.new.self (get_or X i 0)
    c.loop-heap.invariant c.in_ok-push.ensures.ok)
