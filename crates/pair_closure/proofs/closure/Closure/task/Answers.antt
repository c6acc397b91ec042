use Rattle.std.proofs.Common.{◌≡◌, true, subst, arith, rules}
use Rattle.std.proofs.lemmas.Bool.Decides.{nat_tests}
use Rattle.pair_closure.specs.Turns.{Multiplies, TriesHeap, is_done}
use Rattle.pair_closure.proofs.closure.Closure.task.Goals as goal

pub returns-then-at-len-clause-multiply : goal.returns-then-at-len-clause-multiply
returns-then-at-len-clause-multiply g c = λ at e.
    subst (λ z. Multiplies z.state at) c.self.view_is (search rules)

pub returns-then-self-len-clause-heap : goal.returns-then-self-len-clause-heap
returns-then-self-len-clause-heap g c = λ _.
    subst (λ z. TriesHeap z.state) c.self.view_is (search rules)

pub returns-clause-done : goal.returns-clause-done
returns-clause-done g c = λ _.
    subst (λ z. is_done z.state ≡ true) c.self.view_is (grind (arith, nat_tests))
