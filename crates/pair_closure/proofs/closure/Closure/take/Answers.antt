use Rattle.std.proofs.Common.{ap, rules}
use Rattle.std.specs.Result.{is_err}
use Rattle.pair_closure.proofs.WhichTurn.{goes_empty, goes_product, goes_heap}
use Rattle.pair_closure.proofs.Kept.{stepped, stays, ended_done, ended_over}
use Rattle.pair_closure.proofs.closure.Closure.take.Goals as goal

pub multiply-requires : goal.multiply-requires
multiply-requires g c = (search rules, c.task.ensures.multiply c.in-Multiply.at c.in-Multiply.is)

pub try_heap-requires : goal.try_heap-requires
try_heap-requires g c = (search rules, c.task.ensures.heap c.in-TryHeap.is)

pub returns-in_err-keep_empty-in-KeepEmpty-clause-refused : goal.returns-in_err-keep_empty-in-KeepEmpty-clause-refused
returns-in_err-keep_empty-in-KeepEmpty-clause-refused g c = λ _. goes_empty c.args.self.now.state (c.task.ensures.empty c.in-KeepEmpty.is)

pub returns-in_ok-keep_empty-in-KeepEmpty-clause-left : goal.returns-in_ok-keep_empty-in-KeepEmpty-clause-left
returns-in_ok-keep_empty-in-KeepEmpty-clause-left g c = λ _. goes_empty c.args.self.now.state (c.task.ensures.empty c.in-KeepEmpty.is)

pub returns-in_ok-keep_empty-in-KeepEmpty-clause-ok : goal.returns-in_ok-keep_empty-in-KeepEmpty-clause-ok
returns-in_ok-keep_empty-in-KeepEmpty-clause-ok g c =
    stepped c.args.self.now _ (goes_empty c.args.self.now.state (c.task.ensures.empty c.in-KeepEmpty.is)) c.in_ok-keep_empty-in-KeepEmpty.ensures.ok

pub returns-in_err-multiply-in-Multiply-clause-refused : goal.returns-in_err-multiply-in-Multiply-clause-refused
returns-in_err-multiply-in-Multiply-clause-refused g c = λ _. goes_product c.args.self.now.state _ (c.task.ensures.multiply c.in-Multiply.at c.in-Multiply.is)

pub returns-in_ok-multiply-in-Multiply-clause-left : goal.returns-in_ok-multiply-in-Multiply-clause-left
returns-in_ok-multiply-in-Multiply-clause-left g c = λ _. goes_product c.args.self.now.state _ (c.task.ensures.multiply c.in-Multiply.at c.in-Multiply.is)

pub returns-in_ok-multiply-in-Multiply-clause-ok : goal.returns-in_ok-multiply-in-Multiply-clause-ok
returns-in_ok-multiply-in-Multiply-clause-ok g c =
    stepped c.args.self.now _ (goes_product c.args.self.now.state _ (c.task.ensures.multiply c.in-Multiply.at c.in-Multiply.is)) c.in_ok-multiply-in-Multiply.ensures.ok

pub returns-in_err-try_heap-in-TryHeap-clause-refused : goal.returns-in_err-try_heap-in-TryHeap-clause-refused
returns-in_err-try_heap-in-TryHeap-clause-refused g c = λ _. goes_heap c.args.self.now.state (c.task.ensures.heap c.in-TryHeap.is)

pub returns-in_ok-try_heap-in-TryHeap-clause-left : goal.returns-in_ok-try_heap-in-TryHeap-clause-left
returns-in_ok-try_heap-in-TryHeap-clause-left g c = λ _. goes_heap c.args.self.now.state (c.task.ensures.heap c.in-TryHeap.is)

pub returns-in_ok-try_heap-in-TryHeap-clause-ok : goal.returns-in_ok-try_heap-in-TryHeap-clause-ok
returns-in_ok-try_heap-in-TryHeap-clause-ok g c =
    stepped c.args.self.now _ (goes_heap c.args.self.now.state (c.task.ensures.heap c.in-TryHeap.is)) c.in_ok-try_heap-in-TryHeap.ensures.ok

pub returns-in_err-multiply-in-Multiply-clause-keeps : goal.returns-in_err-multiply-in-Multiply-clause-keeps
returns-in_err-multiply-in-Multiply-clause-keeps g c = λ _.
    c.multiply.ensures.keeps (ap is_err c.in_err-multiply-in-Multiply.was)

pub returns-in-Done-clause-ok : goal.returns-in-Done-clause-ok
returns-in-Done-clause-ok g c = stays c.args.self.now (ended_done c.args.self.now.state (c.task.ensures.done c.in-Done.is))

pub returns-in-Done-clause-last : goal.returns-in-Done-clause-last
returns-in-Done-clause-last g c = λ _. ended_done c.args.self.now.state (c.task.ensures.done c.in-Done.is)

pub returns-in-Over-clause-ok : goal.returns-in-Over-clause-ok
returns-in-Over-clause-ok g c = stays c.args.self.now (ended_over c.args.self.now.state (c.task.ensures.over c.in-Over.is))
