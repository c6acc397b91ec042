use Rattle.std.proofs.Common.{◌≡◌, ap, subst, Some, List, ℕ, length, arith}
use Rattle.desk.specs.Desks.{HasNoCore}
use Rattle.desk.proofs.Filled.{core_for_push}
use Rattle.desk.proofs.Lists.{on_err}
use Rattle.desk.proofs.cores.core_for.Goals as goal

pub returns-in_err-push-clause-err : goal.returns-in_err-push-clause-err
returns-in_err-push-clause-err g c =
    let none : HasNoCore c.args.cores.now.items c.args.bytes.items c.args.limit =
    subst (λ (b : List ℕ). HasNoCore c.args.cores.now.items b c.args.limit)
    c.deref.ensures.value c.in_default.ensures.none in
    on_err ((c.push.new.self.items ≡ c.args.cores.now.items)
    × HasNoCore c.args.cores.now.items c.args.bytes.items c.args.limit) c.from_residual.result
    (c.in_err-push.ensures.items, none)

pub returns-clause-ok : goal.returns-clause-ok
returns-clause-ok g c =
    let none : HasNoCore c.args.cores.now.items c.args.bytes.items c.args.limit =
    subst (λ (b : List ℕ). HasNoCore c.args.cores.now.items b c.args.limit)
    c.deref.ensures.value c.in_default.ensures.none in
    let len = c.args.cores.now.ok in
    let at : c.len-core.result ≡ length c.args.cores.now.items = omega arith in
    core_for_push c.args.cores.now.items c.push.new.self.items c.len-core.result c.args.bytes.items
    c.args.limit (Some c.open-2.result) none at (ap Some c.open-2.ensures)
    c.in_ok-push.ensures.items
