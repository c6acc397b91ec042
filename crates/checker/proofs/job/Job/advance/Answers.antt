use Rattle.std.proofs.Common.{◌+◌, ◌-◌, ◌^◌, ◌<◌, subst, arith}
use Rattle.checker.specs.JobViews.{HasAdvanced}
use Rattle.checker.proofs.AdvanceLemmas.{seen, has_advanced}
use Rattle.checker.proofs.job.Job.advance.Goals as goal

pub overflow_add-self : goal.overflow_add-self
overflow_add-self g c =
    let j = c.self.inside in
    let e = c.checks_end.ensures in
    let h = rw c.deref.ensures.value at c.advance.ensures.come j.spent c.self.invariant in
    let w = e.before j.bytes.items j.limit _ h.to h.reaches in
    let b = e.few j.bytes.items j.limit (omega arith) in
    let s = c.advance.ensures.spends in
    omega arith

pub returns : goal.returns
returns g c =
    let j = c.self.inside in
    let r = c.advance.ensures in
    let e = c.checks_end.ensures in
    let h = rw c.deref.ensures.value at r.come j.spent c.self.invariant in
    let w = e.before j.bytes.items j.limit _ h.to h.reaches in
    let b = e.few j.bytes.items j.limit (omega arith) in
    let f : j.spent + (c.args.units - c.advance.new.left) < 2 ^ 52 = omega arith in
    subst
    (λ v. HasAdvanced c.args.units v
    (seen j.bytes.items j.limit (j.spent + (c.args.units - c.advance.new.left)) c.advance.new.self))
    c.self.view_is
    (has_advanced j.bytes.items j.limit c.args.units c.advance.new.left j.spent j.stage
    c.advance.new.self
    r.spends r.whole r.ended r.idle f)
