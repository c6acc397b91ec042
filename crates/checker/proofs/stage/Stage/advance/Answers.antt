use Rattle.std.proofs.Common.{◌≡◌, false, true≢false, inl, refl, sym, subst, ap, ◌∙◌, arith}
use native.Mathlib.Decide.{dec_lt}
use Rattle.checker.specs.Stages.{HasCome, has_ended, phase_of}
use Rattle.checker.proofs.StageLemmas.{early, same-going}
use Rattle.checker.proofs.DueLemmas.{come_to}
use Rattle.checker.proofs.stage.Stage.advance.Goals as goal

pub stages-init : goal.stages-init
stages-init g c = record {
  come = λ n h. subst (λ k. HasCome c.args.bytes.now c.args.limit k (phase_of c.args.self.now)) (omega arith) h;
  spends = omega arith;
  ended = λ e. (refl, refl);
  idle = λ e. refl;
}

pub stages-preserved-then-left-gt0 : goal.stages-preserved-then-left-gt0
stages-preserved-then-left-gt0 g c =
    let i = c.stages.invariant in
    let going : has_ended c.stages.self ≡ false = sym c.has_ended.ensures ∙ c.if-not-has_ended.true in
    let w = c.go_on.ensures in
    let r = w.runs c.args.bytes.now c.args.limit in
    let still = same-going (phase_of c.stages.self) (phase_of c.go_on.new.self) going w.same in
    let comes = (rw c.replace-stage.ensures.value at c.work.ensures) still in
    let a = r.within in
    let b = comes.runs.within in
    let d = i.spends in
    record {
      come = λ n h. rw c.set.ensures
          (come_to c.args.bytes.now c.args.limit _ c.go_on.new.left c.work.new.left _
          (phase_of c.go_on.new.self) comes.to _ still
          (come_to c.args.bytes.now c.args.limit _ c.stages.left c.go_on.new.left _
          (phase_of c.stages.self) _ (phase_of c.go_on.new.self) going (i.come n h) r (inl refl) refl)
          comes.runs comes.shown (omega arith));
      spends = omega arith;
      ended = λ e. absurd (true≢false (sym e ∙ (ap has_ended (sym (i.ended e).0) ∙ going)));
      idle = λ e. absurd (omega arith);
    }

pub stages-preserved : goal.stages-preserved
stages-preserved g c =
    let i = c.stages.invariant in
    let going : has_ended c.stages.self ≡ false = sym c.has_ended.ensures ∙ c.if-not-has_ended.true in
    let w = c.go_on.ensures in
    let r = w.runs c.args.bytes.now c.args.limit in
    let a = r.within in
    let d = i.spends in
    record {
      come = λ n h. come_to c.args.bytes.now c.args.limit _ c.stages.left c.go_on.new.left _
          (phase_of c.stages.self) _ (phase_of c.go_on.new.self) going (i.come n h) r (inl refl)
          (omega arith);
      spends = omega arith;
      ended = λ e. absurd (true≢false (sym e ∙ (ap has_ended (sym (i.ended e).0) ∙ going)));
      idle = λ e. absurd (omega arith);
    }

pub stages-smaller-then-left-gt0 : goal.stages-smaller-then-left-gt0
stages-smaller-then-left-gt0 g c =
    let going : has_ended c.stages.self ≡ false = sym c.has_ended.ensures ∙ c.if-not-has_ended.true in
    let w = c.go_on.ensures in
    let still = same-going (phase_of c.stages.self) (phase_of c.go_on.new.self) going w.same in
    let comes = (rw c.replace-stage.ensures.value at c.work.ensures) still in
    let a = (w.runs c.args.bytes.now c.args.limit).within in
    let b = comes.runs.within in
    let d = w.same in
    let e = early (phase_of c.stages.self) going in
    rw c.set.ensures (elim (dec_lt 0 c.work.new.left) [
      | no f ↦ omega (arith, f)
      | yes l ↦ elim (dec_lt c.work.new.left c.go_on.new.left) [
        | yes x ↦ omega arith
        | no f ↦ (let later = comes.on l (omega (arith, f)) in omega arith)
      ]
    ])
