use Rattle.std.proofs.Common.{◌≡◌, ◌+◌, ◌<◌, suc, true, false, refl, sym, ap, subst, ◌∙◌, inl, inr, arith}
use Rattle.std.proofs.lemmas.Bool.{cases_eq, eq-eqb, eqb-true}
use Rattle.monoid_table.specs.Grids.{times_in}
use Rattle.descriptions.specs.Structure.{IsIdempotent}
use Rattle.descriptions.proofs.PowerLaws.{NoneBelow, power, power-first, power-found, power-missed}
use Rattle.descriptions.proofs.components.is_in_component.Goals as goal

pub loop-step-init : goal.loop-step-init
loop-step-init c = record {
  within = c.requires.x_in;
  is = sym (power-first c.args.table.now c.is_monoid.ensures.monoid c.args.x c.requires.x_in);
  none = λ k lt. absurd (omega (arith, lt));
}

pub loop-step-preserved : goal.loop-step-preserved
loop-step-preserved c =
    let t = c.args.table.now in
    let x = c.args.x in
    let step = c.loop-step._step in
    let next : step + 1 ≡ suc step = omega arith in
    record {
      within = c.times-power.ensures.within;
      is = c.times-power.ensures.value
          ∙ (ap (times_in t x) c.loop-step.invariant.is ∙ sym (ap (power t x) next));
      none = λ k lt is. elim (cases_eq k step) [
        | inl same ↦
            let found : IsIdempotent t c.loop-step.power =
            subst (IsIdempotent t) (ap (power t x) same ∙ sym c.loop-step.invariant.is) is in
            let wrong : false ≡ true = c.if-is_idempotent.ensures.1 found in
            cc
        | inr other ↦
            let low : k < step = omega (arith, lt, other) in
            c.loop-step.invariant.none k low is
      ];
    }

pub returns-then-is_idempotent : goal.returns-then-is_idempotent
returns-then-is_idempotent c =
    let t = c.args.table.now in
    let p = c.loop-step.power in
    let found : IsIdempotent t p = c.if-is_idempotent.ensures.0 refl in (
      λ same. (
        suc c.loop-step._step,
        omega arith,
        sym c.loop-step.invariant.is ∙ eqb-true p c.args.e same,
      ),
      λ h. eq-eqb p c.args.e (power-found t c.is_monoid.ensures.monoid c.args.x c.args.e
          c.loop-step._step p c.requires.x_in c.requires.idempotent c.loop-step.invariant.is found h),
    )

pub returns : goal.returns
returns c =
    let none : NoneBelow c.args.table.now c.args.x c.args.table.now.order =
    λ k lt. c.loop-step.invariant.none k
    (omega (arith, lt, c.loop-step-test.false, c.order-step-end.ensures.value)) in (
      λ wrong. cc,
      λ h. absurd (power-missed c.args.table.now c.is_monoid.ensures.monoid c.args.x c.args.e
          c.requires.x_in c.requires.idempotent none h),
    )
