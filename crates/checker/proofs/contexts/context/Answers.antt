use Rattle.std.proofs.Common.{arith, rules, ◌≡◌, true, inl, inr, sym, ◌∙◌, ap, subst}
use Rattle.std.specs.FinSet as set
use native.Mathlib.Decide.{dec_lt}
use Rattle.misere_theory.specs.Certificates.{claim_of, times_of}
use Rattle.checker.proofs.ElementLemmas.{insert_has, insert_new, insert_old, empty_has}
use Rattle.checker.proofs.contexts.context.Goals as goal

pub loop-y-init : goal.loop-y-init
loop-y-init g c = record {
  each = λ y h. absurd (empty_has y (rw c.new-all.ensures at h));
  every = λ y b. absurd (omega arith);
}

pub loop-y-preserved : goal.loop-y-preserved
loop-y-preserved g c =
    let i = c.loop-y.invariant in
    let s = c.args.certificate.now in
    let put = c.insert.ensures.put (search rules) in
    let here : (claim_of s).portion (times_of s c.args.x c.loop-y.y) ≡ true =
    ap (claim_of s).portion (sym c.times.ensures.value)
    ∙ (sym (c.requires.portion c.times.result) ∙ (sym c.contains.ensures ∙ c.if-not-contains.false))
    in
    record {
      each = λ y h. elim (insert_has c.loop-y.all c.loop-y.y y (rw put at h)) [
        | inl e ↦ (
          omega arith,
          subst (λ v. (claim_of s).portion (times_of s c.args.x v) ≡ true)
              (sym e) here,
        )
        | inr o ↦ (let b = i.each y o in (omega arith, b.1))
      ];
      every = λ y b t. rw put (elim (dec_lt y c.loop-y.y) [
        | yes l ↦ insert_old c.loop-y.all c.loop-y.y y (i.every y l t)
        | no f ↦ (let d : c.loop-y.y ≡ y = omega arith in
            subst (λ v. set.contains (set.insert c.loop-y.all c.loop-y.y) v ≡ true) d
            (insert_new c.loop-y.all c.loop-y.y))
      ]);
    }
