use Rattle.std.proofs.Common.{◌≡◌, ◌+◌, ◌-◌, ℕ, length, ap, sym, ◌∙◌, arith, length-set}
use Rattle.std.specs.Prelude.{slice_index}
use Rattle.presentations.specs.declared.TheConstants.{LETTERS}
use Rattle.normal_forms.proofs.Replaced.{exponent-few, replaced-is, replaced-next}
use Rattle.label_players.proofs.reducing.replaced.Goals as goal

abbrev left_is : (c : goal.After-changed-in-loop-i-3-1) → c.rule.inside.left ≡ c.args.rule.now.0
left_is c = ap (λ p. p.0) c.rule.view_is

abbrev right_is : (c : goal.After-changed-in-loop-i-3-1) → c.rule.inside.right ≡ c.args.rule.now.1
right_is c = ap (λ p. p.1) c.rule.view_is

pub overflow_add-changed : goal.overflow_add-changed
overflow_add-changed c =
    let few =
    exponent-few LETTERS c.args.rule.now.0 c.args.rule.now.1 c.args.word.now c.loop-i.i
    c.loop-i-test.true c.requires.divides c.requires.falls
    in
    rw (left_is c, right_is c) (omega (arith, few, c.requires.few))

pub loop-i-preserved : goal.loop-i-preserved
loop-i-preserved c =
    rw (left_is c, right_is c)
    (record {
      long = omega (
        arith,
        c.loop-i.invariant.long,
        length-set {A = ℕ} c.loop-i.changed c.loop-i.i
            (slice_index c.args.word.now c.loop-i.i - slice_index c.args.rule.now.0 c.loop-i.i
            + slice_index c.args.rule.now.1 c.loop-i.i),
      );
      so_far =
          replaced-next LETTERS c.args.rule.now.0 c.args.rule.now.1 c.args.word.now c.loop-i.changed
          c.loop-i.i c.loop-i.invariant.long c.loop-i-test.true c.loop-i.invariant.so_far;
    })

pub returns : goal.returns
returns c =
    replaced-is LETTERS c.args.rule.now c.args.word.now c.loop-i.changed
    (ap (λ p. length p.0) (sym c.rule.view_is) ∙ c.rule.told.0)
    (ap (λ p. length p.1) (sym c.rule.view_is) ∙ c.rule.told.1)
    c.told-word c.loop-i.invariant.long c.requires.divides
    (λ i lt. c.loop-i.invariant.so_far i (omega (arith, lt, c.loop-i-test.false)))
