use Rattle.std.proofs.Common.{◌≡◌, ◌+◌, ◌-◌, ℕ, length, ap, sym, ◌∙◌, arith, length-set}
use Rattle.std.specs.Prelude.{slice_index}
use Rattle.presentations.specs.declared.TheConstants.{LETTERS}
use Rattle.normal_forms.specs.declared.TheConstants.{MOST_LETTERS}
use Rattle.normal_forms.specs.Reductions.{side_of}
use Rattle.normal_forms.proofs.Sides.{side-few, side-exponent, side-is, side-next}
use Rattle.normal_forms.proofs.pairs.side.Goals as goal

abbrev side_is : (c : goal.After-loop-i) → c.loop-i.side ≡ side_of c.args.one.now c.args.other.now
side_is c =
    side-is LETTERS c.args.one.now c.args.other.now c.loop-i.side
    (ap (λ p. length p.1) (sym c.one.view_is) ∙ c.one.told.1)
    (ap (λ p. length p.0) (sym c.other.view_is) ∙ c.other.told.0) c.loop-i.invariant.long
    (λ i lt. c.loop-i.invariant.so_far i (omega (arith, lt, c.loop-i-test.false)))

pub overflow_add-side : goal.overflow_add-side
overflow_add-side c =
    let few =
    side-exponent LETTERS MOST_LETTERS c.args.one.now c.args.other.now c.loop-i.i c.loop-i-test.true
    c.requires.few c.requires.falls
    in
    let right : c.one.inside.right ≡ c.args.one.now.1 = ap (λ p. p.1) c.one.view_is in
    let left : c.one.inside.left ≡ c.args.one.now.0 = ap (λ p. p.0) c.one.view_is in
    let other : c.other.inside.left ≡ c.args.other.now.0 = ap (λ p. p.0) c.other.view_is in
    rw (c.saturating_sub.ensures, right, left, other) (omega (arith, few))

pub loop-i-preserved : goal.loop-i-preserved
loop-i-preserved c =
    let right : c.one.inside.right ≡ c.args.one.now.1 = ap (λ p. p.1) c.one.view_is in
    let left : c.one.inside.left ≡ c.args.one.now.0 = ap (λ p. p.0) c.one.view_is in
    let other : c.other.inside.left ≡ c.args.other.now.0 = ap (λ p. p.0) c.other.view_is in
    rw (c.saturating_sub.ensures, right, left, other)
    (record {
      long =
          omega (
            arith,
            c.loop-i.invariant.long,
            length-set {A = ℕ} c.loop-i.side c.loop-i.i
                (slice_index c.args.one.now.1 c.loop-i.i
                + (slice_index c.args.other.now.0 c.loop-i.i
                - slice_index c.args.one.now.0 c.loop-i.i)),
          );
      so_far =
          side-next c.args.one.now.0 c.args.one.now.1 c.args.other.now.0 c.loop-i.side LETTERS c.loop-i.i
          c.loop-i.invariant.long c.loop-i-test.true c.loop-i.invariant.so_far;
    })

pub returns-clause-value : goal.returns-clause-value
returns-clause-value c = side_is c

pub returns-clause-few : goal.returns-clause-few
returns-clause-few c =
    rw (side_is c)
    (side-few LETTERS MOST_LETTERS c.args.one.now c.args.other.now c.requires.few c.requires.falls)
