-- A letter more keeps what AxisLaws says of the axes so far. Above the limit a box stays above it,
-- by SizeLaws.
use Rattle.std.proofs.Common.{List, true, false, ◌≡◌, refl, ◌+◌, ◌*◌, Bool, arith, sym, ◌∙◌}
use Rattle.std.specs.Prelude.{MatchBool}
use Rattle.std.proofs.lemmas.Bool.{MatchBool-at_false}
use Rattle.presentations.specs.declared.read.Relation.{Relation}
use Rattle.presentations.specs.Powers.{IsUnbounded, AreBounded}
use Rattle.presentations.proofs.AxisLaws.{built-skip, built-push, built-end, built-box, few-letters}
use Rattle.presentations.proofs.PowerLaws.{none-at-all}
use Rattle.presentations.proofs.SizeLaws.{least-larger, not-above, above, box-more}
use Rattle.presentations.proofs.Faults.{is-fault}
use Rattle.presentations.proofs.bounds.axes_of.Goals as goal
use Rattle.presentations.proofs.bounds.axes_of.Goals.{then-occurs+in-Some+else-size-most+in_ok-push, else-occurs}

-- past the test, no letter is unbounded
not-unbounded : (relations : List Relation) (b : Bool) → b ≡ false
    → MatchBool b (IsUnbounded relations) (AreBounded relations) → IsUnbounded relations → ⊥
not-unbounded relations b e h u =
    let p = MatchBool-at_false _ _ e h u.letter u.within u.stands in
    u.none (p.0.0, p.0.1, p.1.0.0, p.1.0.1)

pub loop-letter-preserved : goal.loop-letter-preserved
loop-letter-preserved g c = elim c.if-occurs.branch [
  | then-occurs+in-Some+else-size-most+in_ok-push w ↦
      rw (w.axes-is, w.in_ok-push.ensures.items, w.size-is)
      (built-push c.loop-letter.invariant (sym c.occurs.ensures ∙ w.if-occurs.true)
      w.in-Some.ensures.0.1
      (least-larger c.args.relations.now c.loop-letter.letter _ w.in-Some.ensures)
      w.if-size-most.false)
  | else-occurs w ↦
      rw (w.axes-is, w.size-is)
      (built-skip c.loop-letter.invariant (sym c.occurs.ensures ∙ w.if-occurs.false))
]

pub returns-then-limit-eq0-clause-limit : goal.returns-then-limit-eq0-clause-limit
returns-then-limit-eq0-clause-limit g c = λ _.
    above c.args.relations.now c.args.limit
    (MatchBool-at_false _ _ c.if-is_unbounded.false c.is_unbounded.ensures)
    0 1 (omega arith) refl (omega (arith, c.if-limit-eq0.true))

pub returns-in_default-clause-unbounded : goal.returns-in_default-clause-unbounded
returns-in_default-clause-unbounded g c = (
  λ _. record {
    letter = c.loop-letter.letter;
    within = c.loop-letter-test.true;
    stands = sym c.occurs.ensures ∙ c.if-occurs.true;
    none =
        none-at-all c.args.relations.now c.loop-letter.letter c.least_power.result c.in_default.is
        c.least_power.ensures;
  },
  λ _. refl,
)

pub returns-then-size-most-clause-limit : goal.returns-then-size-most-clause-limit
returns-then-size-most-clause-limit g c = λ _.
    above c.args.relations.now c.args.limit
    (MatchBool-at_false _ _ c.if-is_unbounded.false c.is_unbounded.ensures)
    (c.loop-letter.letter + 1) (c.loop-letter.size * c.in-Some.most) (omega arith)
    (box-more c.args.relations.now c.loop-letter.letter c.loop-letter.size c.in-Some.most
    c.loop-letter.invariant.box (sym c.occurs.ensures ∙ c.if-occurs.true)
    (least-larger c.args.relations.now c.loop-letter.letter _ c.in-Some.ensures))
    c.if-size-most.true

pub returns-in_err-push : goal.returns-in_err-push
returns-in_err-push g c =
    rw (is-fault _ _ c.from_residual.ensures.1) (record {
      is_box = tt;
      size = tt;
      count = tt;
      letters = tt;
      within = tt;
      unbounded = (
        λ e. cc,
        λ u. absurd (not-unbounded _ _ c.if-is_unbounded.false c.is_unbounded.ensures u),
      );
      limit = λ e. cc;
      not_text = λ e. cc;
    })

pub returns : goal.returns
returns g c =
    let b = built-end c.loop-letter.invariant (omega arith) (omega arith) in
    record {
      is_box = built-box b (omega arith);
      size = (b.size_is, b.within);
      count = few-letters b;
      letters = b.letters;
      within = not-above c.args.relations.now c.args.limit c.loop-letter.size b.box b.within;
      unbounded = (
        λ e. cc,
        λ u. absurd (not-unbounded _ _ c.if-is_unbounded.false c.is_unbounded.ensures u),
      );
      limit = λ e. cc;
      not_text = tt;
    }
