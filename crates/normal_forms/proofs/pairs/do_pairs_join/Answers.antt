use Rattle.std.proofs.Common.{◌∙◌, refl, sym, inl, inr, arith}
use Rattle.std.proofs.lemmas.Bool.{cases_eq, false≢true}
use Rattle.presentations.specs.declared.TheConstants.{LETTERS}
use Rattle.normal_forms.proofs.Sides.{pairs-from}
use Rattle.normal_forms.proofs.pairs.do_pairs_join.Goals as goal

pub loop-i-preserved : goal.loop-i-preserved
loop-i-preserved g c = λ j k d lt below.
    elim (cases_eq j c.loop-i.i) [
      | inl same ↦
          rw same (c.join_before.ensures.joins c.if-not-join_before.false k d (omega (arith, below, same)))
      | inr other ↦ c.loop-i.invariant j k d (omega (arith, lt, other)) below
    ]

pub returns-then-not-join_before : goal.returns-then-not-join_before
returns-then-not-join_before g c = (
  λ t. absurd (false≢true t),
  λ are.
      sym c.if-not-join_before.true ∙ c.join_before.ensures.fails are,
)

pub returns : goal.returns
returns g c = (
  λ t. record {
    oriented = c.requires.oriented;
    joined =
        pairs-from LETTERS c.args.rules.now (λ i k d lt below.
        c.loop-i.invariant i k d (omega (arith, lt, c.loop-i-test.false)) below);
  },
  λ are. refl,
)
