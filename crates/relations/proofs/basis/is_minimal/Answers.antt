use Rattle.std.proofs.Common.{[], inl, inr, arith}
use Rattle.std.specs.Prelude.{slice_index_or}
use Rattle.std.proofs.lemmas.Bool.{cases_eq}
use Rattle.std.proofs.lemmas.List.{get_or_default}
use Rattle.presentations.specs.declared.read.Relation.{Relation}
use Rattle.relations.specs.Bases.{Divides}
use Rattle.relations.proofs.basis.is_minimal.Goals as goal

abbrev none : Relation
none = record { left = []; right = [] }

pub loop-k-preserved : goal.loop-k-preserved
loop-k-preserved c = λ k d lt ne h.
    let relations = c.args.relations.now in
    let here = c.loop-k.k in
    elim (cases_eq k here) [
      | inl is ↦
          let moved : Divides c.args.letters (slice_index_or relations c.args.i none).left
          (slice_index_or relations here none).left =
          rw (
            get_or_default relations c.args.i none d c.requires.i_in,
            get_or_default relations here none d c.loop-k-test.true,
            ← is,
          ) h
          in
          let impossible = c.if-divides.ensures.1 moved in cc
      | inr other ↦ c.loop-k.invariant k d (omega (arith, other)) ne h
    ]
