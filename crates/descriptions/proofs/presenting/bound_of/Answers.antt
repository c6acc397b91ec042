use Rattle.std.proofs.Common.{◌≡◌, ◌≤◌, ◌∙◌, List, Result, Err, length, sym, subst, ap, arith, IfOk}
use Rattle.presentations.specs.declared.TheConstants.{MOST_RELATIONS, LARGEST_BOX}
use Rattle.presentations.specs.declared.read.Relation.{Relation}
use Rattle.presentations.specs.declared.fault.PresFault.{PresFault}
use Rattle.presentations.specs.declared.fault.PresFault.TheVariants as fault
use Rattle.presentations.specs.Powers.{IsUnbounded, IsAboveLimit}
use Rattle.presentations.specs.Tables.{IsTableOf}
use Rattle.descriptions.proofs.presenting.bound_of.Goals as goal
use Rattle.descriptions.proofs.presenting.bound_of.Goals.{in-Ok, in-Err-Unbounded, in-Err-Limit, in-Err-Memory}

limit-unbounded : {X : Type 0}
    → ◌≡◌ {A = Result X PresFault} (Err fault.Limit) (Err fault.Unbounded) → ⊥
limit-unbounded is = cc

pub returns : goal.returns
returns c =
    let rs = c.args.presentation.now in
    let few : length rs ≤ MOST_RELATIONS =
    subst (λ (xs : List Relation). length xs ≤ MOST_RELATIONS) c.relations.ensures
    (omega (arith, c.if-relations-gt-MOST_RELATIONS.false))
    in
    elim c.match-table_of.branch [
      | in-Ok w ↦
          let named = w.in-Ok.field-0 in
          rw w.result-is (
            few,
            record {
              table = named.table;
              generators = named.generators.items;
              is_table =
                  subst (λ r. IfOk r (λ n. IsTableOf rs n.table n.generators.items)) w.in-Ok.is
                  c.table_of.ensures.table;
              within =
                  subst (λ r. IfOk r (λ n. IsAboveLimit rs LARGEST_BOX → ⊥)) w.in-Ok.is
                  c.table_of.ensures.within;
            },
          )
      | in-Err-Unbounded w ↦
          rw w.result-is (
            few,
            c.table_of.ensures.unbounded.0 (w.in-Err-Unbounded.is ∙ ap Err w.in-Err-Unbounded.field-0-is),
          )
      | in-Err-Limit w ↦
          let is = w.in-Err-Limit.is ∙ ap Err w.in-Err-Limit.field-0-is in
          rw w.result-is (
            few,
            (λ (u : IsUnbounded rs). limit-unbounded (sym is ∙ c.table_of.ensures.unbounded.1 u)),
            c.table_of.ensures.limit is,
          )
      | in-Err-Memory w ↦ rw w.result-is tt
    ]
