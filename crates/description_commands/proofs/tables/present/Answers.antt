-- Each line is right, by what the fault says.
use Rattle.std.proofs.Common.{Bool, false, ◌≡◌, Err, ap, codes, subst, sym, ◌∙◌}
use Rattle.std.proofs.lemmas.Result.{IfOk-weaker}
use Rattle.monoid_table.specs.Grids.{Grid, IsTable}
use Rattle.command_results.specs.declared.said.Said.{Said}
use Rattle.description_commands.specs.Presented.{PresentsTable}
use Rattle.description_commands.specs.Presented.Presents.{OfRelations}
use Rattle.description_commands.specs.Presented.RefusesTable.{Unbounded, Limit}
use Rattle.description_commands.proofs.tables.present.Goals as goal

pub returns-in_ok-monoid_text-in-Ok-clause-presents :
    goal.returns-in_ok-monoid_text-in-Ok-clause-presents
returns-in_ok-monoid_text-in-Ok-clause-presents c =
    let named = c.in-Ok.named in
    let found = c.in-Ok.ensures.table in
    OfRelations found.relations found.spelled
    (subst (λ (b : Bool). PresentsTable found.relations c.done.result.text.items b)
    (sym c.done.ensures.succeeds)
    record {
      table = named.table;
      generators = named.generators.items;
      monoid = subst (λ (t : Grid). IsTable t.order t.entries) c.drop-in-Ok.view_is
          c.drop-in-Ok.invariant;
      is_table = found.is_table;
      within = found.within;
      lines = c.done.ensures.text ∙ c.in_ok-monoid_text-in-Ok.ensures;
    })

pub returns-in-Err-Unbounded-clause-presents : goal.returns-in-Err-Unbounded-clause-presents
returns-in-Err-Unbounded-clause-presents c =
    let found = c.in-Err-Unbounded.ensures.unbounded (ap Err c.in-Err-Unbounded.field-0-is) in
    IfOk-weaker _ _ _
    (λ (s : Said) (h : (s.text.items ≡ codes "refused 2 Unbounded\n") × (s.succeeds ≡ false)).
    OfRelations found.0 found.1 (subst (λ (b : Bool). PresentsTable found.0 s.text.items b) (sym h.1)
    (Unbounded found.2 h.0))) c.refuse-in-Err-Unbounded.ensures.no

pub returns-in-Err-Limit-clause-presents : goal.returns-in-Err-Limit-clause-presents
returns-in-Err-Limit-clause-presents c =
    let found = c.in-Err-Limit.ensures.limit (ap Err c.in-Err-Limit.field-0-is) in
    IfOk-weaker _ _ _
    (λ (s : Said) (h : (s.text.items ≡ codes "refused 3 Limit\n") × (s.succeeds ≡ false)).
    OfRelations found.0 found.1 (subst (λ (b : Bool). PresentsTable found.0 s.text.items b) (sym h.1)
    (Limit found.2 found.3 h.0))) c.refuse-in-Err-Limit.ensures.no
