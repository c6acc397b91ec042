-- The relations that were read have a table or none, by what `table_of` ensures of its fault.
use Rattle.std.proofs.Common.{ℕ, List, Err, refl, subst}
use Rattle.std.specs.Prelude.{Result, Ok, IfOk}
use Rattle.presentations.specs.declared.TheConstants.{LARGEST_BOX}
use Rattle.presentations.specs.declared.fault.PresFault.{PresFault}
use Rattle.presentations.specs.declared.named.Named.{Named}
use Rattle.presentations.specs.declared.read.Relation.{Relation}
use Rattle.presentations.specs.Powers.{IsAboveLimit}
use Rattle.presentations.specs.Tables.{IsTableOf}
use Rattle.presentations.specs.Text.{SpellsPresentation}
use Rattle.description_commands.specs.Presented.{PresentsMonoid}
use Rattle.description_commands.proofs.tables.monoid_of.Goals as goal

presented : {A : Type 0} (text : List ℕ) (relations : List Relation) (r : Result (Named A) PresFault)
    → SpellsPresentation text relations
    → IfOk r (λ n. IsTableOf relations n.table n.generators.items)
    → IfOk r (λ _. IsAboveLimit relations LARGEST_BOX → ⊥)
    → IfOk r (λ n. PresentsMonoid text n.table n.generators.items)
presented text relations (Ok n) spelled is_table within =
    record { relations = relations; spelled = spelled; is_table = is_table; within = within }
presented text relations (Err f) spelled is_table within = tt

pub returns-clause-table : goal.returns-clause-table
returns-clause-table c =
    let relations = c.in_ok-presentation.presentation in
    presented c.args.text.now relations c.table_of.result
    (subst (λ (b : List ℕ). SpellsPresentation b relations) c.as_bytes.ensures.value
    ((c.in_ok-presentation.ensures.spelled relations).1 refl))
    c.table_of.ensures.table c.table_of.ensures.within
