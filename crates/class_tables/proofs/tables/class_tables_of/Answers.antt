use Rattle.std.proofs.Common.{subst}
use Rattle.presentations.specs.declared.TheConstants.{LETTERS}
use Rattle.normal_forms.specs.Reductions.{AreConvergent}
use Rattle.presented_text.specs.Said.{PresentedSaid}
use Rattle.class_tables.specs.Tables.{ClassLists}
use Rattle.class_tables.specs.Separated.{AreBits}
use Rattle.class_tables.proofs.AllTested.{all-tested}
use Rattle.class_tables.proofs.tables.class_tables_of.Goals as goal

pub returns-clause-tables : goal.returns-clause-tables
returns-clause-tables g c =
    let conv = subst (λ (q : PresentedSaid). AreConvergent LETTERS q.relations) c.p.view_is c.rules-rules.ensures.convergent in
    all-tested c.args.p.now c.in_ok-lists.lists c.in_ok-numbers.numbers c.in_ok-tables.tables c.in_ok-turns.turns
    c.in_ok-bits.bits.items conv c.in_ok-test_within.ensures.relations c.in_ok-test_within.ensures.words
    c.in_ok-test_heaps.ensures.tested c.in_ok-lists.ensures.lists c.in_ok-tables.ensures.tables
    c.in_ok-turns.ensures.turned
    (subst (λ (v : ClassLists). AreBits c.args.p.now v c.in_ok-bits.bits.items) c.lists.view_is c.in_ok-bits.ensures.bits)
