use Rattle.presented_tables.proofs.Claimed.{all-tested}
use Rattle.presented_tables.proofs.answer.tables_of.Goals as goal

pub returns-clause-tables : goal.returns-clause-tables
returns-clause-tables g c =
    let (s, r) = c.in_ok-tables.ensures.tables in
    all-tested c.args.p.now _ s _ c.in_ok-test_within.ensures.relations c.in_ok-test_within.ensures.words
    c.in_ok-test_heaps.ensures.least c.in_ok-test_heaps.ensures.part c.in_ok-test_idle.ensures.one
    c.in_ok-test_ended.ensures.ended c.in_ok-elements.ensures.elements r
