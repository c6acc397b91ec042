use Rattle.presented_checker.proofs.by_classes.settle_with.Goals as goal

pub returns-clause-settled : goal.returns-clause-settled
returns-clause-settled g c = record {
  tables = c.in_ok-tables.tables;
  tested = c.in_ok-tables.ensures.tables;
  settled = c.in_ok-settle.ensures.settled;
}
