use Rattle.presented_checker.proofs.by_classes.keep_with.Goals as goal

pub returns-clause-kept : goal.returns-clause-kept
returns-clause-kept g c = record {
  tables = c.in_ok-tables.tables;
  tested = c.in_ok-tables.ensures.tables;
  kept = c.in_ok-keep.ensures.kept;
}
