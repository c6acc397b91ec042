-- The laws of tables.
use Rattle.std.specs.Prelude.{◌<◌}
use Rattle.monoid_table.specs.Laws.{CommMonoidLaws}
use Rattle.monoid_table.specs.Grids.{Grid, times_in, IsTable}

abbrev pub IsTableGrid : Grid → Type 0
IsTableGrid g = IsTable g.order g.entries

pub table_laws : (g : Grid) → IsTableGrid g → CommMonoidLaws (λ x. x < g.order) 0 (times_in g)
table_laws g t = record {
  one_in = t.monoid.some;
  times_in = t.monoid.closed;
  identity = t.monoid.identity;
  comm = t.monoid.commutes;
  assoc = t.monoid.associates;
}
