use Rattle.std.proofs.Common.{◌≡◌, ◌<◌, ◌-◌, length, drop}
use Rattle.monoid_table.specs.Grids.{times_in}
use Rattle.presentations.specs.Tables.{product_at}
use Rattle.relations.specs.Presented.{vector_of}
use Rattle.relations.proofs.checking.value.Given as goal

abbrev pub invariant-loop-k : goal.invariant-loop-k
invariant-loop-k g l = record {
  value : l.all
      ≡ product_at (times_in l.table) (drop (length l.elements - l.k) l.elements)
      (drop (length l.elements - l.k) (vector_of (length l.elements) l.word));
  within : l.all < l.table.order;
}
