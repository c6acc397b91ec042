use Rattle.std.proofs.Common.{◌≡◌, ◌<◌, All, vec_len}
use Rattle.relations.proofs.generating.generated.Given as goal

abbrev pub invariant-loop-at : goal.invariant-loop-at
invariant-loop-at g l = record {
  long : vec_len l.marks ≡ l.table.order;
  within : All (λ e. e < l.table.order) l.found.items;
}

abbrev pub invariant-loop-g : goal.invariant-loop-g
invariant-loop-g g l = record {
  long : vec_len l.marks ≡ l.table.order;
  within : All (λ e. e < l.table.order) l.found.items;
}
