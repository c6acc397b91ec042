use Rattle.std.proofs.Common.{◌≡◌, ◌<◌, All, vec_len}
use Rattle.relations.proofs.least.least_words.Given as goal

abbrev pub invariant-loop-at : goal.invariant-loop-at
invariant-loop-at g l = record {
  words : vec_len l.words ≡ l.table.order;
  marks : vec_len l.marks ≡ l.table.order;
  found : All (λ e. e < l.table.order) l.found.items;
}

abbrev pub invariant-loop-i : goal.invariant-loop-i
invariant-loop-i g l = record {
  words : vec_len l.words ≡ l.table.order;
  marks : vec_len l.marks ≡ l.table.order;
  found : All (λ e. e < l.table.order) l.found.items;
}
