use Rattle.std.proofs.Common.{ℕ, ◌<◌, length}
use Rattle.presented_claims.specs.Claims.{IsElement}
use Rattle.class_tables.specs.Classes.{word_at}
use Rattle.class_tables.proofs.Listed.{IsListedWith}
use Rattle.class_tables.proofs.listing.are_classes.Given as goal

abbrev pub invariant-loop-x : goal.invariant-loop-x
invariant-loop-x g l = record {
  elements : (k : ℕ) → k < l.x → IsElement l.p (word_at l.list k);
  more : (k : ℕ) → k < l.x → (i : ℕ) → i < length l.p.letters → IsListedWith l.p l.folds l.list (word_at l.list k) i;
}
