use Rattle.std.proofs.Common.{ℕ, ◌<◌}
use Rattle.presented_claims.specs.Claims.{IsElement}
use Rattle.class_tables.specs.Classes.{word_at}
use Rattle.class_tables.proofs.listing.are_elements.Given as goal

abbrev pub invariant-loop-w : goal.invariant-loop-w
invariant-loop-w g l = (k : ℕ) → k < l.w → IsElement l.p (word_at l.list k)
