use Rattle.std.proofs.Common.{◌≡◌, ℕ, ◌<◌, false, length}
use Rattle.std.specs.Prelude.{slice_index_or}
use Rattle.presentations.specs.declared.TheConstants.{LETTERS}
use Rattle.presentations.specs.Vectors.{only}
use Rattle.kept_positions.specs.Numbers.{entry}
use Rattle.presented_claims.specs.Claims.{IsElement, in_portion}
use Rattle.presented_tables.specs.Elements.{element, Takes}
use Rattle.presented_tables.proofs.standing.are_elements.Given as goal

abbrev pub invariant-loop-x : goal.invariant-loop-x
invariant-loop-x g l = record {
  elements : (m : ℕ) → m < l.x → IsElement l.p (element l.e m);
  steps : (m : ℕ) → m < l.x → (i : ℕ) → i < length l.p.letters
      → Takes l.p l.e (only LETTERS i 1) m (entry l.e.steps (length l.p.letters) m i);
  bits : (m : ℕ) → m < l.x → slice_index_or l.e.bits m false ≡ in_portion l.p (element l.e m);
}
