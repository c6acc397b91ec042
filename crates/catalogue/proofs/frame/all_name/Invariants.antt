use Rattle.std.proofs.Common.{◌≡◌, ℕ, ◌<◌, length, get_or, is_some}
use Rattle.catalogue.specs.declared.file.Texts.{Texts}
use Rattle.catalogue.proofs.frame.all_name.Given as goal

abbrev pub invariant-loop-entry : goal.invariant-loop-entry
invariant-loop-entry l = (i : ℕ) (t : Texts) → i < l.entry-index → i < length l.entries
    → is_some (get_or l.entries i t).heaps ≡ l.named
