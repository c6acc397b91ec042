-- From what is tested of lists to what is asked of a presentation.
use Rattle.std.proofs.Common.{◌≡◌, ℕ, zero, suc, ◌<◌, ◌≤◌, List, [], ◌∷◌, length, arith}
use Rattle.std.specs.Prelude.{slice_index_or, All}
use Rattle.std.specs.List.{AllByRecursion}
use Rattle.presentations.specs.declared.TheConstants.{LETTERS}
use Rattle.presented_text.specs.Spelled.{IsSpellable}
use Rattle.presented_text.specs.Said.{PresentedSaid, IsInRanges}
use Rattle.presented_forms.specs.Form.{IsInForm}
use Rattle.presented_forms.specs.Only.{AreLeastCycles}
use Rattle.presented_forms.specs.Shown.{IsShownLeast}
use Rattle.presented_forms.proofs.LeastCycles.{least_cycle}

long : (ws : List (List ℕ)) → AllByRecursion IsSpellable ws → All (λ w. length w ≡ LETTERS) ws
long [] all k d lt = absurd (omega (arith, lt))
long (w ∷ ws) all zero d lt = all.0.long
long (w ∷ ws) all (suc k) d lt = long ws all.1 k d (omega (arith, lt))

pub are_least : (c : PresentedSaid) → length c.cycles ≤ LETTERS → IsInRanges c → IsInForm c
    → (cycles : List (ℕ × ℕ)) (words : List (List ℕ)) → cycles ≡ c.cycles → words ≡ c.portion
    → ((i : ℕ) (d : ℕ × ℕ) → i < length cycles → IsShownLeast (slice_index_or cycles i d) words i)
    → AreLeastCycles c
are_least c few ranges form cycles words e f shown =
    let shown_ : (i : ℕ) (d : ℕ × ℕ) → i < length c.cycles → IsShownLeast (slice_index_or c.cycles i d) c.portion i =
    rw (← e, ← f) shown in
    λ i d lt. least_cycle c few (long c.portion ranges.portion.1) form.below i d lt (shown_ i d lt)
