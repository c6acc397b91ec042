-- What the turns of a pair of elements come to. This project's own.
use Rattle.std.specs.Prelude.{◌≡◌, ℕ, ◌<◌, Bool, true, false, List, slice_index}
use Rattle.misere_theory.specs.Certificates.{InRanges, Canonical}
use Rattle.misere_theory.specs.Verdicts.Fault.{Apart}
use Rattle.answers.specs.ByteVerdicts.ByteVerdict.{No}
use Rattle.check_machine.specs.Views.{SeparatingView}
use Rattle.check_machine.specs.Turns.{Phase, Runs, separating_turn, tells_apart}
use Rattle.check_machine.specs.Turns.Phase.{Separating, Heaps, Ended}
use Rattle.checker.specs.declared.separating.Next.{Next}
use Rattle.checker.specs.declared.separating.Next.TheVariants.{Goes, Wrong, Over}

-- The next turn comes to this phase, whatever the limit.
abbrev pub TurnsTo : SeparatingView → Phase → Type 0
TurnsTo s p = (limit : ℕ) → separating_turn limit s ≡ p

-- The element that is tried next tells the pair apart, and it is the one given.
pub record IsTold (s : SeparatingView) : Type 0 where
  pub ranges : InRanges s.certificate
  pub within : s.z < s.certificate.order
  pub given : s.z ≡ slice_index s.certificate.apart s.number
  pub tells : tells_apart s.certificate s.x s.y s.z ≡ true

-- whether the one given is the least
abbrev pub Finds : SeparatingView → Bool → Type 0
Finds s true = IsTold s
Finds s false = TurnsTo s (Ended (No Apart))

-- Of `before` units `after` are left, and each of the others was a turn from s to t. If units are
-- left, then the next turn finds whether the one given is the least.
pub record HasTried (s : SeparatingView) (before after : ℕ) (t : SeparatingView) (right : Bool) : Type 0 where
  pub runs : (bytes : List ℕ) (limit : ℕ)
      → Runs bytes limit (Separating s) before after (Separating t)
  pub finds : 0 < after → Finds t right

-- The next turn brings the check to the next pair, at t, or it is the last of the stage.
abbrev pub GoesOn : SeparatingView → SeparatingView → Bool → Type 0
GoesOn s t true = TurnsTo s (Separating t)
GoesOn s t false =
    (t ≡ s) × Canonical s.certificate
    × TurnsTo s (Heaps (record { certificate = s.certificate; spent = 0 }))

-- What it means that of `before` units `after` are left at t:
--   goes: some were turns;
--   wrong: one more finds the fault;
--   over: one more finds none, and the stage has ended.
abbrev pub Leads : ℕ → ℕ → SeparatingView → Next → Type 0
Leads before after t Goes = after < before
Leads before after t Wrong = (0 < after) × TurnsTo t (Ended (No Apart))
Leads before after t Over =
    (0 < after) × Canonical t.certificate
    × TurnsTo t (Heaps (record { certificate = t.certificate; spent = 0 }))

-- Each unit spent was a turn from s to t, and so it goes on.
pub record HasLooked (s : SeparatingView) (before after : ℕ) (t : SeparatingView) (next : Next) : Type 0 where
  pub runs : (bytes : List ℕ) (limit : ℕ)
      → Runs bytes limit (Separating s) before after (Separating t)
  pub leads : Leads before after t next
