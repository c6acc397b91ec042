-- The certificate of the finite quotient that a presentation is. Misère quotients: Plambeck and Siegel.
use Rattle.std.specs.Prelude.{◌≡◌, ◌↔◌, ◌==◌, ℕ, List, if◌then◌else◌}
use Rattle.misere_theory.specs.Certificates.{Accepted, Certificate, IsHeapOf}
use Rattle.presented_text.specs.Said.{PresentedSaid}
use Rattle.presented_tables.specs.Tested.{HasWord}

-- It is accepted, and of the code and the heaps of which the presentation speaks. If this is right, both are the misère
-- quotient of these heaps.
pub record IsCertificateOf (c : Certificate) (k : PresentedSaid) : Type 0 where
  pub accepted : Accepted c
  pub code : c.code ≡ k.code
  pub heaps : (n : ℕ) → IsHeapOf c n ↔ HasWord k n

-- the last heap of the list, or 0 if words repeat behind it
abbrev pub last_heap : PresentedSaid → ℕ
last_heap k = if k.period == 0 then k.heaps else 0
