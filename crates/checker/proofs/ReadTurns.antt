-- The turn that reads.
-- What is read to the end goes on to the laws, and bytes that spell nothing end the check.
use Rattle.std.proofs.Common.{◌≡◌, ℕ, List, [], ◌∷◌, Option, Some, None, refl}
use Rattle.misere_theory.specs.Certificates.{Certificate}
use Rattle.certificate_text.specs.Reading.{certificate_at}
use Rattle.certificate_text.specs.Spelling.{Spells}
use Rattle.answers.specs.ByteVerdicts.ByteVerdict.{Text}
use Rattle.check_machine.specs.Turns.{opened}
use Rattle.check_machine.specs.Turns.Phase.{Ended}

opened-none : (takes : (b : List ℕ) (c : Certificate) → certificate_at b ≡ Some (c, [])
    → Spells b c) (bytes : List ℕ) (none : (c : Certificate) → Spells bytes c → ⊥)
    (x : Option (Certificate × List ℕ)) → certificate_at bytes ≡ x → Ended Text ≡ opened x
opened-none takes bytes none None e = refl
opened-none takes bytes none (Some (c, [])) e = absurd (none c (takes bytes c e))
opened-none takes bytes none (Some (c, b ∷ rest)) e = refl

pub opened-text : (takes : (b : List ℕ) (c : Certificate) → certificate_at b ≡ Some (c, [])
    → Spells b c) (bytes : List ℕ) → ((c : Certificate) → Spells bytes c → ⊥)
    → Ended Text ≡ opened (certificate_at bytes)
opened-text takes bytes none = opened-none takes bytes none (certificate_at bytes) refl
