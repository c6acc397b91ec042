-- What is said of a presentation that somebody brings. This project's own.
use Rattle.std.specs.Prelude.{◌≡◌, ◌⊎◌, ℕ, Bool, true, false, List, None, codes}
use Rattle.misere_theory.specs.Certificates.{Certificate}
use Rattle.certificate_text.specs.Spelling.{Spells}
use Rattle.presented_text.specs.Spelling.{SpellsPresented}
use Rattle.presented_checker.specs.Refused.{Kept, IsRight}
use Rattle.given_quotients.specs.Told.{TellsRefused}
use Rattle.own_quotients.specs.Same.{IsCertificateOf}

-- that an infinite quotient has no certificate
abbrev pub endless_line : List ℕ
endless_line = codes "not certified: the quotient is infinite\n"

-- that no certificate of a finite one was made
abbrev pub unmade_line : List ℕ
unmade_line = codes "gave up 3 Draft\n"

-- When no certificate of a presentation is made.
abbrev pub GivesUp : Type 1
GivesUp = Kept → Type 0

-- that it has finitely many elements: of when a certificate of these is made, nothing more is claimed
abbrev pub IsFinite : GivesUp
IsFinite k = k.order ≡ None → ⊥

-- the text is that of an accepted certificate of the same code and heaps, and so of the same quotient
pub record IsTextOfSame (k : Kept) (text : List ℕ) : Type 0 where
  pub certificate : Certificate
  pub spelled : Spells text certificate
  pub same : IsCertificateOf certificate k.said

-- What is said of a presentation that is right: the text of such a certificate; or that its quotient is infinite, or that
-- none was made.
abbrev pub CertifiesKeptBy : GivesUp → Kept → List ℕ → Bool → Type 0
CertifiesKeptBy gives_up k text true = IsTextOfSame k text
CertifiesKeptBy gives_up k text false =
    ((k.order ≡ None) × (text ≡ endless_line)) ⊎ (gives_up k × (text ≡ unmade_line))

-- What is said of the bytes of a presentation: they spell one that is right, of which this is said; or the text is that of
-- a true no.
pub data CertifiesPresentedBy (gives_up : GivesUp) (bytes text : List ℕ) (succeeds : Bool) : Type 0 where
  Right : (k : Kept) → SpellsPresented bytes k.said → IsRight k → CertifiesKeptBy gives_up k text succeeds
      → CertifiesPresentedBy gives_up bytes text succeeds
  Refused : TellsRefused bytes text → succeeds ≡ false → CertifiesPresentedBy gives_up bytes text succeeds

-- the same by what makes certificates of presentations
abbrev pub CertifiesPresented : List ℕ → List ℕ → Bool → Type 0
CertifiesPresented bytes text succeeds = CertifiesPresentedBy IsFinite bytes text succeeds
