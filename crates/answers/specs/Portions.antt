-- The portion of a certificate, as a set. This project's own.
use Rattle.std.specs.Prelude.{◌≡◌, ℕ}
use Rattle.std.specs.FinSet as set
use Rattle.std.specs.Ordering.{nat_cmp}
use Rattle.misere_theory.specs.Certificates.{Certificate, claim_of}

-- the set has the elements of the portion
abbrev pub IsPortion : Certificate → set.FinSet nat_cmp → Type 0
IsPortion c inside = (x : ℕ) → set.contains inside x ≡ (claim_of c).portion x
