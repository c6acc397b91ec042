-- How many units a check takes at most, by the numbers of the certificate that its bytes spell. This
-- project's own.
use Rattle.std.specs.Prelude.{ℕ, ◌+◌, ◌*◌, ◌≤◌, if◌then◌else◌, List, length}
use Rattle.misere_theory.specs.Games.{leaves_three}
use Rattle.misere_theory.specs.Certificates.{Certificate, certificate_bound}
use Rattle.certificate_text.specs.Spelling.{Spells}

-- the heaps 1 to B of a certificate
abbrev pub bound_of : Certificate → ℕ
bound_of c = certificate_bound c

-- so many turns the pairs of these heaps take at most: (k + 1)B², or (k + 1)B³ where some digit has
-- bit 8
abbrev pub heaps_most : Certificate → ℕ
heaps_most c =
    if leaves_three c.code then length c.code * (bound_of c * (bound_of c * bound_of c))
    else length c.code * (bound_of c * bound_of c)

-- so many turns a check takes at most under a limit: 2q³ + q² + q(n0 + p) + p² + (k + 1)B² + Bq² +
-- B·limit + 16, with (k + 1)B³ for (k + 1)B² where some digit of the code has bit 8
abbrev pub most_turns : ℕ → Certificate → ℕ
most_turns limit c =
    2 * (c.order * c.order * c.order) + c.order * c.order + c.order * (c.start + c.period)
    + c.period * c.period
    + heaps_most c + bound_of c * (c.order * c.order) + bound_of c * limit + 16

-- So many units are no more than a check takes at most: by the certificate that the bytes spell, or
-- 16 where they spell none.
pub record AreWithinBound (bytes : List ℕ) (limit units : ℕ) : Type 0 where
  pub spelled : (c : Certificate) → Spells bytes c → units ≤ most_turns limit c
  pub unspelled : ((c : Certificate) → Spells bytes c → ⊥) → units ≤ 16
